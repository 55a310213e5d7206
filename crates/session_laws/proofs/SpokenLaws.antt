-- What last words give to each side.
use Rattle.std.proofs.Common.{◌≡◌, ℕ, ◌+◌, ◌<◌, List, [], ◌∷◌, ◌++◌, length, take, refl}
use Rattle.std.proofs.Common.{sym, ap, subst, ◌∙◌, append_assoc, append-nil}
use Rattle.std.proofs.lemmas.List.Concat.{flat_map-append}
use Rattle.jdwp_packets.specs.Packets.{command_packet, packet_bytes}
use Rattle.session_model.specs.Names.{Client, Entry, Out}
use Rattle.session_model.specs.Names.{Side, Target}
use Rattle.session_laws.specs.Bytes.{HasLost, of_side, went_by, went_to}
use Rattle.session_model.specs.LastWords.{AreSpoken, LastWord}
use Rattle.session_model.specs.LastWords.{last_word_said, word_bytes, word_side}
use Rattle.session_model.specs.Saying.{told_bytes}
use Rattle.session_laws.specs.Sending.{IsCounted}
use Rattle.session_laws.specs.Sending.{number_behind, word_given, words_given}
use Rattle.session_model.specs.States.{StreamState}
use Rattle.session_laws.proofs.Steps.{flat_map_one_more, went-broken, lost_by}
use Rattle.session_laws.proofs.TurnLaws.{Said, are_said}
use Rattle.wire_core.specs.Outside.{broken_send}
use Rattle.session_laws.proofs.SendLaws.{same_command}

-- Last words ----------------------------------------------------------------------------------------------------------

abbrev pub number_after : Side → ℕ → List LastWord → ℕ
number_after side n [] = n
number_after side n (word ∷ words) = number_after side (number_behind side n word) words

number_one_more : (side : Side) (n : ℕ) (said : List LastWord) (word : LastWord)
    → number_after side n (said ++ word ∷ []) ≡ number_behind side (number_after side n said) word
number_one_more side n [] word = refl
number_one_more side n (first ∷ said) word = number_one_more side (number_behind side n first) said word

words_one_more : (side : Side) (n : ℕ) (said : List LastWord) (word : LastWord)
    → words_given side n (said ++ word ∷ [])
    ≡ words_given side n said ++ word_given side (number_after side n said) word
words_one_more side n [] word = append-nil (word_given side n word)
words_one_more side n (first ∷ said) word =
    ap (λ more. word_given side n first ++ more) (words_one_more side (number_behind side n first) said word)
    ∙ sym (append_assoc (word_given side n first) (words_given side (number_behind side n first) said)
    (word_given side (number_after side (number_behind side n first) said) word))

counted_word : (side : Side) (now : StreamState) (n : ℕ) (word : LastWord) → IsCounted side now n
    → IsCounted side (last_word_said now word) (number_behind side n word)
counted_word Client now n (LastWord.tells told) is = ap (λ k. k + 1) is
counted_word Client now n LastWord.disposes is = is
counted_word Target now n (LastWord.tells told) is = is
counted_word Target now n LastWord.disposes is = is

word_to : (side : Side) (now : StreamState) (n : ℕ) (word : LastWord) → IsCounted side now n
    → of_side side (word_side word) (word_bytes now word) ≡ word_given side n word
word_to Client now n (LastWord.tells told) is = ap (λ k. told_bytes k told) is
word_to Client now n LastWord.disposes is = refl
word_to Target now n (LastWord.tells told) is = refl
word_to Target now n LastWord.disposes is =
    same_command (λ id. packet_bytes (command_packet id 1 6 [])) now.commands.next n is

-- what the words that were said give a side: all of them, whole; or less than the whole of one more
pub data Gives (side : Side) (n : ℕ) (words said left : List LastWord) (entries : List Entry) (now : StreamState)
    : Type 0 where
  whole : went_to side entries ≡ words_given side n said → Gives side n words said left entries now
  cut : {kept : ℕ} (word : LastWord) (unsaid : List LastWord) → said ++ word ∷ unsaid ≡ words → left ≡ []
      → word_side word ≡ side → kept < length (word_bytes now word)
      → went_to side entries ≡ words_given side n said ++ take kept (word_bytes now word) → HasLost side entries
      → Gives side n words said left entries now

pub record AreGiven (side : Side) (n : ℕ) (words said left : List LastWord) (entries : List Entry) (now : StreamState)
    : Type 0 where
  pub counted : IsCounted side now (number_after side n said)
  pub gives : Gives side n words said left entries now

-- a word that is cut short, to this side or to the other
gives_cut : (side to : Side) (n : ℕ) {words said : List LastWord} {now : StreamState} (left : List LastWord)
    (entries : List Entry) (kept : ℕ) (word : LastWord) → word_side word ≡ to → said ++ word ∷ left ≡ words
    → kept < length (word_bytes now word)
    → went_to side (entries ++ broken_send to (take kept (word_bytes now word)))
    ≡ words_given side n said ++ of_side side to (take kept (word_bytes now word))
    → Gives side n words said [] (entries ++ broken_send to (take kept (word_bytes now word))) now
gives_cut Client Client n left entries kept word own all proper is =
    Gives.cut word left all refl own proper is (lost_by entries Client _)
gives_cut Client Target n {said} left entries kept word own all proper is =
    Gives.whole (is ∙ append-nil (words_given Client n said))
gives_cut Target Client n {said} left entries kept word own all proper is =
    Gives.whole (is ∙ append-nil (words_given Target n said))
gives_cut Target Target n left entries kept word own all proper is =
    Gives.cut word left all refl own proper is (lost_by entries Target _)

-- while a word is left, those before it were said whole
are_whole : (side : Side) (n : ℕ) {words said left : List LastWord} {entries : List Entry} {now : StreamState}
    {word : LastWord} → Gives side n words said (word ∷ left) entries now
    → went_to side entries ≡ words_given side n said
are_whole side n (Gives.whole is) = is
are_whole side n (Gives.cut word unsaid all none own proper is lost) = cc

all_said : {words said left : List LastWord} {entries : List Entry} {now : StreamState} {word : LastWord}
    → Said words said (word ∷ left) entries now → said ++ word ∷ left ≡ words
all_said (Said.whole all) = all
all_said (Said.broken before word unsaid all none proper is) = cc

pub are_given : (side : Side) {begin : StreamState} {words said left : List LastWord} {entries : List Entry}
    {now : StreamState} (n : ℕ)
    → IsCounted side begin n → AreSpoken begin words said left entries now
    → AreGiven side n words said left entries now
are_given side n counted AreSpoken.none = record { counted = counted; gives = Gives.whole refl }
are_given side n counted (AreSpoken.one_more {said} {entries} {now} {word} h) =
    let before = are_given side n counted h in
    record {
      counted = subst (λ k. IsCounted side (last_word_said now word) k) (sym (number_one_more side n said word))
          (counted_word side now (number_after side n said) word before.counted);
      gives = Gives.whole (flat_map_one_more (went_by side) entries (Out (word_side word) (word_bytes now word))
          ∙ ap (λ all. all ++ of_side side (word_side word) (word_bytes now word)) (are_whole side n before.gives)
          ∙ ap (λ more. words_given side n said ++ more)
          (word_to side now (number_after side n said) word before.counted)
          ∙ sym (words_one_more side n said word));
    }
are_given side n counted (AreSpoken.cut_short {said} {left} {entries} {now} {word} {kept} h proper) =
    let before = are_given side n counted h in
    let cut : List ℕ = take kept (word_bytes now word) in
    record {
      counted = before.counted;
      gives = gives_cut side (word_side word) n left entries kept word refl (all_said (are_said h)) proper
          (flat_map-append (went_by side) entries (broken_send (word_side word) cut)
          ∙ ap (λ all. all ++ went_to side (broken_send (word_side word) cut)) (are_whole side n before.gives)
          ∙ ap (λ more. words_given side n said ++ more) (went-broken side (word_side word) cut));
    }
