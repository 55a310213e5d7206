-- A target that is to run on is left by a Dispose, and another one is sent nothing behind the cause.
use Rattle.std.proofs.Common.{◌≡◌, ℕ, ◌<◌, Bool, true, false, cond, List, [], ◌∷◌, ◌++◌, length, map, take, refl}
use Rattle.std.proofs.Common.{sym, ap, subst, ◌∙◌, append_assoc, append-nil}
use Rattle.jdwp_packets.specs.Packets.{command_packet, packet_bytes}
use Rattle.machine_model.proofs.Bools.{first_holds, second_holds}
use Rattle.machine_model.specs.Rest.{without_response}
use Rattle.machine_model.specs.Runs.{Message}
use Rattle.machine_model.specs.State.{Machine, is_attached}
use Rattle.pending_table.specs.Windows.{id_of}
use Rattle.session_laws.specs.Bytes.{went_to}
use Rattle.session_model.specs.LastWords.{AreSpoken, LastWord, client_words, end_word, fails_gone, last_word_said}
use Rattle.session_model.specs.LastWords.{last_words, target_words, word_bytes, word_side}
use Rattle.session_laws.specs.Leaving.{IsLeftToRunOn, LetsRunOn, must_run_on}
use Rattle.session_model.specs.Names.{Attached, BadClient, BadTarget, Client, ClientLink, Done, Ending, Entry, Flood}
use Rattle.session_model.specs.Names.{Fresh, Gone, Idle, Left, Limits, NoMemory, Out, Phase, Request, Spent, Target}
use Rattle.session_model.specs.Names.{TargetLink, TargetRefused}
use Rattle.session_laws.specs.Responses.{tells_client}
use Rattle.session_model.specs.Saying.{one_told, told_bytes}
use Rattle.session_model.specs.Session.{Ended, EndedState}
use Rattle.session_model.specs.States.{StreamState}
use Rattle.session_laws.proofs.Steps.{went-broken}
use Rattle.wire_core.specs.Outside.{broken_send}

-- Which words they are ------------------------------------------------------------------------------------------------

-- those to the client, where it is told of the ending
abbrev pub words_to_client : Bool → Machine → List LastWord
words_to_client true m = client_words m
words_to_client false m = []

-- the one to the target, where it is to run on
abbrev pub word_to_target : Bool → List LastWord
word_to_target true = LastWord.disposes ∷ []
word_to_target false = []

target_words_are : (phase : Phase) → target_words phase ≡ word_to_target (is_attached phase)
target_words_are Fresh = refl
target_words_are Attached = refl
target_words_are Gone = refl

both_are : (m : Machine) → client_words m ++ target_words m.state.phase
    ≡ client_words m ++ word_to_target (is_attached m.state.phase)
both_are m = ap (λ (words : List LastWord). client_words m ++ words) (target_words_are m.state.phase)

pub words_are : (ending : Ending) (m : Machine) → last_words ending m
    ≡ words_to_client (tells_client ending) m ++ word_to_target (must_run_on ending m.state.phase)
words_are Done m = refl
words_are Left m = target_words_are m.state.phase
words_are (BadClient fault at) m = target_words_are m.state.phase
words_are (BadTarget fault at id) m = sym (append-nil (client_words m))
words_are ClientLink m = target_words_are m.state.phase
words_are TargetLink m = sym (append-nil (client_words m))
words_are (TargetRefused set command code) m = both_are m
words_are Idle m = both_are m
words_are Spent m = target_words_are m.state.phase
words_are Flood m = target_words_are m.state.phase
words_are NoMemory m = refl

-- the last of these words leaves the target, and those before it go to the client, where any may
abbrev leaves : Bool → List LastWord → Bool
leaves tells [] = false
leaves tells (LastWord.tells told ∷ words) = cond tells (leaves tells words) false
leaves tells (LastWord.disposes ∷ []) = true
leaves tells (LastWord.disposes ∷ word ∷ words) = false

fails_first : (requests : List Request) (terminated : Bool)
    → leaves true ((map fails_gone requests ++ end_word terminated) ++ LastWord.disposes ∷ []) ≡ true
fails_first [] true = refl
fails_first [] false = refl
fails_first (request ∷ requests) terminated = fails_first requests terminated

leaves_so : (tells : Bool) (m : Machine) → leaves tells (words_to_client tells m ++ word_to_target true) ≡ true
leaves_so true m = fails_first (without_response m) m.state.terminated
leaves_so false m = refl

words_leave : (ending : Ending) (m : Machine) → must_run_on ending m.state.phase ≡ true
    → leaves (tells_client ending) (last_words ending m) ≡ true
words_leave ending m is =
    subst (λ (words : List LastWord). leaves (tells_client ending) words ≡ true)
    (sym (words_are ending m
    ∙ ap (λ (must : Bool). words_to_client (tells_client ending) m ++ word_to_target must) is))
    (leaves_so (tells_client ending) m)

-- all of these words go to the client
abbrev are_told : List LastWord → Bool
are_told [] = true
are_told (LastWord.tells told ∷ words) = are_told words
are_told (LastWord.disposes ∷ words) = false

fails_only : (requests : List Request) (terminated : Bool)
    → are_told ((map fails_gone requests ++ end_word terminated) ++ []) ≡ true
fails_only [] true = refl
fails_only [] false = refl
fails_only (request ∷ requests) terminated = fails_only requests terminated

told_so : (tells : Bool) (m : Machine) → are_told (words_to_client tells m ++ word_to_target false) ≡ true
told_so true m = fails_only (without_response m) m.state.terminated
told_so false m = refl

words_told : (ending : Ending) (m : Machine) → must_run_on ending m.state.phase ≡ false
    → are_told (last_words ending m) ≡ true
words_told ending m is =
    subst (λ (words : List LastWord). are_told words ≡ true)
    (sym (words_are ending m
    ∙ ap (λ (must : Bool). words_to_client (tells_client ending) m ++ word_to_target must) is))
    (told_so (tells_client ending) m)

-- What they leave in the log ------------------------------------------------------------------------------------------

-- the entries of these words, said whole
abbrev entries_of : StreamState → List LastWord → List Entry
entries_of now [] = []
entries_of now (word ∷ words) =
    Out (word_side word) (word_bytes now word) ∷ entries_of (last_word_said now word) words

-- where the session stands in the bytes behind them
abbrev behind : StreamState → List LastWord → StreamState
behind now [] = now
behind now (word ∷ words) = behind (last_word_said now word) words

one_more_entry : (now : StreamState) (said : List LastWord) (word : LastWord) → entries_of now (said ++ word ∷ [])
    ≡ entries_of now said ++ Out (word_side word) (word_bytes (behind now said) word) ∷ []
one_more_entry now [] word = refl
one_more_entry now (first ∷ said) word =
    ap (λ (entries : List Entry). Out (word_side first) (word_bytes now first) ∷ entries)
    (one_more_entry (last_word_said now first) said word)

one_more_behind : (now : StreamState) (said : List LastWord) (word : LastWord)
    → behind now (said ++ word ∷ []) ≡ last_word_said (behind now said) word
one_more_behind now [] word = refl
one_more_behind now (first ∷ said) word = one_more_behind (last_word_said now first) said word

-- what was said stands there, whole; or with it less than the whole of one more
data Spoken (begin : StreamState) (words said left : List LastWord) (entries : List Entry) (now : StreamState)
    : Type 0 where
  whole : said ++ left ≡ words → entries ≡ entries_of begin said → now ≡ behind begin said
      → Spoken begin words said left entries now
  cut : {kept : ℕ} (word : LastWord) (unsaid : List LastWord) → said ++ word ∷ unsaid ≡ words → left ≡ []
      → kept < length (word_bytes (behind begin said) word)
      → entries ≡ entries_of begin said
      ++ broken_send (word_side word) (take kept (word_bytes (behind begin said) word))
      → Spoken begin words said left entries now

more_said : {begin : StreamState} {words said left : List LastWord} {entries : List Entry} {now : StreamState}
    {word : LastWord} → Spoken begin words said (word ∷ left) entries now
    → Spoken begin words (said ++ word ∷ []) left
    (entries ++ Out (word_side word) (word_bytes now word) ∷ []) (last_word_said now word)
more_said {begin} {said} {left} {now} {word} (Spoken.whole all entries_are now_is) =
    Spoken.whole (append_assoc said (word ∷ []) left ∙ all)
    (ap (λ (first : List Entry). first ++ Out (word_side word) (word_bytes now word) ∷ []) entries_are
    ∙ ap (λ (n : StreamState). entries_of begin said ++ Out (word_side word) (word_bytes n word) ∷ []) now_is
    ∙ sym (one_more_entry begin said word))
    (ap (λ (n : StreamState). last_word_said n word) now_is ∙ sym (one_more_behind begin said word))
more_said (Spoken.cut other unsaid all none proper is) = cc

cut_said : {begin : StreamState} {words said left : List LastWord} {entries : List Entry} {now : StreamState}
    {word : LastWord} {kept : ℕ} → kept < length (word_bytes now word)
    → Spoken begin words said (word ∷ left) entries now
    → Spoken begin words said []
    (entries ++ broken_send (word_side word) (take kept (word_bytes now word))) now
cut_said {begin} {said} {left} {now} {word} {kept} proper (Spoken.whole all entries_are now_is) =
    Spoken.cut word left all refl
    (subst (λ (n : StreamState). kept < length (word_bytes n word)) now_is proper)
    (ap (λ (first : List Entry). first ++ broken_send (word_side word) (take kept (word_bytes now word))) entries_are
    ∙ ap (λ (n : StreamState).
    entries_of begin said ++ broken_send (word_side word) (take kept (word_bytes n word))) now_is)
cut_said proper (Spoken.cut other unsaid all none less is) = cc

are_spoken : {begin : StreamState} {words said left : List LastWord} {entries : List Entry} {now : StreamState}
    → AreSpoken begin words said left entries now → Spoken begin words said left entries now
are_spoken AreSpoken.none = Spoken.whole refl refl refl
are_spoken (AreSpoken.one_more h) = more_said (are_spoken h)
are_spoken (AreSpoken.cut_short h proper) = cut_said proper (are_spoken h)

-- To the target -------------------------------------------------------------------------------------------------------

-- a Dispose with the next id (JDWP, VirtualMachine command set, Dispose)
abbrev farewell : StreamState → List ℕ
farewell now = packet_bytes (command_packet (id_of now.commands.next) 1 6 [])

runs_on_whole : (tells : Bool) (now : StreamState) (words : List LastWord) → leaves tells words ≡ true
    → LetsRunOn (farewell now) tells (entries_of now words)
runs_on_whole tells now [] is = cc
runs_on_whole tells now (LastWord.tells told ∷ words) is =
    LetsRunOn.told (first_holds tells (leaves tells words) is)
    (runs_on_whole tells (one_told now) words (second_holds tells (leaves tells words) is))
runs_on_whole tells now (LastWord.disposes ∷ []) is = LetsRunOn.sent
runs_on_whole tells now (LastWord.disposes ∷ word ∷ words) is = cc

runs_on_cut : (tells : Bool) (now : StreamState) (said : List LastWord) (word : LastWord) (unsaid : List LastWord)
    (kept : ℕ) → leaves tells (said ++ word ∷ unsaid) ≡ true → kept < length (word_bytes (behind now said) word)
    → LetsRunOn (farewell now) tells
    (entries_of now said ++ broken_send (word_side word) (take kept (word_bytes (behind now said) word)))
runs_on_cut tells now [] (LastWord.tells told) unsaid kept is proper =
    LetsRunOn.not_told (take kept (told_bytes now.told told)) (first_holds tells (leaves tells unsaid) is)
runs_on_cut tells now [] LastWord.disposes unsaid kept is proper = LetsRunOn.cut_short proper
runs_on_cut tells now (LastWord.tells told ∷ said) word unsaid kept is proper =
    LetsRunOn.told (first_holds tells (leaves tells (said ++ word ∷ unsaid)) is)
    (runs_on_cut tells (one_told now) said word unsaid kept
    (second_holds tells (leaves tells (said ++ word ∷ unsaid)) is) proper)
runs_on_cut tells now (LastWord.disposes ∷ []) word unsaid kept is proper = cc
runs_on_cut tells now (LastWord.disposes ∷ other ∷ said) word unsaid kept is proper = cc

none_whole : (now : StreamState) (said rest : List LastWord) → are_told (said ++ rest) ≡ true
    → went_to Target (entries_of now said) ≡ []
none_whole now [] rest is = refl
none_whole now (LastWord.tells told ∷ said) rest is = none_whole (one_told now) said rest is
none_whole now (LastWord.disposes ∷ said) rest is = cc

none_cut : (now : StreamState) (said : List LastWord) (word : LastWord) (unsaid : List LastWord) (bytes : List ℕ)
    → are_told (said ++ word ∷ unsaid) ≡ true
    → went_to Target (entries_of now said ++ broken_send (word_side word) bytes) ≡ []
none_cut now [] (LastWord.tells told) unsaid bytes is = went-broken Target Client bytes
none_cut now [] LastWord.disposes unsaid bytes is = cc
none_cut now (LastWord.tells told ∷ said) word unsaid bytes is = none_cut (one_told now) said word unsaid bytes is
none_cut now (LastWord.disposes ∷ said) word unsaid bytes is = cc

module _ {limits : Limits} {log : List Entry} {messages : List Message} {turns : ℕ} {e : EndedState}
    (h : Ended limits log messages turns e) where
  runs_on : Spoken e.last.streams (last_words e.ending e.last.machine) e.said e.left h.by_words e.streams
      → leaves (tells_client e.ending) (last_words e.ending e.last.machine) ≡ true → e.left ≡ []
      → LetsRunOn (farewell e.last.streams) (tells_client e.ending) h.by_words
  runs_on (Spoken.whole all entries_are now_is) is none =
      subst (λ (entries : List Entry). LetsRunOn (farewell e.last.streams) (tells_client e.ending) entries)
      (sym entries_are)
      (runs_on_whole (tells_client e.ending) e.last.streams e.said
      (subst (λ (words : List LastWord). leaves (tells_client e.ending) words ≡ true)
      (sym (sym (append-nil e.said) ∙ ap (λ (left : List LastWord). e.said ++ left) (sym none) ∙ all)) is))
  runs_on (Spoken.cut {kept} word unsaid all none_left proper entries_are) is none =
      subst (λ (entries : List Entry). LetsRunOn (farewell e.last.streams) (tells_client e.ending) entries)
      (sym entries_are)
      (runs_on_cut (tells_client e.ending) e.last.streams e.said word unsaid kept
      (subst (λ (words : List LastWord). leaves (tells_client e.ending) words ≡ true) (sym all) is) proper)

  none_sent : Spoken e.last.streams (last_words e.ending e.last.machine) e.said e.left h.by_words e.streams
      → are_told (last_words e.ending e.last.machine) ≡ true → went_to Target h.by_words ≡ []
  none_sent (Spoken.whole all entries_are now_is) is =
      ap (λ (entries : List Entry). went_to Target entries) entries_are
      ∙ none_whole e.last.streams e.said e.left
      (subst (λ (words : List LastWord). are_told words ≡ true) (sym all) is)
  none_sent (Spoken.cut {kept} word unsaid all none_left proper entries_are) is =
      ap (λ (entries : List Entry). went_to Target entries) entries_are
      ∙ none_cut e.last.streams e.said word unsaid (take kept (word_bytes (behind e.last.streams e.said) word))
      (subst (λ (words : List LastWord). are_told words ≡ true) (sym all) is)

  pub is_left_to_run_on : IsLeftToRunOn e h.by_words
  is_left_to_run_on = record {
    runs_on = λ must none. runs_on (are_spoken h.words) (words_leave e.ending e.last.machine must) none;
    none_sent = λ stays. none_sent (are_spoken h.words) (words_told e.ending e.last.machine stays);
  }
