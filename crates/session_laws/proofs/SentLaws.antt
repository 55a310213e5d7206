-- What each side is sent in all are the messages that go to it, and last words.
use Rattle.std.proofs.Common.{◌≡◌, ℕ, ◌<◌, Bool, true, false, List, [], ◌∷◌, ◌++◌, length, map, take, refl}
use Rattle.std.proofs.Common.{sym, ap, subst, ◌∙◌, append_assoc, append-nil}
use Rattle.std.proofs.lemmas.List.Concat.{flat_map-append}
use Rattle.machine_model.specs.Rest.{without_response}
use Rattle.machine_model.specs.Runs.{Allows, Message}
use Rattle.machine_model.specs.State.{Machine}
use Rattle.session_model.specs.Names.{Attached, Client, Ending, Entry, Fresh, Gone, Limits, Phase, Request}
use Rattle.session_model.specs.Names.{Side, Target}
use Rattle.session_laws.specs.Bytes.{HasLost, went_by, went_to}
use Rattle.session_model.specs.Causes.{Cause, link_ending}
use Rattle.session_model.specs.LastWords.{LastWord, end_word, fails_gone}
use Rattle.session_model.specs.LastWords.{last_words, target_words, word_bytes, word_side}
use Rattle.session_model.specs.Saying.{Speaks}
use Rattle.session_laws.specs.Sending.{IsBehind, IsNext, IsSent, IsSentInAll}
use Rattle.session_laws.specs.Sending.{number_behind, word_given, words_given}
use Rattle.session_model.specs.Session.{Ended, EndedState}
use Rattle.session_model.specs.States.{SessionState, StreamState}
use Rattle.session_laws.proofs.Steps.{went-broken, lost_behind, lost_by, still_lost}
use Rattle.session_laws.proofs.TurnLaws.{Said, are_said}
use Rattle.wire_core.specs.Outside.{broken_send}
use Rattle.session_laws.proofs.SpokenLaws.{Gives, are_given}
use Rattle.session_laws.proofs.SendLaws.{is_sent}

-- The side whose link failed is told no last word ---------------------------------------------------------------------

abbrev is_other : Side → LastWord → Bool
is_other Client (LastWord.tells told) = false
is_other Client LastWord.disposes = true
is_other Target (LastWord.tells told) = true
is_other Target LastWord.disposes = false

abbrev AreOther : Side → List LastWord → Type 0
AreOther side [] = Unit {0}
AreOther side (word ∷ words) = (is_other side word ≡ true) × AreOther side words

target_other : (phase : Phase) → AreOther Client (target_words phase)
target_other Fresh = tt
target_other Attached = (refl, tt)
target_other Gone = tt

end_other : (terminated : Bool) → AreOther Target (end_word terminated)
end_other true = tt
end_other false = (refl, tt)

fails_other : (requests : List Request) (words : List LastWord) → AreOther Target words
    → AreOther Target (map fails_gone requests ++ words)
fails_other [] words h = h
fails_other (request ∷ requests) words h = (refl, fails_other requests words h)

words_other : (side : Side) (m : Machine) → AreOther side (last_words (link_ending side) m)
words_other Client m = target_other m.state.phase
words_other Target m = fails_other (without_response m) (end_word m.state.terminated) (end_other m.state.terminated)

no_word : (side : Side) (n : ℕ) (word : LastWord) → is_other side word ≡ true → word_given side n word ≡ []
no_word Client n (LastWord.tells told) is = cc
no_word Client n LastWord.disposes is = refl
no_word Target n (LastWord.tells told) is = refl
no_word Target n LastWord.disposes is = cc

none_given : (side : Side) (n : ℕ) (said rest : List LastWord) → AreOther side (said ++ rest)
    → words_given side n said ≡ []
none_given side n [] rest h = refl
none_given side n (word ∷ said) rest h =
    ap (λ more. more ++ words_given side (number_behind side n word) said) (no_word side n word h.0)
    ∙ none_given side (number_behind side n word) said rest h.1

not_own : (side : Side) (word : LastWord) → word_side word ≡ side → is_other side word ≡ true → ⊥
not_own Client (LastWord.tells told) own is = cc
not_own Client LastWord.disposes own is = cc
not_own Target (LastWord.tells told) own is = cc
not_own Target LastWord.disposes own is = cc

last_other : (side : Side) (said : List LastWord) (word : LastWord) (unsaid : List LastWord)
    → AreOther side (said ++ word ∷ unsaid) → is_other side word ≡ true
last_other side [] word unsaid h = h.0
last_other side (first ∷ said) word unsaid h = last_other side said word unsaid h.1

-- Once it has ended ---------------------------------------------------------------------------------------------------

-- what a cause gives a side: nothing, or less than the whole of a message that was due
data CauseGives (side : Side) (s : SessionState) (ending : Ending) (entries : List Entry) : Type 0 where
  nothing : went_to side entries ≡ [] → CauseGives side s ending entries
  cut : {message : Message} {next : Machine} {bytes : List ℕ} {streams : StreamState} {kept : ℕ}
      → Allows s.machine message next → Speaks s message side bytes streams → kept < length bytes
      → ending ≡ link_ending side → went_to side entries ≡ take kept bytes → HasLost side entries
      → CauseGives side s ending entries

cut_by : (side to : Side) {s : SessionState} {message : Message} {next : Machine} {bytes : List ℕ}
    {streams : StreamState} (kept : ℕ) → Allows s.machine message next → Speaks s message to bytes streams
    → kept < length bytes → CauseGives side s (link_ending to) (broken_send to (take kept bytes))
cut_by Client Client {bytes} kept allows speaks proper =
    CauseGives.cut allows speaks proper refl (went-broken Client Client (take kept bytes))
    (lost_by [] Client (take kept bytes))
cut_by Client Target {bytes} kept allows speaks proper =
    CauseGives.nothing (went-broken Client Target (take kept bytes))
cut_by Target Client {bytes} kept allows speaks proper =
    CauseGives.nothing (went-broken Target Client (take kept bytes))
cut_by Target Target {bytes} kept allows speaks proper =
    CauseGives.cut allows speaks proper refl (went-broken Target Target (take kept bytes))
    (lost_by [] Target (take kept bytes))

cause_gives : (side : Side) {limits : Limits} {turns : ℕ} {s : SessionState} {ending : Ending} {entries : List Entry}
    {taken : ℕ} → Cause limits turns s ending entries taken → CauseGives side s ending entries
cause_gives side (Cause.broken {side = to} {kept} on allows speaks proper) = cut_by side to kept allows speaks proper
cause_gives side (Cause.over on is) = CauseGives.nothing refl
cause_gives side (Cause.one_thread on is) = CauseGives.nothing refl
cause_gives side (Cause.shut listens) = CauseGives.nothing refl
cause_gives side (Cause.lost to listens) = CauseGives.nothing refl
cause_gives side (Cause.misread reads bad) = CauseGives.nothing refl
cause_gives side (Cause.misheard reads bad) = CauseGives.nothing refl
cause_gives side (Cause.misheard_kept reads bad) = CauseGives.nothing refl
cause_gives side (Cause.refused reads reply some intolerable) = CauseGives.nothing refl
cause_gives side (Cause.flood many) = CauseGives.nothing refl
cause_gives side (Cause.idle waits more quiet) = CauseGives.nothing refl
cause_gives side (Cause.spent waits all) = CauseGives.nothing refl

module _ (side : Side) {limits : Limits} {log : List Entry} {messages : List Message} {turns : ℕ} {e : EndedState}
    (h : Ended limits log messages turns e) (base : IsSent side h.before messages e.last) where
  joined : went_to side log ≡ (went_to side h.before ++ went_to side h.by_cause) ++ went_to side h.by_words
  joined = ap (λ l. went_to side l) h.log_is ∙ flat_map-append (went_by side) (h.before ++ h.by_cause) h.by_words
      ∙ ap (λ all. all ++ went_to side h.by_words) (flat_map-append (went_by side) h.before h.by_cause)

  lost_in_words : HasLost side h.by_words → HasLost side log
  lost_in_words lost =
      subst (λ l. HasLost side l) (sym h.log_is) (lost_behind (h.before ++ h.by_cause) lost)

  lost_in_cause : HasLost side h.by_cause → HasLost side log
  lost_in_cause lost =
      subst (λ l. HasLost side l) (sym h.log_is) (still_lost h.by_words (lost_behind h.before lost))

  -- the cause gave nothing
  by_words : went_to side h.by_cause ≡ []
      → Gives side base.count (last_words e.ending e.last.machine) e.said e.left h.by_words e.streams
      → IsSentInAll side log messages e
  by_words none (Gives.whole is) = record {
    count = base.count;
    bytes = went_to side h.before;
    rest = [];
    spelled = base.spelled;
    sent_are = joined ∙ ap (λ more. (went_to side h.before ++ more) ++ went_to side h.by_words) none
        ∙ ap (λ all. all ++ went_to side h.by_words) (append-nil (went_to side h.before))
        ∙ ap (λ more. went_to side h.before ++ more) is
        ∙ sym (append-nil (went_to side h.before ++ words_given side base.count e.said));
    behind = IsBehind.nothing;
  }
  by_words none (Gives.cut {kept} word unsaid all none_left own proper is lost) = record {
    count = base.count;
    bytes = went_to side h.before;
    rest = take kept (word_bytes e.streams word);
    spelled = base.spelled;
    sent_are = joined ∙ ap (λ more. (went_to side h.before ++ more) ++ went_to side h.by_words) none
        ∙ ap (λ all. all ++ went_to side h.by_words) (append-nil (went_to side h.before))
        ∙ ap (λ more. went_to side h.before ++ more) is
        ∙ sym (append_assoc (went_to side h.before) (words_given side base.count e.said)
        (take kept (word_bytes e.streams word)));
    behind = IsBehind.broken (lost_in_words lost) (IsNext.of_words word unsaid own (sym all)) proper;
  }

  -- the cause cut a message short, and no word went to this side
  by_message : {message : Message} {next : Machine} {bytes : List ℕ} {streams : StreamState} {kept : ℕ}
      → Allows e.last.machine message next → Speaks e.last message side bytes streams → kept < length bytes
      → went_to side h.by_cause ≡ take kept bytes → HasLost side h.by_cause
      → AreOther side (last_words e.ending e.last.machine)
      → Gives side base.count (last_words e.ending e.last.machine) e.said e.left h.by_words e.streams
      → (rest : List LastWord) → e.said ++ rest ≡ last_words e.ending e.last.machine
      → IsSentInAll side log messages e
  by_message {bytes} {kept} allows speaks proper is lost others (Gives.whole words) rest all =
      let none = none_given side base.count e.said rest (subst (λ w. AreOther side w) (sym all) others) in
      record {
        count = base.count;
        bytes = went_to side h.before;
        rest = take kept bytes;
        spelled = base.spelled;
        sent_are = joined ∙ ap (λ more. (went_to side h.before ++ more) ++ went_to side h.by_words) is
            ∙ ap (λ more. (went_to side h.before ++ take kept bytes) ++ more) (words ∙ none)
            ∙ append-nil (went_to side h.before ++ take kept bytes)
            ∙ ap (λ all. all ++ take kept bytes) (sym (append-nil (went_to side h.before))
            ∙ ap (λ more. went_to side h.before ++ more) (sym none));
        behind = IsBehind.broken (lost_in_cause lost) (IsNext.of_machine allows speaks) proper;
      }
  by_message allows speaks proper is lost others (Gives.cut word unsaid all none_left own less words also) rest same =
      absurd (not_own side word own
      (last_other side e.said word unsaid (subst (λ w. AreOther side w) (sym all) others)))

  rest_of : Said (last_words e.ending e.last.machine) e.said e.left h.by_words e.streams
      → (rest : List LastWord) × (e.said ++ rest ≡ last_words e.ending e.last.machine)
  rest_of (Said.whole all) = (e.left, all)
  rest_of (Said.broken before word unsaid all none proper is) = (word ∷ unsaid, all)

  by_gives : CauseGives side e.last e.ending h.by_cause → IsSentInAll side log messages e
  by_gives (CauseGives.nothing none) = by_words none (are_given side base.count base.counted h.words).gives
  by_gives (CauseGives.cut allows speaks proper ending is lost) =
      let said = rest_of (are_said h.words) in
      by_message allows speaks proper is lost
      (subst (λ ending. AreOther side (last_words ending e.last.machine)) (sym ending)
      (words_other side e.last.machine))
      (are_given side base.count base.counted h.words).gives said.0 said.1

pub is_sent_in_all : (side : Side) {limits : Limits} {log : List Entry} {messages : List Message} {turns : ℕ}
    {e : EndedState} → Ended limits log messages turns e → IsSentInAll side log messages e
is_sent_in_all side h = by_gives side h (is_sent side h.going) (cause_gives side h.cause)
