-- The summary of the log of a session that is done.
use Rattle.std.proofs.Common.{◌≡◌, ◌∙◌, ℕ, ◌<◌, ◌^◌, List, [], ◌∷◌, ◌++◌, ap, ap₂, append-nil, length, refl, subst, sym}
use Rattle.std.specs.List.{AllByRecursion}
use Rattle.dap_frames.proofs.FrameLaws.{front-steady}
use Rattle.machine_model.specs.Rest.{requests_of, told_of}
use Rattle.machine_model.specs.Runs.{Message}
use Rattle.session_laws.specs.Bytes.{HasLost, went_to}
use Rattle.session_laws.specs.Sending.{IsBehind, IsSentInAll, words_given}
use Rattle.session_laws.proofs.DoneLaws.{is_done}
use Rattle.session_laws.proofs.OverLaws.{are_heard_then}
use Rattle.session_laws.proofs.SentLaws.{is_sent_in_all}
use Rattle.session_laws.proofs.TurnLaws.{Said, are_said}
use Rattle.session_model.specs.LastWords.{AreSpoken, LastWord, last_words}
use Rattle.session_model.specs.Names.{Client, Done, Entry, Limits}
use Rattle.session_model.specs.Session.{Ended, EndedState}
use Rattle.session_model.specs.States.{StreamState}
use Rattle.session_summaries.specs.Summaries.{summary_of, summed}
use Rattle.summary_laws.specs.Messages.{IsReadable, summary_by}
use Rattle.summary_laws.proofs.HeardLaws.{log_hears}
use Rattle.summary_laws.proofs.SentLaws.{log_tells, sent_tells}

-- where there are no words none are said
not_cons : {A : Type 0} (xs : List A) (x : A) (ys : List A) → [] ≡ xs ++ x ∷ ys → ⊥
not_cons [] x ys h = absurd cc
not_cons (first ∷ xs) x ys h = absurd cc

none_left : {words said left : List LastWord} {entries : List Entry} {now : StreamState} {word : LastWord}
    → Said words said (word ∷ left) entries now → words ≡ [] → ⊥
none_left {said} {left} {word} (Said.whole all) none = not_cons said word left (sym none ∙ sym all)
none_left {said} (Said.broken before word unsaid all none_behind proper is) none =
    not_cons said word unsaid (sym none ∙ sym all)

none_said : {begin now : StreamState} {words said left : List LastWord} {entries : List Entry}
    → AreSpoken begin words said left entries now → words ≡ [] → said ≡ []
none_said AreSpoken.none none = refl
none_said (AreSpoken.one_more h) none = absurd (none_left (are_said h) none)
none_said (AreSpoken.cut_short h proper) none = absurd (none_left (are_said h) none)

nothing_behind : (log : List Entry) (e : EndedState) (rest : List ℕ) → IsBehind Client log e rest
    → (HasLost Client log → ⊥) → rest ≡ []
nothing_behind log e rest IsBehind.nothing kept = refl
nothing_behind log e rest (IsBehind.broken lost next less) kept = absurd (kept lost)

pub summed_up : {limits : Limits} {log : List Entry} {messages : List Message} {turns : ℕ} {e : EndedState}
    → Ended limits log messages turns e → e.ending ≡ Done → (HasLost Client log → ⊥)
    → AllByRecursion IsReadable (told_of messages) → length (told_of messages) < 2 ^ 64
    → summary_of log ≡ summary_by messages
summed_up {log} {messages} {e} ended is kept all few =
    let sent = is_sent_in_all Client ended in
    let none : e.said ≡ [] =
    none_said ended.words (ap (λ ending. last_words ending e.last.machine) is) in
    let rest : sent.rest ≡ [] = nothing_behind log e sent.rest sent.behind kept in
    let bytes : went_to Client log ≡ sent.bytes =
    sent.sent_are ∙ ap (λ said. (sent.bytes ++ words_given Client sent.count said) ++ sent.rest) none
    ∙ ap (λ more. (sent.bytes ++ []) ++ more) rest ∙ append-nil (sent.bytes ++ []) ∙ append-nil sent.bytes in
    ap₂ summed
    (log_hears log messages e.last (are_heard_then front-steady ended) (is_done front-steady ended is))
    (log_tells log (told_of messages) sent.count sent.bytes bytes (sent_tells sent.spelled all few))
