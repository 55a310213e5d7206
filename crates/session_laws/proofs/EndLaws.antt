-- What an ending says of the log is there.
use Rattle.std.proofs.Common.{◌≡◌, ℕ, true, List, [], ◌∷◌, ◌++◌, take, refl, sym, ap, subst, ◌∙◌, arith}
use Rattle.std.proofs.Common.{append_assoc, append-nil}
use Rattle.std.specs.List.{AllByRecursion}
use Rattle.std.specs.Prelude.{replicate}
use Rattle.machine_model.specs.Runs.{Message}
use Rattle.session_model.specs.Names.{Client, Ending, Entry, Failed, Limits, Out, Quiet, Side, Target}
use Rattle.session_model.specs.Causes.{Cause, link_ending}
use Rattle.session_laws.specs.Endings.{AreLast, ShowsInLog, is_sending}
use Rattle.session_model.specs.LastWords.{AreSpoken, LastWord}
use Rattle.session_model.specs.Session.{Ended, EndedState}
use Rattle.session_model.specs.States.{StreamState}
use Rattle.session_laws.proofs.QuietLaws.{quiet_so}
use Rattle.wire_core.specs.Outside.{broken_send}

-- Last words are sends ------------------------------------------------------------------------------------------------

abbrev AreSends : List Entry → Type 0
AreSends log = AllByRecursion (λ (entry : Entry). is_sending entry ≡ true) log

more_sends : (log more : List Entry) → AreSends log → AreSends more → AreSends (log ++ more)
more_sends [] more sends others = others
more_sends (entry ∷ log) more sends others = (sends.0, more_sends log more sends.1 others)

broken_sends : (side : Side) (bytes : List ℕ) → AreSends (broken_send side bytes)
broken_sends side [] = (refl, tt)
broken_sends side (b ∷ bytes) = (refl, (refl, tt))

words_send : {begin : StreamState} {words said left : List LastWord} {entries : List Entry} {now : StreamState}
    → AreSpoken begin words said left entries now → AreSends entries
words_send AreSpoken.none = tt
words_send (AreSpoken.one_more {entries} h) = more_sends entries _ (words_send h) (refl, tt)
words_send (AreSpoken.cut_short {entries} h proper) = more_sends entries _ (words_send h) (broken_sends _ _)

-- What came last ------------------------------------------------------------------------------------------------------

-- what a cause leaves in the log ends with these
record Leaves (entries last : List Entry) : Type 0 where
  pub first : List Entry
  pub entries_are : entries ≡ first ++ last

broken_leaves : (side : Side) (bytes : List ℕ) → Leaves (broken_send side bytes) (Failed side ∷ [])
broken_leaves side [] = record { first = []; entries_are = refl }
broken_leaves side (b ∷ bytes) = record { first = Out side (b ∷ bytes) ∷ []; entries_are = refl }

module _ {limits : Limits} {log : List Entry} {messages : List Message} {turns : ℕ} {e : EndedState}
    (h : Ended limits log messages turns e) where
  are_last : {last : List Entry} → Leaves (h.before ++ h.by_cause) last → AreLast log last
  are_last {last} l = record {
    before = l.first;
    after = h.by_words;
    log_is = h.log_is ∙ ap (λ first. first ++ h.by_words) l.entries_are;
    only_words = words_send h.words;
  }

  by_cause : {last : List Entry} → Leaves h.by_cause last → Leaves (h.before ++ h.by_cause) last
  by_cause {last} l = record {
    first = h.before ++ l.first;
    entries_are = ap (λ more. h.before ++ more) l.entries_are ∙ sym (append_assoc h.before l.first last);
  }

  link_lost : (side : Side) → Leaves h.by_cause (Failed side ∷ []) → ShowsInLog limits log turns (link_ending side)
  link_lost Client l = are_last (by_cause l)
  link_lost Target l = are_last (by_cause l)

  shows_by : {ending : Ending} {entries : List Entry} {taken : ℕ} → h.by_cause ≡ entries → h.taken ≡ taken
      → Cause limits h.earlier e.last ending entries taken → ShowsInLog limits log turns ending
  shows_by is took (Cause.shut listens) =
      are_last (by_cause (record { first = []; entries_are = is }))
  shows_by is took (Cause.lost side listens) = link_lost side (record { first = []; entries_are = is })
  shows_by is took (Cause.broken {side} {bytes} {kept} on allows speaks proper) =
      link_lost side (subst (λ entries. Leaves entries (Failed side ∷ [])) (sym is)
      (broken_leaves side (take kept bytes)))
  shows_by is took (Cause.idle waits more quiet) =
      let q = quiet_so h.going in
      are_last (record {
        first = q.before;
        entries_are = ap (λ more. h.before ++ more) is ∙ append-nil h.before ∙ q.log_is
            ∙ ap (λ n. q.before ++ replicate n Quiet) quiet;
      })
  shows_by is took (Cause.spent waits all) = let turns = h.turns_are in omega (arith, turns, took, all)
  shows_by is took (Cause.over on done) = tt
  shows_by is took (Cause.one_thread on over) = tt
  shows_by is took (Cause.misread reads bad) = tt
  shows_by is took (Cause.misheard reads bad) = tt
  shows_by is took (Cause.misheard_kept reads bad) = tt
  shows_by is took (Cause.refused reads reply some intolerable) = tt
  shows_by is took (Cause.flood many) = tt

  pub shows : ShowsInLog limits log turns e.ending
  shows = shows_by refl refl h.cause
