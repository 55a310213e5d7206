-- Each ending breaks what is asked of the side, the link or the limit that it names.
use Rattle.std.proofs.Common.{◌≡◌, ◌<◌, ◌⊎◌, inl, inr, ℕ, List, [], ◌∷◌, append_assoc, length, refl, arith, ◌∙◌}
use Rattle.clean_sessions.proofs.ClientLaws.{client_well}
use Rattle.clean_sessions.proofs.TargetLaws.{kept_well, refused_well, target_well}
use Rattle.clean_sessions.proofs.WholeLaws.{never_for_one}
use Rattle.clean_sessions.specs.Endings.{EndsWell, IsWhy}
use Rattle.clean_sessions.specs.Premises.{FewWait, HasTurnsLeft, IsClean, Premise}
use Rattle.dap_frames.proofs.FrameLaws.{front-steady}
use Rattle.machine_model.specs.Runs.{Message, Run}
use Rattle.machine_model.specs.State.{Machine}
use Rattle.run_outcomes.specs.Lines.{status_of_ending}
use Rattle.session_laws.proofs.AlikeLaws.{read_alike}
use Rattle.session_laws.proofs.DoneLaws.{is_done}
use Rattle.session_laws.proofs.EndLaws.{shows}
use Rattle.session_laws.proofs.OverLaws.{are_heard_then, are_replied_then}
use Rattle.session_laws.proofs.RunLaws.{is_run}
use Rattle.session_laws.proofs.TurnLaws.{are_turns_then}
use Rattle.session_causes.specs.Outside.{HasEntry}
use Rattle.session_laws.specs.Endings.{AreLast, IsDone, ShowsInLog}
use Rattle.session_laws.specs.Turns.{AreTurnsThen}
use Rattle.session_model.specs.Causes.{Cause, link_ending}
use Rattle.session_model.specs.Names.{BadClient, BadTarget, Client, ClientLink, Done, Ending, Entry, Flood, Idle, Left}
use Rattle.session_model.specs.Names.{Limits, NoMemory, Side, Spent, Target, TargetLink, TargetRefused}
use Rattle.session_model.specs.Session.{Ended, EndedState, IsLeft}
use Rattle.session_model.specs.States.{id_pending}

-- Limits --------------------------------------------------------------------------------------------------------------

too_many : (limits : Limits) {messages : List Message} {m : Machine} → Run messages m
    → limits.waiting < length m.waiting → FewWait limits messages → ⊥
too_many limits {m = m} run many few = let fits = few m run in omega (arith, many, fits)

none_left : {limits : Limits} {log : List Entry} {turns : ℕ} → AreTurnsThen limits log turns → turns ≡ limits.turns
    → HasTurnsLeft limits log → ⊥
none_left t all more = let are = t.are_waited in omega (arith, are, all, more)

-- What came last ------------------------------------------------------------------------------------------------------

stands : {log : List Entry} {entry : Entry} → AreLast log (entry ∷ []) → HasEntry entry log
stands {entry = entry} last = (last.before, last.after, last.log_is ∙ append_assoc last.before (entry ∷ []) last.after)

-- Each cause ----------------------------------------------------------------------------------------------------------

module _ {limits : Limits} {log : List Entry} {messages : List Message} {turns : ℕ} {e : EndedState}
    (h : Ended limits log messages turns e) where
  link : (side : Side) → ShowsInLog limits log turns (link_ending side) → IsWhy limits log messages (link_ending side)
  link Client last = λ holds. holds (stands last)
  link Target last = λ holds. holds (stands last)

  why_by : {ending : Ending} {entries : List Entry} {taken : ℕ} → ShowsInLog limits log turns ending
      → (ending ≡ Done → IsDone messages) → Cause limits h.earlier e.last ending entries taken
      → IsWhy limits log messages ending
  why_by shown done (Cause.over on is) = done refl
  why_by shown done (Cause.one_thread {at} on is) =
      λ asked. never_for_one (id_pending e.last.streams.commands) at (is_run h.going) asked.2 is
  why_by shown done (Cause.shut listens) = λ stays. stays (stands shown)
  why_by shown done (Cause.lost side listens) = link side shown
  why_by shown done (Cause.broken {side} on allows says proper) = link side shown
  why_by shown done (Cause.misread reads bad) =
      λ speaks. client_well (are_heard_then front-steady h) reads.is_open speaks bad
  why_by shown done (Cause.misheard reads bad) =
      λ asked. target_well (are_replied_then h) (read_alike h.going) (is_run h.going) asked.0 bad
  why_by shown done (Cause.misheard_kept reads bad) =
      λ asked. kept_well (are_replied_then h) (is_run h.going) asked.1 bad
  why_by shown done (Cause.refused reads reply some none) =
      λ little. refused_well (are_replied_then h) little reply some none
  why_by shown done (Cause.flood many) = λ few. too_many limits (is_run h.going) many few
  why_by shown done (Cause.idle waits more quiet) =
      λ patient. patient shown.before shown.after shown.log_is
  why_by shown done (Cause.spent waits all) = λ more. none_left (are_turns_then h) shown more

  why : IsWhy limits log messages e.ending
  why = why_by (shows h) (λ is. is_done front-steady h is) h.cause

pub is_why : {limits : Limits} {log : List Entry} {messages : List Message} {turns : ℕ} {ending : Ending}
    → IsLeft limits log messages turns ending → IsWhy limits log messages ending
is_why (IsLeft.ended h none) = why h
is_why (IsLeft.no_memory g) = tt
is_why (IsLeft.no_memory_then h) = tt

-- All of them ---------------------------------------------------------------------------------------------------------

well_by : (limits : Limits) (log : List Entry) (messages : List Message) (ending : Ending)
    → IsWhy limits log messages ending → IsClean limits log messages → EndsWell messages ending
well_by limits log messages Done is clean = EndsWell.done is
well_by limits log messages Left is clean = absurd (is (clean Premise.client_stays))
well_by limits log messages (BadClient fault at) is clean = absurd (is (clean Premise.client_speaks))
well_by limits log messages (BadTarget fault at id) is clean =
    absurd (is (clean Premise.target_speaks, clean Premise.kept_read, clean Premise.none_suspends_one))
well_by limits log messages ClientLink is clean = absurd (is (clean Premise.links_hold Client))
well_by limits log messages TargetLink is clean = absurd (is (clean Premise.links_hold Target))
well_by limits log messages (TargetRefused set command code) is clean = absurd (is (clean Premise.refuses_little))
well_by limits log messages Idle is clean = absurd (is (clean Premise.is_patient))
well_by limits log messages Spent is clean = absurd (is (clean Premise.has_turns_left))
well_by limits log messages Flood is clean = absurd (is (clean Premise.few_wait))
well_by limits log messages NoMemory is clean = EndsWell.no_memory

pub ends_well : {limits : Limits} {log : List Entry} {messages : List Message} {turns : ℕ} {ending : Ending}
    → IsLeft limits log messages turns ending → IsClean limits log messages → EndsWell messages ending
ends_well {limits} {log} {messages} {ending = ending} left clean =
    well_by limits log messages ending (is_why left) clean

pub status_well : {messages : List Message} {ending : Ending} → EndsWell messages ending
    → (status_of_ending ending ≡ 0) ⊎ (status_of_ending ending ≡ 70)
status_well (EndsWell.done is) = inl refl
status_well EndsWell.no_memory = inr refl
