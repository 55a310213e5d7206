-- Causes that leave no entry in the log, by what they stand in: what is due, the items that wait, what was read, or a
-- wait.
use Rattle.std.proofs.Common.{◌≡◌, ◌<◌, ◌+◌, ℕ, Bool, true, false, List, [], ◌∷◌, None, Some}
use Rattle.std.proofs.Common.{length, take, refl, sym, ap, ◌∙◌, arith}
use Rattle.dap_frames.specs.Frames.{frame_front}
use Rattle.machine_model.specs.Due.{can_read}
use Rattle.session_causes.proofs.Acts.{is_step}
use Rattle.session_causes.proofs.Sides.{IsOneSided, IsTargetIdle, client_alone, target_idle}
use Rattle.session_causes.proofs.Verdicts.{Sentence, client_ending, client_ends, one_kept, one_sentence, refusal_ends}
use Rattle.session_causes.proofs.Verdicts.{some_front, target_ends, verdict}
use Rattle.session_laws.specs.Replies.{AreReadAlike}
use Rattle.session_model.specs.Causes.{Cause, IsOn, IsWaiting, ReadsOn}
use Rattle.session_model.specs.Faults.{IsClientFault, IsKeptFault}
use Rattle.session_model.specs.Names.{Act, BadClient, BadTarget, ClientFault, Done, Ending, Entry, Finish}
use Rattle.session_model.specs.Names.{finish_done, finish_one_thread, Flood, Idle, Limits, PolicyThread, Side}
use Rattle.session_model.specs.Names.{Spent, TargetFault}
use Rattle.session_model.specs.States.{SessionState, due_now}
use Rattle.target_bodies.specs.Hearing.{header}
use Rattle.wire_core.specs.Outside.{broken_send}
use Rattle.wire_core.specs.Streams.{Front, Uncut}

-- What they stand in --------------------------------------------------------------------------------------------------

-- the ending by the machine's own
abbrev pub finish_ending : Finish → Ending
finish_ending finish_done = Done
finish_ending (finish_one_thread at) = BadTarget PolicyThread (at + header) 0

-- what was read is refused
pub data Trouble (s : SessionState) : Ending → Type 0 where
  of_client : {fault : ClientFault} {offset : ℕ} → can_read s.machine ≡ false → s.machine.closing ≡ false
      → IsClientFault s.streams.client fault offset → Trouble s (BadClient fault offset)
  of_target : {ending : Ending} → can_read s.machine ≡ false
      → s.machine.state.greeting_heard ≡ s.streams.target.greeted → Sentence s (verdict s) ending → Trouble s ending
  of_kept : {fault : TargetFault} {offset : ℕ} → IsKeptFault s.machine fault offset
      → Trouble s (BadTarget fault offset 0)

-- a limit is reached
pub data Tired (limits : Limits) (turns : ℕ) (s : SessionState) : Ending → Type 0 where
  too_quiet : turns < limits.turns → s.quiets ≡ limits.quiet → Tired limits turns s Idle
  too_long : turns ≡ limits.turns → Tired limits turns s Spent

pub data Plain (limits : Limits) (turns : ℕ) (s : SessionState) : Ending → Type 0 where
  by_machine : (finish : Finish) → IsOn limits s → (due_now s).act ≡ Act.Over finish
      → Plain limits turns s (finish_ending finish)
  by_many : limits.waiting < length s.machine.waiting → Plain limits turns s Flood
  by_reading : {ending : Ending} → ReadsOn limits s → Trouble s ending → Plain limits turns s ending
  by_waiting : {ending : Ending} → IsWaiting limits s → Tired limits turns s ending → Plain limits turns s ending

-- a send that failed is in the log
broken_some : (side : Side) (bytes : List ℕ) → broken_send side bytes ≡ [] → ⊥
broken_some side [] is = cc
broken_some side (b ∷ bytes) is = cc

pub plain : {limits : Limits} {turns : ℕ} {s : SessionState} {ending : Ending} {entries : List Entry} {taken : ℕ}
    → Cause limits turns s ending entries taken → entries ≡ [] → Plain limits turns s ending
plain (Cause.over on is) none = Plain.by_machine finish_done on is
plain (Cause.one_thread {at} on is) none = Plain.by_machine (finish_one_thread at) on is
plain (Cause.shut listens) none = cc
plain (Cause.lost side listens) none = cc
plain (Cause.broken {side} {bytes} {kept} on allows says proper) none =
    absurd (broken_some side (take kept bytes) none)
plain (Cause.misread r bad) none = Plain.by_reading r.reads (Trouble.of_client r.none_to_read r.is_open bad)
plain (Cause.misheard r bad) none =
    Plain.by_reading r.reads (Trouble.of_target r.none_to_read r.greeted (target_ends bad))
plain (Cause.misheard_kept r bad) none = Plain.by_reading r (Trouble.of_kept bad)
plain (Cause.refused r reply some none_other) none =
    Plain.by_reading r.reads (Trouble.of_target r.none_to_read r.greeted (refusal_ends reply some none_other))
plain (Cause.flood many) none = Plain.by_many many
plain (Cause.idle w more quiet) none = Plain.by_waiting w (Tired.too_quiet more quiet)
plain (Cause.spent w all) none = Plain.by_waiting w (Tired.too_long all)

-- What excludes them --------------------------------------------------------------------------------------------------

no_flood : {limits : Limits} {s : SessionState} → IsOn limits s → limits.waiting < length s.machine.waiting → ⊥
no_flood on many = let few = on.no_flood in omega (arith, few, many)

-- What bars each cause here: no more wait than may; the machine isn't over; nothing that was read is refused; and no
-- limit is reached at a wait.
pub record Bars (limits : Limits) (turns : ℕ) (s : SessionState) : Type 0 where
  pub on : IsOn limits s
  pub goes_on : (finish : Finish) → (due_now s).act ≡ Act.Over finish → ⊥
  pub untroubled : (ending : Ending) → ReadsOn limits s → Trouble s ending → ⊥
  pub untired : (ending : Ending) → IsWaiting limits s → Tired limits turns s ending → ⊥

barred : {limits : Limits} {turns : ℕ} {s : SessionState} {ending : Ending} → Bars limits turns s
    → Plain limits turns s ending → ⊥
barred b (Plain.by_machine finish on is) = b.goes_on finish is
barred b (Plain.by_many many) = no_flood b.on many
barred {ending = ending} b (Plain.by_reading r trouble) = b.untroubled ending r trouble
barred {ending = ending} b (Plain.by_waiting w tired) = b.untired ending w tired

pub no_cause : {limits : Limits} {turns : ℕ} {s : SessionState} → Bars limits turns s → (ending : Ending)
    → Cause limits turns s ending [] 0 → ⊥
no_cause b ending cause = barred b (plain cause refl)

-- where the machine goes on by itself
pub busy : {limits : Limits} {turns : ℕ} {s : SessionState} → IsOn limits s → is_step (due_now s).act ≡ true
    → Bars limits turns s
busy on is = record {
  on = on;
  goes_on = λ finish over. let no : true ≡ false = sym is ∙ ap is_step over in cc;
  untroubled = λ ending r trouble. let no : true ≡ false = sym is ∙ ap is_step r.nothing_due in cc;
  untired = λ ending w tired. let no : true ≡ false = sym is ∙ ap is_step w.reads.reads.nothing_due in cc;
}

-- where nothing is due, it isn't over
pub not_over : (s : SessionState) → (due_now s).act ≡ Act.Waits → (finish : Finish)
    → (due_now s).act ≡ Act.Over finish → ⊥
not_over s waits finish over = let no : Act.Waits ≡ Act.Over finish = sym waits ∙ over in cc

-- nothing is read wrong where the client's bytes wait
pub client_reads : {u : Uncut} {fault : ClientFault} {offset : ℕ} → IsClientFault u fault offset
    → frame_front u.pending ≡ Front.waits → ⊥
client_reads {u} {fault} {offset} bad none =
    let no : None ≡ Some (BadClient fault offset) =
    sym (ap (λ front. client_ending u.at front) none) ∙ client_ends bad in cc

-- a fault of the client's shows that the target has nothing to take up
pub client_faulty : {s : SessionState} {fault : ClientFault} {offset : ℕ} → IsOneSided s → s.machine.closing ≡ false
    → IsClientFault s.streams.client fault offset → IsTargetIdle s × (s.streams.ended ≡ false)
client_faulty {s} sided is_open bad = target_idle sided (client_alone s is_open (client_reads bad))

pub read_twice : {can : Bool} → can ≡ false → can ≡ true → ⊥
read_twice none some = cc

-- at a wait nothing is refused
pub waits_well : {limits : Limits} {s : SessionState} → IsWaiting limits s → (ending : Ending) → Trouble s ending → ⊥
waits_well {s = s} w ending (Trouble.of_client read is_open bad) = client_alone s is_open (client_reads bad) w.no_frame
waits_well w ending (Trouble.of_target read greeted sentence) = some_front sentence w.no_packet
waits_well w ending (Trouble.of_kept bad) = read_twice w.reads.none_to_read bad.can_be_read

pub waiting : {limits : Limits} {turns : ℕ} {s : SessionState} → IsWaiting limits s → turns < limits.turns
    → s.quiets < limits.quiet → Bars limits turns s
waiting {limits} {turns} {s} w more patient = record {
  on = w.reads.reads.on;
  goes_on = not_over s w.reads.reads.nothing_due;
  untroubled = λ ending r trouble. waits_well w ending trouble;
  untired = λ ending also tired. in_time tired;
}
  where
    in_time : {ending : Ending} → Tired limits turns s ending → ⊥
    in_time (Tired.too_quiet less quiet) = omega (arith, quiet, patient)
    in_time (Tired.too_long all) = omega (arith, all, more)

-- One alone -----------------------------------------------------------------------------------------------------------

same_some : {one other : Ending} → Some one ≡ Some other → one ≡ other
same_some is = cc

excludes : {s : SessionState} {fault : ClientFault} {offset : ℕ} {ending : Ending} → IsOneSided s
    → s.machine.closing ≡ false → IsClientFault s.streams.client fault offset → Sentence s (verdict s) ending → ⊥
excludes sided is_open bad sentence = some_front sentence (client_faulty sided is_open bad).0.front

pub one_trouble : {s : SessionState} {one other : Ending} → AreReadAlike s → IsOneSided s → Trouble s one
    → Trouble s other → one ≡ other
one_trouble alike sided (Trouble.of_client read is_open bad) (Trouble.of_client reads opens worse) =
    same_some (sym (client_ends bad) ∙ client_ends worse)
one_trouble alike sided (Trouble.of_client read is_open bad) (Trouble.of_target reads greeted sentence) =
    absurd (excludes sided is_open bad sentence)
one_trouble alike sided (Trouble.of_target reads greeted sentence) (Trouble.of_client read is_open bad) =
    absurd (excludes sided is_open bad sentence)
one_trouble alike sided (Trouble.of_client read is_open bad) (Trouble.of_kept k) =
    absurd (read_twice read k.can_be_read)
one_trouble alike sided (Trouble.of_kept k) (Trouble.of_client read is_open bad) =
    absurd (read_twice read k.can_be_read)
one_trouble alike sided (Trouble.of_target read greeted sentence) (Trouble.of_target reads greets other) =
    same_some (one_sentence alike sentence other)
one_trouble alike sided (Trouble.of_target read greeted sentence) (Trouble.of_kept k) =
    absurd (read_twice read k.can_be_read)
one_trouble alike sided (Trouble.of_kept k) (Trouble.of_target read greeted sentence) =
    absurd (read_twice read k.can_be_read)
one_trouble alike sided (Trouble.of_kept bad) (Trouble.of_kept worse) = same_some (one_kept bad worse)

one_tired : {limits : Limits} {turns : ℕ} {s : SessionState} {one other : Ending} → Tired limits turns s one
    → Tired limits turns s other → one ≡ other
one_tired (Tired.too_quiet more quiet) (Tired.too_quiet less quiets) = refl
one_tired (Tired.too_quiet more quiet) (Tired.too_long all) = absurd (omega (arith, more, all))
one_tired (Tired.too_long all) (Tired.too_quiet more quiet) = absurd (omega (arith, more, all))
one_tired (Tired.too_long all) (Tired.too_long also) = refl

one_finish : (one other : Finish) → Act.Over one ≡ Act.Over other → one ≡ other
one_finish one other is = cc

pub one_plain : {limits : Limits} {turns : ℕ} {s : SessionState} {one other : Ending} → AreReadAlike s → IsOneSided s
    → Plain limits turns s one → Plain limits turns s other → one ≡ other
one_plain alike sided (Plain.by_machine first on is) (Plain.by_machine second also so) =
    ap finish_ending (one_finish first second (sym is ∙ so))
one_plain alike sided (Plain.by_machine finish on is) (Plain.by_many many) = absurd (no_flood on many)
one_plain {s = s} alike sided (Plain.by_machine finish on is) (Plain.by_reading r trouble) =
    absurd (not_over s r.nothing_due finish is)
one_plain {s = s} alike sided (Plain.by_machine finish on is) (Plain.by_waiting w tired) =
    absurd (not_over s w.reads.reads.nothing_due finish is)
one_plain alike sided (Plain.by_many many) (Plain.by_machine finish on is) = absurd (no_flood on many)
one_plain alike sided (Plain.by_many many) (Plain.by_many more) = refl
one_plain alike sided (Plain.by_many many) (Plain.by_reading r trouble) = absurd (no_flood r.on many)
one_plain alike sided (Plain.by_many many) (Plain.by_waiting w tired) = absurd (no_flood w.reads.reads.on many)
one_plain {s = s} alike sided (Plain.by_reading r trouble) (Plain.by_machine finish on is) =
    absurd (not_over s r.nothing_due finish is)
one_plain alike sided (Plain.by_reading r trouble) (Plain.by_many many) = absurd (no_flood r.on many)
one_plain alike sided (Plain.by_reading r trouble) (Plain.by_reading s other) = one_trouble alike sided trouble other
one_plain {one = one} alike sided (Plain.by_reading r trouble) (Plain.by_waiting w tired) =
    absurd (waits_well w one trouble)
one_plain {s = s} alike sided (Plain.by_waiting w tired) (Plain.by_machine finish on is) =
    absurd (not_over s w.reads.reads.nothing_due finish is)
one_plain alike sided (Plain.by_waiting w tired) (Plain.by_many many) = absurd (no_flood w.reads.reads.on many)
one_plain {other = other} alike sided (Plain.by_waiting w tired) (Plain.by_reading r trouble) =
    absurd (waits_well w other trouble)
one_plain alike sided (Plain.by_waiting w tired) (Plain.by_waiting v tires) = one_tired tired tires
