-- What is done before a suspension is undone, and that at rest none is held.
use Rattle.std.proofs.Common.{◌≡◌, Bool, true, false, cond, List, [], ◌∷◌, ◌++◌, Option, Some, refl, ap, subst, ◌∙◌}
use Rattle.std.proofs.Common.{arith, ℕ}
use Rattle.machine_model.specs.Due.{due}
use Rattle.machine_model.specs.Knowing.{held_in, held_with, lookup_stops, may_send, view_of}
use Rattle.machine_model.specs.Lookups.{finished}
use Rattle.machine_model.specs.Outcomes.{result_of}
use Rattle.machine_model.specs.Plans.{Result}
use Rattle.machine_model.specs.Rest.{IsAtRest}
use Rattle.machine_model.specs.Rows.{chosen, failure_of, news_of, parts_by, parts_of, request_parts, row_of, wanting}
use Rattle.machine_model.specs.Rows.{refused_with, stepped_by, written_by}
use Rattle.machine_model.specs.Runs.{Allows, Message, Run, said}
use Rattle.machine_model.specs.State.{Hand, Machine, State, is_attached, is_gone}
use Rattle.machine_model.specs.Suspending.{IsBoundFirst, IsHeld}
use Rattle.machine_model.specs.Telling.{after_event}
use Rattle.machine_model.specs.Stops.{decided, surplus, told_part, judged}
use Rattle.machine_model.specs.Pending.{bit}
use Rattle.machine_steps.specs.Names.{Written, Act, Attached, Choice, Command, Configured, Decides, Deed, Does}
use Rattle.machine_steps.specs.Names.{Judges, Strike, breakpoint_hits}
use Rattle.machine_steps.specs.Names.{EntryHeld, Event, Failure, Finding, Item, Leaves, Lookup, Note, Part, Phase}
use Rattle.machine_steps.specs.Names.{Resume, Stopping, Suspension, TellsNews, a_question, a_raw, a_request, a_stop}
use Rattle.machine_steps.specs.Names.{an_effect, of_composite, HaltCause, Stepped, ThreadId, of_entry, of_stop}
use Rattle.machine_laws.proofs.BindingLaws.{binding, in_front}
use Rattle.machine_laws.proofs.BindingParts.{IsBinding}
use Rattle.machine_steps.proofs.HeldLaws.{due_sends}
use Rattle.machine_laws.proofs.KnowingLaws.{is_known}
use Rattle.machine_steps.proofs.RequestLaws.{Settling, front_set, settles, settling}
use Rattle.machine_steps.proofs.SizeLaws.{replied_parts, asked_parts}
use Rattle.machine_steps.proofs.Stepping.{IsAt, Moves, by_runs, moved, Loses}
use Rattle.machine_steps.proofs.Tables.{free, free_once, of_decided, told_alike, of_judged}
use Rattle.machine_steps.proofs.Testing.{IsTest, Passed, same_noted, same_numbered, same_replied, tested, whole}
use Rattle.machine_laws.proofs.BindingHands.{binds_ahead}
use Rattle.std.specs.Prelude.{◌+◌}
use Rattle.machine_steps.proofs.RequestSteps.{decides, is_choice, needs_set, parts_left}

-- Behind a Resume nothing more is set or bound ----------------------------------------------------------------------

-- a suspension is undone, or a stop is told, or what becomes of a suspension is still to be decided
abbrev is_resume : Part → Bool
is_resume (Part.Sends (Resume suspension)) = true
is_resume (Part.Tells (a_stop stopping)) = true
is_resume (Part.Looks (breakpoint_hits strikes)) = true
is_resume (Part.Looks lookup) = lookup_stops lookup
is_resume (Part.Unfolds Judges) = true
is_resume (Part.Unfolds (Decides logged stops)) = true
is_resume (Part.Unfolds Stepped) = true
is_resume _ = false

-- a note that changes nothing of event requests
abbrev is_calm_note : Note → Bool
is_calm_note EntryHeld = true
is_calm_note Configured = true
is_calm_note _ = false

-- a part that doesn't
abbrev is_calm : Part → Bool
is_calm (Part.Responds outcome) = true
is_calm (Part.Sends deed) = true
is_calm (Part.Notes note) = is_calm_note note
is_calm _ = false

abbrev are_calm : List Part → Bool
are_calm [] = true
are_calm (part ∷ parts) = cond (is_calm part) (are_calm parts) false

abbrev resume_last : List Part → Bool
resume_last [] = true
resume_last (part ∷ parts) = cond (cond (is_resume part) (are_calm parts) true) (resume_last parts) false

abbrev ends_resumed : Bool → List Part → Bool
ends_resumed gone parts = resume_last parts

row_last : (failure : Option Failure) (command : Command) (state : State)
    → resume_last (parts_by failure (row_of command state)) ≡ true
row_last failure command state = grind arith

begun_last : (state : State) (item : Item) → resume_last (parts_of state item) ≡ true
begun_last state (a_request request) = row_last (failure_of (wanting request.command) state) request.command state
begun_last state (a_raw at body) = refl
begun_last state _ = grind arith

rest_last : (part : Part) (rest : List Part) → resume_last (part ∷ rest) ≡ true → resume_last rest ≡ true
rest_last part rest is = grind (arith, is)

chosen_last : (choice : Choice) (state : State) (hand : Hand) (rest : List Part)
    → resume_last (Part.Unfolds choice ∷ rest) ≡ true → resume_last (chosen choice state hand ++ rest) ≡ true
chosen_last (TellsNews below) state hand rest is =
    told_alike resume_last (λ news parts. refl) state.phase (news_of below state hand.item) rest ∙ is
chosen_last Judges state hand rest is =
    of_judged (λ (parts : List Part). resume_last (parts ++ rest) ≡ true) (rest_last (Part.Unfolds Judges) rest is)
    (λ strikes. is) state hand.item
chosen_last (Decides logged stops) state hand rest is =
    let last = rest_last (Part.Unfolds (Decides logged stops)) rest is in
    of_decided (λ (parts : List Part). resume_last (parts ++ rest) ≡ true) last last is
    (λ stopped thrown stops halt. by_stop stopped stops halt.cause halt.thread) (λ text texts stops. is) state logged
    stops hand.item
  where
    by_stop : (stopped : Bool) (stops : List Strike) (cause : HaltCause) (thread : ThreadId)
        → resume_last (told_part stops cause thread ∷ surplus stopped ++ rest) ≡ true
    by_stop stopped stops cause thread = grind (arith, is)
chosen_last _ state hand rest is = grind (arith, is)

last_test : IsTest ends_resumed
last_test = record {
  none = λ gone. refl;
  tail = λ gone part rest is. rest_last part rest is;
  begins = begun_last;
  unfolds = λ choice state hand rest is. chosen_last choice state hand rest is;
  finds = λ lookup result state rest is. grind (arith, is);
  gives_up = λ responds item. grind arith;
}

calm_behind : (suspension : Suspension) (rest : List Part)
    → resume_last (Part.Sends (Resume suspension) ∷ rest) ≡ true → are_calm rest ≡ true
calm_behind suspension rest is = grind (arith, is)

calm_set : (attached : Bool) (rest : List Part) → are_calm rest ≡ true → attached ≡ true → needs_set attached rest ≡ true
calm_set attached [] calm is = is
calm_set attached (part ∷ rest) calm is = grind (arith, calm, is, calm_set attached rest)

calm_binds : (rest : List Part) → are_calm rest ≡ true → binds_ahead rest ≡ false
calm_binds [] calm = refl
calm_binds (part ∷ rest) calm = grind (arith, calm, calm_binds rest)

-- It stands in an attached session ------------------------------------------------------------------------------------

abbrev has_resume : List Part → Bool
has_resume [] = false
has_resume (part ∷ parts) = cond (is_resume part) true (has_resume parts)

abbrev resumes_attached : Phase → List Part → Bool
resumes_attached phase parts = cond (is_gone phase) true (cond (has_resume parts) (is_attached phase) true)

abbrev IsResumed : Machine → Type 0
IsResumed m = resumes_attached m.state.phase (parts_left m.hand) ≡ true

row_resumed : (state : State) (command : Command)
    → resumes_attached state.phase (request_parts command state) ≡ true
row_resumed state command = grind arith

begun_resumed : (state : State) (item : Item) → resumes_attached state.phase (parts_of state item) ≡ true
begun_resumed state (a_request request) = row_resumed state request.command
begun_resumed state _ = grind arith

at_front : {m : Machine} {hand : Hand} {part : Part} {rest : List Part} → IsResumed m → IsAt m hand part rest
    → resumes_attached m.state.phase (part ∷ rest) ≡ true
at_front {m} h at = subst (λ (parts : List Part). resumes_attached m.state.phase parts ≡ true) at.parts
    (subst (λ (held : Option Hand). resumes_attached m.state.phase (parts_left held) ≡ true) at.in_hand h)

rest_resumed : (phase : Phase) (part : Part) (rest : List Part) → resumes_attached phase (part ∷ rest) ≡ true
    → resumes_attached phase rest ≡ true
rest_resumed phase part rest is = grind (arith, is)

found_same : (lookup : Lookup) (result : Result Finding) (state : State) (rest : List Part)
    → has_resume (finished lookup result state ++ rest) ≡ has_resume (Part.Looks lookup ∷ rest)
found_same lookup result state rest = grind arith

there_anyway : (gone attached has : Bool) → cond gone true attached ≡ true
    → cond gone true (cond has attached true) ≡ true
there_anyway gone attached has is = grind (arith, is)

chosen_resumed : (choice : Choice) (state : State) (hand : Hand) (rest : List Part)
    → resumes_attached state.phase (Part.Unfolds choice ∷ rest) ≡ true
    → resumes_attached state.phase (chosen choice state hand ++ rest) ≡ true
chosen_resumed (TellsNews below) state hand rest is =
    told_alike (resumes_attached state.phase) (λ news parts. refl) state.phase (news_of below state hand.item) rest ∙ is
chosen_resumed Judges state hand rest is =
    there_anyway (is_gone state.phase) (is_attached state.phase) (has_resume (judged state hand.item ++ rest)) is
chosen_resumed (Decides logged stops) state hand rest is =
    there_anyway (is_gone state.phase) (is_attached state.phase)
    (has_resume (decided state logged stops hand.item ++ rest)) is
chosen_resumed Stepped state hand rest is =
    there_anyway (is_gone state.phase) (is_attached state.phase) (has_resume (stepped_by (refused_with hand.effect) ++ rest)) is
chosen_resumed (Written seen) state hand rest is = by_code (refused_with hand.effect)
  where
    by_code : (code : Option ℕ) → resumes_attached state.phase (written_by seen code ++ rest) ≡ true
    by_code code = grind arith
chosen_resumed (Leaves exits) state hand rest is = grind (arith, is)

event_resumed : (event : Event) (state : State) (rest : List Part) → resumes_attached state.phase rest ≡ true
    → resumes_attached (after_event event state).phase rest ≡ true
event_resumed event state rest is = grind (arith, is)

resumed_on : (m next : Machine) (said : Option Message) → IsResumed m → Moves m said next → IsResumed next
resumed_on m next said h (Moves.begins picked free none is) = begun_resumed m.state picked.item
resumed_on m next said h (Moves.drops {hand} free is none) =
    subst (λ (parts : List Part). resumes_attached m.state.phase parts ≡ true) none
    (subst (λ (held : Option Hand). resumes_attached m.state.phase (parts_left held) ≡ true) is h)
resumed_on m next said h (Moves.responds {rest = rest} {outcome = outcome} free at is) =
    rw (same_numbered outcome m.state) (rest_resumed m.state.phase (Part.Responds outcome) rest (at_front h at))
resumed_on m next said h (Moves.finds {rest = rest} {lookup} found free at needs done) =
    rw (found_same lookup (result_of found) m.state rest) (at_front h at)
resumed_on m next said h (Moves.passes_over {part = part} {rest} free at why) =
    rest_resumed m.state.phase part rest (at_front h at)
resumed_on m next said h (Moves.tells {rest = rest} {event} free at) =
    event_resumed event m.state rest (rest_resumed m.state.phase (Part.Tells event) rest (at_front h at))
resumed_on m next said h (Moves.sends {rest = rest} {deed} free at near) =
    rest_resumed m.state.phase (Part.Sends deed) rest (at_front h at)
resumed_on m next said h (Moves.updates free at is near) = at_front h at
resumed_on m next said h (Moves.notes {note = note} {rest} free at) =
    rw (same_noted note m.state) (rest_resumed m.state.phase (Part.Notes note) rest (at_front h at))
resumed_on m next said h (Moves.unfolds {hand} {choice} {rest} free at) =
    chosen_resumed choice m.state hand rest (at_front h at)
resumed_on m next said h (Moves.queues free is) =
    subst (λ (held : Option Hand). resumes_attached m.state.phase (parts_left held) ≡ true) is h
resumed_on m next said h (Moves.asks {want = want} free room is are) = rw (asked_parts want m.hand) h
resumed_on m next said h (Moves.answers {question} {replied} is waits reply stays) =
    rw (same_replied (a_question question) replied m.state, replied_parts (a_question question) replied m.hand) h
resumed_on m next said h (Moves.replies {effect} {replied} is flies reply stays) =
    rw (same_replied (an_effect effect) replied m.state, replied_parts (an_effect effect) replied m.hand) h
resumed_on m next said h (Moves.loses late near why) = refl
resumed_on m next said h _ = h

resumed : {messages : List Message} {m : Machine} → Run messages m → IsResumed m
resumed r = by_runs {Holds = λ (messages : List Message) (m : Machine). IsResumed m} (record {
  starts = refl;
  moves = λ messages m next said before h moved after. resumed_on m next said h moved;
  queues = λ messages m hand queue before may h. h;
}) r

-- Bound before the target runs on -------------------------------------------------------------------------------------

attached_there : (phase : Phase) (suspension : Suspension) (rest : List Part) → is_gone phase ≡ false
    → resumes_attached phase (Part.Sends (Resume suspension) ∷ rest) ≡ true → is_attached phase ≡ true
attached_there phase suspension rest near is = grind (arith, near, is)

-- the part in front undoes a suspension
bound_at : (m : Machine) (hand : Hand) (deed : Deed) (suspension : Suspension) (rest : List Part) → Settling m
    → IsBinding m → Passed ends_resumed m → IsResumed m → is_gone m.state.phase ≡ false
    → IsAt m hand (Part.Sends deed) rest → deed ≡ Resume suspension → IsBoundFirst m.state
bound_at m hand (Resume held) suspension rest s b t h near at is =
    let calm = calm_behind held rest (whole ends_resumed t at) in
    record {
      none_due = front_set m hand (Part.Sends (Resume held)) rest s.set at
          (calm_set (is_attached m.state.phase) rest calm
          (attached_there m.state.phase held rest near (at_front h at)));
      bound = (in_front b at).bound (calm_binds rest calm);
    }
bound_at m hand deed suspension rest s b t h near at is = cc

-- a stop is told, or it is decided on the suspension of a composite, or on a step
abbrev stands_bound : Part → Bool
stands_bound (Part.Tells (a_stop stopping)) = true
stands_bound (Part.Unfolds choice) = is_choice choice
stands_bound _ = false

stands_near : (gone : Bool) (part : Part) (rest : List Part) → stands_bound part ≡ true
    → free_once gone (part ∷ rest) ≡ true → gone ≡ false
stands_near gone part rest is free = grind (arith, is, free)

stands_calm : (part : Part) (rest : List Part) → stands_bound part ≡ true → resume_last (part ∷ rest) ≡ true
    → are_calm rest ≡ true
stands_calm part rest is last = grind (arith, is, last)

stands_there : (phase : Phase) (part : Part) (rest : List Part) → stands_bound part ≡ true → is_gone phase ≡ false
    → resumes_attached phase (part ∷ rest) ≡ true → is_attached phase ≡ true
stands_there phase part rest is near there = grind (arith, is, near, there)

stands_needs : (attached : Bool) (part : Part) (rest : List Part) → stands_bound part ≡ true
    → needs_set attached rest ≡ true → needs_set attached (part ∷ rest) ≡ true
stands_needs attached part rest is needs = grind (arith, is, needs)

stands_binds : (part : Part) (rest : List Part) → stands_bound part ≡ true → binds_ahead rest ≡ false
    → binds_ahead (part ∷ rest) ≡ false
stands_binds part rest is none = grind (arith, is, none)

bound_front : {messages : List Message} {m : Machine} {hand : Hand} {part : Part} {rest : List Part} → Run messages m
    → IsAt m hand part rest → stands_bound part ≡ true → IsBoundFirst m.state
bound_front {m = m} {hand} {part} {rest} r at is =
    let near = stands_near (is_gone m.state.phase) part rest is (whole free_once (tested free r) at) in
    let calm = stands_calm part rest is (whole ends_resumed (tested last_test r) at) in
    record {
      none_due = front_set m hand part rest (settling r near).set at
          (stands_needs (is_attached m.state.phase) part rest is (calm_set (is_attached m.state.phase) rest calm
          (stands_there m.state.phase part rest is near (at_front (resumed r) at))));
      bound = (in_front (binding r near) at).bound (stands_binds part rest is (calm_binds rest calm));
    }

pub bound_at_stop : {messages : List Message} {m : Machine} {hand : Hand} {stopping : Stopping} {rest : List Part}
    → Run messages m → IsAt m hand (Part.Tells (a_stop stopping)) rest → IsBoundFirst m.state
bound_at_stop r at = bound_front r at refl

pub bound_at_choice : {messages : List Message} {m : Machine} {hand : Hand} {choice : Choice} {rest : List Part}
    → Run messages m → IsAt m hand (Part.Unfolds choice) rest → decides (Part.Unfolds choice) ≡ true
    → IsBoundFirst m.state
bound_at_choice r at is = bound_front r at is

resume_at : (m next : Machine) (said : Option Message) (suspension : Suspension) → Settling m → IsBinding m
    → Passed ends_resumed m → IsResumed m → said ≡ Some (Message.sends (an_effect (Does (Resume suspension))))
    → is_gone m.state.phase ≡ false → Moves m said next → IsBoundFirst m.state
resume_at m next said suspension s b t h is close (Moves.sends {hand} {rest} {deed} free at near) =
    bound_at m hand deed suspension rest s b t h near at cc
resume_at m next said suspension s b t h is close (Moves.updates {effect = effect} free at due near) =
    let same : effect ≡ Does (Resume suspension) = cc in
    no_resume suspension (due_sends m.state.wishes (Does (Resume suspension))
    (record (view_of m) { held = 0; stopped = false }) (due ∙ ap Some same)).0
  where
    no_resume : (suspension : Suspension)
        → may_send (an_effect (Does (Resume suspension))) (record (view_of m) { held = 0; stopped = false }) ≡ true
        → IsBoundFirst m.state
    no_resume of_composite may = cc
    no_resume of_entry may = cc
    no_resume of_stop may = cc
resume_at m next said suspension s b t h is close (Moves.loses late near Loses.by_end) = cc
resume_at m next said suspension s b t h is close _ = cc

near_sends : (m next : Machine) (said : Option Message) (suspension : Suspension)
    → said ≡ Some (Message.sends (an_effect (Does (Resume suspension)))) → Moves m said next
    → is_gone m.state.phase ≡ false
near_sends m next said suspension is moved = grind (arith, is, moved)

pub binds_first : (messages : List Message) (m : Machine) (suspension : Suspension) → Run messages m
    → (due false m).act ≡ Act.Sends (Does (Resume suspension)) → IsBoundFirst m.state
binds_first messages m suspension r is =
    let moves = moved (Allows.acts (ap said is)) in
    let near = near_sends m (due false m).next _ suspension refl moves in
    resume_at m (due false m).next _ suspension (settling r near) (binding r near) (tested last_test r) (resumed r) refl
    near moves

-- At rest -------------------------------------------------------------------------------------------------------------

pub runs_on : (messages : List Message) (m : Machine) → Run messages m → IsAtRest m → m.state.phase ≡ Attached
    → IsHeld messages m.state
runs_on messages m r rests attached =
    let s = settles messages m r rests attached in record {
      view = view_of m;
      said = (is_known messages m r).said;
      none_waits = rw (attached, s.none_waits) refl;
      stopped = refl;
      held = alone m.state.stopped m.state.entry (held_in m.state m.hand) (ap (held_in m.state) s.none_in_hand);
    }
  where
    alone : (stopped entry : Bool) (held : ℕ) → held ≡ held_with stopped entry 0 → held ≡ bit stopped + bit entry
    alone stopped entry held is = omega (arith, is)
