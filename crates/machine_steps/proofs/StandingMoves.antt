-- What each move keeps of the ids that stand in the machine: the parts.
use Rattle.jdwp_events.specs.declared.kind.Policy.TheVariants.{All as AllThreads, NoThread, EventThread}
use Rattle.jdwp_events.specs.declared.kind.Policy.{Policy}
use Rattle.std.proofs.Common.{◌≡◌, Bool, true, false, cond, List, [], ◌∷◌, ◌++◌, Option, Some, None, refl, sym, ap}
use Rattle.std.proofs.Common.{subst, ◌∙◌, arith}
use Rattle.std.specs.List.{AllByRecursion as All}
use Rattle.machine_model.specs.Ids.{Id, class}
use Rattle.machine_model.specs.Lookups.{finished, found_for, sight_of, body_of, outcome_by, shown_by, value_outcome}
use Rattle.machine_model.specs.References.{has_room, things_of}
use Rattle.machine_steps.specs.Names.{Deed, Writes, Written, variable_write, write_found, Attach, Attached, Choice}
use Rattle.machine_steps.specs.Names.{Classes, Command, ConfigurationDone, Continue, Decides, Disconnect, Effect, Event}
use Rattle.machine_steps.specs.Names.{Failed, Finding, Initialize, Initialized, Item, Leaves, Lines, Lookup, News, Note}
use Rattle.machine_steps.specs.Names.{Outcome, Part, Pause, Phase, Replied, Sent, SetBreakpoints, Success, Fresh, Gone}
use Rattle.machine_steps.specs.Names.{TargetCommand, TellsNews, Terminated, ThreadId, Want, a_composite, a_raw}
use Rattle.machine_steps.specs.Names.{a_request, all_threads, class_facts, classes_found, target_end, threads_found}
use Rattle.machine_steps.specs.Names.{Body, Scopes, StackTrace, Variables, container_children, frames_found, scope_list}
use Rattle.machine_steps.specs.Names.{Evaluate, SetVariable, expression_value, no_value, thread_frames, value_found}
use Rattle.machine_steps.specs.Names.{variables_found, ExceptionInfo, Functions, Halt, HaltCause, Next}
use Rattle.machine_steps.specs.Names.{SetExceptionBreakpoints, SetFunctionBreakpoints, StepIn, StepOut, Stepped, Steps}
use Rattle.machine_steps.specs.Names.{Judges, StopsAt, Thrown, breakpoint_hits, came_to, exception_info, has_stepped}
use Rattle.machine_steps.specs.Names.{hits_found, threw}
use Rattle.dap_messages.specs.Telling.{references_spent}
use Rattle.machine_model.specs.Plans.{Need, fails, has, lacks}
use Rattle.machine_model.specs.Replying.{done_by}
use Rattle.machine_steps.proofs.Testing.{same_numbered}
use Rattle.field_exprs.specs.Parsing.{parsed}
use Rattle.field_exprs.specs.declared.expr.Expr.{Expr}
use Rattle.machine_model.specs.Rows.{write_by, written_by, evaluate_by, chosen, configured_parts, continue_parts}
use Rattle.machine_model.specs.Rows.{failure_of, leaves, news_of, noted, parts_of, pause_parts, request_parts, row_of}
use Rattle.machine_model.specs.Rows.{thread_with, told_in, wanting, scopes_parts, stack_parts, variables_parts}
use Rattle.machine_model.specs.Rows.{exception_parts, refused_with, step_parts, stepped_by, thread_there, thrown_first}
use Rattle.machine_model.specs.Runs.{Message}
use Rattle.machine_model.specs.State.{Hand, Machine, State, is_attached, is_gone, is_some, left}
use Rattle.machine_model.specs.Telling.{after_event, numbered_by}
use Rattle.machine_model.proofs.IdRows.{all_joined}
use Rattle.machine_model.proofs.PlanIds.{AreKnown, IsAsked, IsGood, NeedStands, OfFrameThing, OfLookup, OfThing}
use Rattle.machine_model.proofs.PlanIds.{OfThread, OfThrown, OnSome}
use Rattle.machine_model.specs.Outcomes.{result_of}
use Rattle.machine_model.specs.Stops.{decided, decided_by, events_in, hits_in, holds_entry, judged, logged_first}
use Rattle.machine_model.specs.Stops.{stop_among, strikes_in, surplus, thrown_in, told_part}
use Rattle.machine_steps.proofs.LookupIds.{rows_stand}
use Rattle.machine_steps.proofs.Stepping.{IsAt, Skips}
use Rattle.machine_steps.proofs.Standing.{ChoiceStands, IsKept, Kept, Near, OfBody, OfOutcome, PartStands, Same, at_front, in_order}
use Rattle.machine_steps.proofs.Standing.{same_state, awaits_sizes, needs_sizes, stays}
use Rattle.machine_steps.proofs.HitIds.{ItemStands, OfCause, OfHalt, all_strikes, found_one, halt_stands}
use Rattle.machine_steps.proofs.Tables.{told_alike}
use Rattle.dap_messages.specs.declared.requests.FunctionBreakpoint.{FunctionBreakpoint}
use Rattle.machine_model.specs.Breakpoints.{functions_from, behind_roots, key_of, longest_key, short_key, slashed}
use Rattle.wish_sets.specs.declared.wish.Depth.{Depth}
use Rattle.wish_sets.specs.declared.wish.Depth.TheVariants.{Into, Out, Over}
use Rattle.std.specs.Prelude.{ℕ, zero, suc, ◌-◌, ◌==◌, nat_le, nat_lt, length, slice_get, if◌then◌else◌, Result, Ok}
use Rattle.std.specs.Prelude.{Err, ◌+◌, ◌≤◌, option_and_then}
use Rattle.stop_refs.specs.Numbers.{InHand, and_then, container, frame, next_in, or_unknown, refused_in, stop_with}
use Rattle.stop_refs.specs.Numbers.{thing_with}
use Rattle.stop_refs.specs.Things.{as_container, as_frame}
use Rattle.stop_refs.specs.declared.fault.RefFault.{RefFault}
use Rattle.stop_refs.specs.declared.thing.FrameThing.{FrameThing}
use Rattle.stop_refs.specs.declared.thing.Thing.{Thing}
use Rattle.stop_refs.specs.declared.thing.Thing.TheVariants as things
use Rattle.machine_model.specs.Composites.{composite_parts, has_death}
use Rattle.machine_steps.proofs.WishIds.{AreWished, IsShortFunction, IsShortKey, classes_stand, functions_stand}
use Rattle.machine_steps.proofs.WishIds.{lines_stand, step_stands}
use Rattle.machine_steps.proofs.PartTests.{of_failure}

-- Tables --------------------------------------------------------------------------------------------------------------

-- a telling, a note and a reply to an effect keep sizes and classes
pub told_same : (outcome : Outcome) (state : State) → Same (numbered_by outcome state) state
told_same outcome state = record {
  sizes = grind arith;
  classes = grind arith;
  back = λ near. ap is_gone (sym (same_numbered outcome state)) ∙ near;
}

pub event_same : (event : Event) (state : State) → Same (after_event event state) state
event_same event state = record { sizes = grind arith; classes = grind arith; back = λ near. grind (arith, near) }

pub note_same : (note : Note) (state : State) → Same (noted note state) state
note_same note state = record { sizes = grind arith; classes = grind arith; back = λ near. grind (arith, near) }

pub effect_same : (effect : Effect) (replied : Replied) (state : State) → Same (done_by effect replied state) state
effect_same effect replied state = record { sizes = refl; classes = refl; back = λ near. near }

-- what is wanted changes at notes alone
pub told_wanted : (outcome : Outcome) (state : State)
    → (numbered_by outcome state).wishes.wanted ≡ state.wishes.wanted
told_wanted outcome state = grind arith

pub event_wanted : (event : Event) (state : State) → (after_event event state).wishes.wanted ≡ state.wishes.wanted
event_wanted event state = grind arith

pub effect_wanted : (effect : Effect) (replied : Replied) (state : State)
    → (done_by effect replied state).wishes.wanted ≡ state.wishes.wanted
effect_wanted effect replied state = grind arith

pub note_wished : (P : Id → Type 0) (note : Note) (state : State) → PartStands P (Part.Notes note)
    → AreKnown P state.classes → AreWished P state.wishes.wanted → AreWished P (noted note state).wishes.wanted
note_wished P (Lines (Some key) path entries) state k facts h = lines_stand P key entries state.wishes.wanted k h
note_wished P (Functions entries) state k facts h = functions_stand P entries state.wishes.wanted k h
note_wished P (StopsAt caught uncaught) state k facts h =
    record { short = h.short; functions = h.functions; bound = h.bound; step = h.step }
note_wished P (Steps step) state k facts h = step_stands P step state.wishes.wanted k h
note_wished P (Classes classes) state k facts h =
    classes_stand P state.classes classes state.wishes.wanted k facts h
note_wished P _ state k facts h = h

-- what needs the sizes has them
pub sized_by : (sized attached : Bool) (part : Part) (rest : List Part) → in_order sized attached (part ∷ rest) ≡ true
    → awaits_sizes part ≡ false → needs_sizes part ≡ true → sized ≡ true
sized_by sized attached part rest h other needs = grind (arith, h, other, needs)

pub in_any_order : (sized attached : Bool) (parts : List Part) → sized ≡ true → in_order sized attached parts ≡ true
in_any_order sized attached parts is = rw is refl

-- rows, results and choices
row_order : (state : State) (sized : Bool) (command : Command) → in_order sized (is_attached state.phase) [] ≡ true
    → in_order sized (is_attached state.phase) (request_parts command state) ≡ true
row_order state sized command h = grind (arith, h)

pub begun_order : (state : State) (sized : Bool) (item : Item) → in_order sized (is_attached state.phase) [] ≡ true
    → in_order sized (is_attached state.phase) (parts_of state item) ≡ true
begun_order state sized (a_request request) h = row_order state sized request.command h
begun_order state sized (a_raw at body) h = h
begun_order state sized _ h = grind (arith, h)

key_is_short : (roots : List (List ℕ)) (path : List ℕ) → IsShortKey (key_of roots path)
unfolding key_of
key_is_short roots path = by_key (behind_roots roots (slashed path))
  where
    by_test : (key : List ℕ) (short : Bool) → nat_le (length key) longest_key ≡ short
        → IsShortKey (cond short (Some key) None)
    by_test key true is = grind (arith, is)
    by_test key false is = tt

    by_key : (key : Option (List ℕ)) → IsShortKey (short_key key)
    by_key None = tt
    by_key (Some key) = by_test key (nat_le (length key) longest_key) refl

-- a thread that was told was read
pub told_thread : (P : Id → Type 0) (threads : List ThreadId) (number : ℕ) → All (OfThread P) threads
    → OnSome (OfThread P) (thread_with threads number)
told_thread P threads number h = by_zero (number == 0)
  where
    at : (threads : List ThreadId) (place : ℕ) → All (OfThread P) threads
        → OnSome (OfThread P) (slice_get threads place)
    at [] place h = tt
    at (thread ∷ threads) zero h = h.0
    at (thread ∷ threads) (suc place) h = at threads place h.1

    by_zero : (is : Bool) → OnSome (OfThread P) (cond is None (slice_get threads (number - 1)))
    by_zero true = tt
    by_zero false = at threads (number - 1) h

-- a response that tells numbers
pub shown_good : (P : Id → Type 0) (numbers : InHand) (body : Body) → OfBody P body → OfOutcome P (shown_by numbers body)
shown_good P numbers body h = by_room (has_room (things_of body) numbers)
  where
    by_room : (room : Bool) → OfOutcome P (cond room (Success body) (Failed references_spent))
    by_room true = h
    by_room false = tt

-- and so was what a number stands for
abbrev pub OnFound : {A : Type 0} → (A → Type 0) → Result A RefFault → Type 0
OnFound P (Ok a) = P a
OnFound P (Err fault) = Unit {0}

told_thing : (P : Id → Type 0) (number : ℕ) (numbers : InHand) → All (OfThing P) numbers.things
    → OnFound (OfThing P) (thing_with number numbers)
told_thing P number numbers h = by_past (nat_lt number numbers.past.next)
  where
    at : (listed : List Thing) (place : ℕ) → All (OfThing P) listed
        → OnFound (OfThing P) (or_unknown (next_in numbers) (slice_get listed place))
    at [] place h = tt
    at (thing ∷ listed) zero h = h.0
    at (thing ∷ listed) (suc place) h = at listed place h.1

    by_past : (past : Bool) → OnFound (OfThing P)
        (if past then Err (refused_in (next_in numbers) (stop_with numbers.past.firsts number))
        else or_unknown (next_in numbers) (slice_get numbers.things (number - numbers.past.next)))
    by_past true = tt
    by_past false = at numbers.things (number - numbers.past.next) h

told_frame : (P : Id → Type 0) (number : ℕ) (numbers : InHand) → All (OfThing P) numbers.things
    → OnFound (OfFrameThing P) (frame number numbers)
told_frame P number numbers h = by_thing (thing_with number numbers) (told_thing P number numbers h)
  where
    by_thing : (found : Result Thing RefFault) → OnFound (OfThing P) found
        → OnFound (OfFrameThing P) (and_then as_frame found)
    by_thing (Ok (things.Frame one)) k = k
    by_thing _ k = tt

told_container : (P : Id → Type 0) (number : ℕ) (numbers : InHand) → All (OfThing P) numbers.things
    → OnFound (OfThing P) (container number numbers)
told_container P number numbers h = by_thing (thing_with number numbers) (told_thing P number numbers h)
  where
    by_thing : (found : Result Thing RefFault) → OnFound (OfThing P) found
        → OnFound (OfThing P) (and_then as_container found)
    by_thing (Ok (things.Locals one)) k = k
    by_thing (Ok (things.Object one)) k = k
    by_thing (Ok (things.Array one)) k = k
    by_thing _ k = tt

functions_short : (id : ℕ) (functions : List FunctionBreakpoint) → All IsShortFunction (functions_from id functions)
functions_short id [] = tt
functions_short id (function ∷ functions) =
    (by_length (nat_le (length function.name) longest_key) refl, functions_short (id + 1) functions)
  where
    by_length : (short : Bool) → nat_le (length function.name) longest_key ≡ short
        → length (cond short function.name []) ≤ longest_key
    by_length true is = grind (arith, is)
    by_length false is = omega arith

step_stand : (P : Id → Type 0) (depth : Depth) (threads : List ThreadId) (number : ℕ) → All (OfThread P) threads
    → All (PartStands P) (step_parts depth (option_and_then thread_there (thread_with threads number)))
step_stand P depth threads number told = by_thread (thread_with threads number) (told_thread P threads number told)
  where
    by_there : (thread : ThreadId) (none : Bool) → OfThread P thread
        → All (PartStands P) (step_parts depth (cond none None (Some thread)))
    by_there thread true k = (tt, tt)
    by_there thread false k = (k, (tt, (tt, tt)))

    by_thread : (found : Option ThreadId) → OnSome (OfThread P) found
        → All (PartStands P) (step_parts depth (option_and_then thread_there found))
    by_thread None k = (tt, tt)
    by_thread (Some thread) k = by_there thread (thread.0 == 0) k

thrown_stand : (P : Id → Type 0) (thrown : List Thrown) (thread : Option ThreadId) → All (OfThrown P) thrown
    → All (PartStands P) (exception_parts (option_and_then (thrown_first thrown) thread))
thrown_stand P thrown None h = (tt, tt)
thrown_stand P thrown (Some thread) h =
    by_thrown (thrown_first thrown thread) (found_one (OfThrown P) (λ one. one.thread.0 == thread.0) thrown h)
  where
    by_thrown : (found : Option Thrown) → OnSome (OfThrown P) found → All (PartStands P) (exception_parts found)
    by_thrown None k = (tt, tt)
    by_thrown (Some one) k = (k.1, tt)

row_parts : (P : Id → Type 0) (command : Command) (state : State) → All (OfThread P) state.threads
    → All (OfThing P) state.numbers.things → All (OfThrown P) state.thrown
    → All (PartStands P) (row_of command state)
row_parts P (Initialize arguments) state told told_things threw_them = (tt, (tt, tt))
row_parts P (Attach arguments) state told told_things threw_them = (tt, (tt, (tt, (tt, (tt, (tt, tt))))))
row_parts P ConfigurationDone state told told_things threw_them = by_entry state.entry
  where
    by_entry : (entry : Bool) → All (PartStands P) (configured_parts entry)
    by_entry true = (tt, (tt, (tt, tt)))
    by_entry false = (tt, (tt, tt))
row_parts P (SetBreakpoints arguments) state told told_things threw_them =
    (key_is_short state.roots arguments.path, (tt, (tt, (tt, (tt, (tt, tt))))))
row_parts P (SetFunctionBreakpoints arguments) state told told_things threw_them =
    (functions_short state.next_entry arguments.breakpoints, (tt, (tt, (tt, (tt, (tt, tt))))))
row_parts P (SetExceptionBreakpoints arguments) state told told_things threw_them = (tt, (tt, (tt, tt)))
row_parts P (Next arguments) state told told_things threw_them =
    step_stand P Over state.threads arguments.thread_id told
row_parts P (StepIn arguments) state told told_things threw_them =
    step_stand P Into state.threads arguments.thread_id told
row_parts P (StepOut arguments) state told told_things threw_them =
    step_stand P Out state.threads arguments.thread_id told
row_parts P (ExceptionInfo arguments) state told told_things threw_them =
    thrown_stand P state.thrown (thread_with state.threads arguments.thread_id) threw_them
row_parts P (Continue arguments) state told told_things threw_them = by_thread (thread_with state.threads arguments.thread_id)
  where
    by_thread : (thread : Option ThreadId) → All (PartStands P) (continue_parts thread)
    by_thread None = (tt, tt)
    by_thread (Some thread) = (tt, (tt, tt))
row_parts P (Pause arguments) state told told_things threw_them = by_stop state.stopped (thread_with state.threads arguments.thread_id)
  where
    by_stop : (stopped : Bool) (thread : Option ThreadId) → All (PartStands P) (pause_parts stopped thread)
    by_stop stopped None = (tt, tt)
    by_stop true (Some thread) = (tt, tt)
    by_stop false (Some thread) = (tt, (tt, (tt, (tt, (tt, tt)))))
row_parts P (StackTrace arguments) state told told_things threw_them = by_thread (thread_with state.threads arguments.thread_id)
    (told_thread P state.threads arguments.thread_id told)
  where
    by_thread : (thread : Option ThreadId) → OnSome (OfThread P) thread
        → All (PartStands P) (stack_parts thread arguments)
    by_thread None k = (tt, tt)
    by_thread (Some thread) k = (k, tt)
row_parts P (Scopes arguments) state told told_things threw_them = by_frame (frame arguments.frame_id state.numbers)
    (told_frame P arguments.frame_id state.numbers told_things)
  where
    by_frame : (found : Result FrameThing RefFault) → OnFound (OfFrameThing P) found
        → All (PartStands P) (scopes_parts state.numbers found)
    by_frame (Ok one) k = (shown_good P state.numbers (scope_list one) k, tt)
    by_frame (Err fault) k = (tt, tt)
row_parts P (Variables arguments) state told told_things threw_them = by_thing (container arguments.variables_reference state.numbers)
    (told_container P arguments.variables_reference state.numbers told_things)
  where
    by_thing : (found : Result Thing RefFault) → OnFound (OfThing P) found
        → All (PartStands P) (variables_parts arguments found)
    by_thing (Ok thing) k = (k, tt)
    by_thing (Err fault) k = (tt, tt)
row_parts P (SetVariable arguments) state told told_things threw_them =
    by_thing (container arguments.variables_reference state.numbers)
    (told_container P arguments.variables_reference state.numbers told_things)
  where
    by_thing : (found : Result Thing RefFault) → OnFound (OfThing P) found → All (PartStands P) (write_by arguments found)
    by_thing (Ok thing) k = (k, tt)
    by_thing (Err fault) k = (tt, tt)
row_parts P (Evaluate arguments) state told told_things threw_them =
    by_frame (parsed arguments.expression) (frame arguments.frame_id state.numbers)
    (told_frame P arguments.frame_id state.numbers told_things)
  where
    by_frame : (read : Result Expr ℕ) (found : Result FrameThing RefFault) → OnFound (OfFrameThing P) found
        → All (PartStands P) (evaluate_by read found)
    by_frame (Ok expression) (Ok one) k = (k, tt)
    by_frame (Err place) (Ok one) k = (tt, tt)
    by_frame read (Err fault) k = (tt, tt)
row_parts P (Disconnect arguments) state told told_things threw_them = (tt, (tt, (tt, tt)))
row_parts P _ state told told_things threw_them = (tt, tt)

pub begun_parts : (P : Id → Type 0) (state : State) (item : Item) → All (OfThread P) state.threads
    → All (OfThing P) state.numbers.things → All (OfThrown P) state.thrown → All (PartStands P) (parts_of state item)
begun_parts P state (a_request request) told told_things threw_them =
    of_failure (PartStands P) (λ failure. tt) (failure_of (wanting request.command) state)
    (row_of request.command state) (row_parts P request.command state told told_things threw_them)
begun_parts P state target_end told told_things threw_them = by_end state.terminated
  where
    by_end : (ended : Bool) → All (PartStands P) (parts_of (record state { terminated = ended }) target_end)
    by_end true = tt
    by_end false = (tt, tt)
begun_parts P state (a_composite at composite) told told_things threw_them =
    by_phase state.phase (has_death composite.events) composite.policy
  where
    by_phase : (phase : Phase) (dies : Bool) (policy : Policy)
        → All (PartStands P) (composite_parts phase dies policy at state.next_entry)
    by_phase Fresh dies policy = tt
    by_phase Attached true NoThread = (tt, tt)
    by_phase Attached true EventThread = (tt, tt)
    by_phase Attached true AllThreads = (tt, tt)
    by_phase Attached false NoThread = (tt, (tt, (tt, tt)))
    by_phase Attached false EventThread = (tt, tt)
    by_phase Attached false AllThreads = (tt, (tt, (tt, (tt, tt))))
    by_phase Gone dies policy = tt
begun_parts P state (a_raw at body) told told_things threw_them = tt

pub chosen_order : (choice : Choice) (state : State) (hand : Hand) (sized attached : Bool) (rest : List Part)
    → in_order sized attached (Part.Unfolds choice ∷ rest) ≡ true
    → in_order sized attached (chosen choice state hand ++ rest) ≡ true
chosen_order (TellsNews below) state hand sized attached rest h =
    told_alike (in_order sized attached) (λ news parts. refl) state.phase
    (news_of below state hand.item) rest ∙ h
chosen_order Judges state hand sized attached rest h = in_any_order sized attached (judged state hand.item ++ rest)
    (sized_by sized attached (Part.Unfolds Judges) rest h refl refl)
chosen_order (Decides logged stops) state hand sized attached rest h =
    in_any_order sized attached (decided state logged stops hand.item ++ rest)
    (sized_by sized attached (Part.Unfolds (Decides logged stops)) rest h refl refl)
chosen_order Stepped state hand sized attached rest h =
    in_any_order sized attached (stepped_by (refused_with hand.effect) ++ rest)
    (sized_by sized attached (Part.Unfolds Stepped) rest h refl refl)
chosen_order (Written seen) state hand sized attached rest h = by_code (refused_with hand.effect)
  where
    by_code : (code : Option ℕ) → in_order sized attached (written_by seen code ++ rest) ≡ true
    by_code code = grind arith
chosen_order (Leaves exits) state hand sized attached rest h = grind (arith, h)

pub chosen_parts : (P : Id → Type 0) (choice : Choice) (state : State) (hand : Hand) (rest : List Part)
    → ItemStands P hand.item → ChoiceStands P choice → All (PartStands P) rest
    → All (PartStands P) (chosen choice state hand ++ rest)
chosen_parts P (TellsNews below) state hand rest item s h =
    by_news state.phase (news_of below state hand.item)
  where
    by_news : (phase : Phase) (news : List News) → All (PartStands P) (told_in phase news ++ rest)
    by_news Attached (one ∷ news) = (tt, by_news Attached news)
    by_news _ _ = h
chosen_parts P Judges state hand rest item s h = by_phase (is_attached state.phase)
  where
    by_phase : (attached : Bool) → All (PartStands P) (cond attached
        (Part.Looks (breakpoint_hits (strikes_in state.wishes (events_in hand.item))) ∷ []) [] ++ rest)
    by_phase false = h
    by_phase true = (all_strikes P state.wishes hand.item item, h)
chosen_parts P (Decides logged stops) state hand rest item s h = by_phase (is_attached state.phase) logged
  where
    told : (cause : HaltCause) (thread : ThreadId) → OfCause P cause → PartStands P (told_part stops cause thread)
    told (threw one) thread k = k
    told (came_to at) thread k = tt
    told has_stepped thread k = tt

    by_surplus : (stopped : Bool) → All (PartStands P) (surplus stopped ++ rest)
    by_surplus false = h
    by_surplus true = (tt, h)

    by_stop : (stopped holds : Bool) (thrown : List Thrown) (stop : Option Halt) → OnSome (OfHalt P) stop
        → All (PartStands P) (decided_by stopped holds thrown stops stop ++ rest)
    by_stop stopped true thrown None hit = (tt, h)
    by_stop stopped false thrown None hit = (tt, h)
    by_stop stopped holds thrown (Some halt) hit =
        (tt, (tt, (tt, (told halt.cause halt.thread hit.1, by_surplus stopped))))

    by_phase : (attached : Bool) (logged : List (List ℕ)) → All (PartStands P)
        (cond attached (logged_first state logged stops (events_in hand.item)) [] ++ rest)
    by_phase false logged = h
    by_phase true [] = by_stop state.stopped (holds_entry state (events_in hand.item))
        (thrown_in state.wishes (events_in hand.item)) (stop_among stops (hits_in state.wishes (events_in hand.item)))
        (halt_stands P state.wishes stops hand.item s item)
    by_phase true (text ∷ texts) = (tt, (s, h))
chosen_parts P Stepped state hand rest item s h = by_code (refused_with hand.effect)
  where
    by_code : (code : Option ℕ) → All (PartStands P) (stepped_by code ++ rest)
    by_code None = (tt, (tt, h))
    by_code (Some code) = (tt, (tt, (tt, h)))
chosen_parts P (Written seen) state hand rest item s h = by_code (refused_with hand.effect)
  where
    by_code : (code : Option ℕ) → All (PartStands P) (written_by seen code ++ rest)
    by_code None = (tt, h)
    by_code (Some code) = (tt, h)
chosen_parts P (Leaves exits) state hand rest item s h = by_phase state.phase exits
  where
    by_phase : (phase : Phase) (exits : Bool) → All (PartStands P) (leaves phase exits ++ rest)
    by_phase Attached true = (tt, h)
    by_phase Attached false = (tt, h)
    by_phase _ exits = h

body_good : (P : Id → Type 0) (finding : Finding) → IsGood P finding → OfBody P (body_of finding)
body_good P (threads_found named) h = h
body_good P (frames_found total frames) h = h
body_good P (variables_found shown) h = h
body_good P (value_found seen) h = h
body_good P _ h = tt

outcome_good : (P : Id → Type 0) (numbers : InHand) (found : Need Finding) → NeedStands P (IsGood P) found
    → OfOutcome P (outcome_by numbers (result_of found))
outcome_good P numbers (has finding) h = shown_good P numbers (body_of finding) (body_good P finding h)
outcome_good P numbers _ h = tt

value_good : (P : Id → Type 0) (numbers : InHand) (found : Need Finding) → NeedStands P (IsGood P) found
    → OfOutcome P (value_outcome numbers (result_of found))
value_good P numbers (has (no_value failure)) h = tt
value_good P numbers (fails fault) h = tt
value_good P numbers (lacks want others) h = tt
value_good P numbers found h = outcome_good P numbers found h

found_parts : (P : Id → Type 0) (lookup : Lookup) (found : Need Finding) (state : State) → NeedStands P (IsGood P) found
    → All (PartStands P) (finished lookup (result_of found) state)
found_parts P all_threads (has finding) state h = (body_good P finding h, tt)
found_parts P (exception_info thrown) (has finding) state h = (body_good P finding h, tt)
found_parts P (thread_frames thread start levels) found state h = (outcome_good P state.numbers found h, tt)
found_parts P (container_children thing filter start count) found state h = (outcome_good P state.numbers found h, tt)
found_parts P (expression_value one expression) found state h = (value_good P state.numbers found h, tt)
found_parts P (variable_write thing name text) (has (write_found write seen)) state h = (h, (tt, tt))
found_parts P class_facts (has (classes_found classes)) state h = (h, tt)
found_parts P (breakpoint_hits strikes) (has (hits_found passed logged stops)) state h = (h, tt)
found_parts P _ _ state h = (tt, tt)

-- Parts that need the sizes -------------------------------------------------------------------------------------------

pub skipped_order : {m : Machine} {hand : Hand} {part : Part} (rest : List Part) → Skips m hand part
    → in_order (is_some m.state.sizes) (is_attached m.state.phase) (part ∷ rest) ≡ true
    → in_order (is_some m.state.sizes) (is_attached m.state.phase) rest ≡ true
skipped_order rest (Skips.by_guard {guard} is) h = grind (arith, h, is)
skipped_order {m} rest (Skips.by_wishes is) h =
    in_any_order _ _ rest (sized_by (is_some m.state.sizes) (is_attached m.state.phase) Part.Updates rest h refl refl)
skipped_order rest (Skips.no_request is) h = h

pub sent_order : (sized attached : Bool) (deed : Deed) (rest : List Part)
    → in_order sized attached (Part.Sends deed ∷ rest) ≡ true → in_order sized attached rest ≡ true
sent_order sized attached (Writes write) rest h = in_any_order sized attached rest
    (sized_by sized attached (Part.Sends (Writes write)) rest h refl refl)
sent_order sized attached _ rest h = h

pub event_order : (state : State) (event : Event) (rest : List Part) → is_gone (after_event event state).phase ≡ false
    → in_order (is_some state.sizes) (is_attached state.phase) (Part.Tells event ∷ rest) ≡ true
    → in_order (is_some state.sizes) (is_attached (after_event event state).phase) rest ≡ true
event_order state Initialized rest near h = in_any_order _ _ rest
    (sized_by (is_some state.sizes) (is_attached state.phase) (Part.Tells Initialized) rest h refl refl)
event_order state Terminated rest near h = cc
event_order state _ rest near h = h

-- a look-up that stands in front, where the sizes are known
pub looks_stand : {P : Id → Type 0} {state : State} {left : List Part} {queue : List Want} (hand : Hand)
    (lookup : Lookup)
    → P (class 0) → Near P state left queue hand.asked → is_some state.sizes ≡ true → OfLookup P lookup
    → NeedStands P (IsGood P) (found_for lookup state hand)
looks_stand {P} {state} hand lookup null n sized of =
    rows_stand P null (sight_of state hand) state.classes n.classes
    (subst (λ sized. All (IsAsked P sized) hand.asked) sized n.replies) refl lookup state refl of

pub found_kept : {P : Id
    → Type 0} {messages : List Message} {m : Machine} {hand : Hand} {rest : List Part} {lookup : Lookup}
    (found : Need Finding) → P (class 0) → IsKept P messages m → IsAt m hand (Part.Looks lookup) rest
    → found_for lookup m.state hand ≡ found
    → IsKept P messages (left m hand (finished lookup (result_of found) m.state ++ rest))
found_kept {P} {m = m} {hand} {rest} {lookup} found null k at is =
    stays m.state (finished lookup (result_of found) m.state ++ rest) None (at_front k at) (same_state m.state) refl
    (λ near n. let sized = sized_by (is_some m.state.sizes) (is_attached m.state.phase) (Part.Looks lookup) rest n.order
    refl refl in record {
      wanted = n.wanted;
      order = in_any_order _ _ (finished lookup (result_of found) m.state ++ rest) sized;
      parts = all_joined (PartStands P) (finished lookup (result_of found) m.state) rest
          (found_parts P lookup found m.state
          (subst (λ found. NeedStands P (IsGood P) found) is (looks_stand hand lookup null n sized n.parts.0))) n.parts.1;
    })

pub dropped_kept : {P : Id → Type 0} {messages : List Message} {state : State} {left : List Part} {queue : List Want}
    {asked : List Sent} {late : List TargetCommand} → Kept P messages state left queue asked late
    → Kept P messages state [] [] [] late
dropped_kept k = record {
  once = let old = k.once in omega (arith, old);
  sizes = k.sizes;
  none_late = k.none_late;
  near = λ near. let n = k.near near in record {
    classes = n.classes;
    wanted = n.wanted;
    order = grind (arith, n.order);
    parts = tt;
    wants = tt;
    replies = tt;
  };
}
