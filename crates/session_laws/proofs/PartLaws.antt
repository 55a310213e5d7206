-- A `disconnect` goes on to its success and is done directly behind it; nothing else is.
use Rattle.std.proofs.Common.{◌≡◌, ℕ, Bool, true, false, cond, not, List, [], ◌∷◌, ◌++◌, Option, Some, None, refl, sym}
use Rattle.std.proofs.Common.{ap, append-nil, subst, ◌∙◌, option_map, arith, ◌||◌}
use Rattle.dap_messages.specs.declared.requests.Command.TheVariants.{Attach, BadArguments, ConfigurationDone, Continue}
use Rattle.dap_messages.specs.declared.requests.Command.TheVariants.{Disconnect, Initialize, Pause, SetBreakpoints}
use Rattle.dap_messages.specs.declared.requests.Command.TheVariants.{ExceptionInfo, Next, SetExceptionBreakpoints}
use Rattle.dap_messages.specs.declared.requests.Command.TheVariants.{SetFunctionBreakpoints, StepIn, StepOut, Threads}
use Rattle.dap_messages.specs.declared.requests.Command.TheVariants.{Unsupported}
use Rattle.dap_messages.specs.declared.told.Failure.{Failure}
use Rattle.jdwp_events.specs.declared.kind.Policy.{Policy}
use Rattle.jdwp_values.specs.declared.id.ThreadId.{ThreadId}
use Rattle.machine_model.specs.Composites.{composite_parts, has_death}
use Rattle.machine_model.specs.Due.{asked_hand, clear, load_of}
use Rattle.machine_model.specs.Lookups.{finished}
use Rattle.machine_model.specs.Outcomes.{result_of}
use Rattle.machine_model.specs.Plans.{Result}
use Rattle.machine_model.specs.Replying.{given_up, hand_replied}
use Rattle.machine_model.specs.Rest.{request_in}
use Rattle.field_exprs.specs.Parsing.{parsed}
use Rattle.field_exprs.specs.declared.expr.Expr.{Expr}
use Rattle.dap_messages.specs.declared.requests.Command.TheVariants.{Evaluate, SetVariable}
use Rattle.session_model.specs.Names.{Written}
use Rattle.machine_model.specs.Rows.{evaluate_by, write_by, written_by}
use Rattle.machine_model.specs.declared.parts.Seen.{Seen}
use Rattle.dap_messages.specs.declared.requests.SetVariableArguments.{SetVariableArguments}
use Rattle.machine_model.specs.Rows.{chosen, configured_parts, continue_parts, end_parts, failure_of, gone_parts}
use Rattle.machine_model.specs.Rows.{has_response, is_response, news_of, parts_by, parts_of, pause_parts}
use Rattle.machine_model.specs.Rows.{request_parts, row_of, thread_with, told_in, wanting}
use Rattle.machine_model.specs.Rows.{exception_parts, refused_with, scopes_parts, stack_parts, step_parts, stepped_by}
use Rattle.machine_model.specs.Rows.{stepped_thread, thrown_first, variables_parts}
use Rattle.machine_model.specs.Stops.{hit_parts}
use Rattle.machine_model.specs.declared.parts.Halt.{Halt}
use Rattle.machine_model.specs.declared.parts.Note.TheVariants.{Step as step_noted, Thrown as thrown_noted}
use Rattle.machine_model.specs.declared.parts.Strike.{Strike}
use Rattle.machine_model.specs.declared.parts.Suspension.TheVariants.{Composite as of_composite}
use Rattle.machine_model.specs.declared.parts.Thrown.{Thrown}
use Rattle.machine_model.specs.Runs.{Message, is_disconnect}
use Rattle.machine_model.specs.State.{Hand, Machine, State, is_empty, knowing, left}
use Rattle.machine_model.specs.Telling.{numbered_by, outcome_told, response_to}
use Rattle.machine_steps.proofs.Stepping.{IsAt, Moves, Skips}
use Rattle.machine_steps.proofs.Tables.{of_decided, of_judged, of_told, told_alike}
use Rattle.session_model.specs.Names.{Choice, Command, Decides, Finding, Item, Judges, Leaves, Lookup, Nothing, Outcome}
use Rattle.session_model.specs.Names.{Part, Phase, Replied, Request, Stepped, Success, TargetCommand, TellsNews, Want}
use Rattle.session_model.specs.Names.{Resume, a_composite}
use Rattle.session_model.specs.Names.{a_question, a_raw, a_request, an_effect, finish_done, target_end}
use Rattle.dap_messages.specs.declared.requests.Command.TheVariants.{Scopes, StackTrace, Variables}
use Rattle.dap_messages.specs.declared.requests.StackTraceArguments.{StackTraceArguments}
use Rattle.dap_messages.specs.declared.requests.VariablesArguments.{VariablesArguments}
use Rattle.std.specs.Prelude as prelude
use Rattle.std.specs.Prelude.{Ok, Err, option_and_then}
use Rattle.stop_refs.specs.Numbers.{InHand, container, frame}
use Rattle.stop_refs.specs.declared.fault.RefFault.{RefFault}
use Rattle.stop_refs.specs.declared.thing.FrameThing.{FrameThing}
use Rattle.stop_refs.specs.declared.thing.Thing.{Thing}
use Rattle.wish_sets.specs.declared.wish.Depth.{Depth}
use Rattle.wish_sets.specs.declared.wish.Depth.TheVariants.{Into, Out, Over}

-- Lists of parts ------------------------------------------------------------------------------------------------------

-- the end of a session that is done
abbrev pub is_ends : Part → Bool
is_ends (Part.Ends finish_done) = true
is_ends _ = false

-- the end is in front
abbrev pub ends_first : List Part → Bool
ends_first [] = false
ends_first (part ∷ parts) = is_ends part

-- nothing but the end is there
abbrev pub only_end : List Part → Bool
only_end [] = false
only_end (part ∷ parts) = cond (is_ends part) (is_empty parts) false

-- a success with nothing in it
abbrev pub is_thanks : Part → Bool
is_thanks (Part.Responds (Success Nothing)) = true
is_thanks _ = false

-- it has no place in a `disconnect` before its success: a look-up, a decision on a composite, or a response
abbrev pub strays : Part → Bool
strays (Part.Looks lookup) = true
strays (Part.Unfolds Judges) = true
strays (Part.Unfolds (Decides logged stops)) = true
strays part = is_response part

-- a `disconnect` goes on to its success, and ends directly behind it
abbrev pub to_end : List Part → Bool
to_end [] = false
to_end (part ∷ parts) =
    cond (is_ends part) (is_empty parts) (cond (is_thanks part) (only_end parts)
    (cond (strays part) false (cond (ends_first parts) false (to_end parts))))

-- nothing else ends
abbrev pub no_end : List Part → Bool
no_end [] = true
no_end (part ∷ parts) = cond (is_ends part) false (no_end parts)

abbrev pub leaves_by : Item → Bool
leaves_by (a_request request) = is_disconnect request.command
leaves_by (a_composite at composite) = false
leaves_by (a_raw at body) = false
leaves_by target_end = false

abbrev pub is_fit : Bool → List Part → Bool
is_fit leaves parts = cond leaves (to_end parts) (no_end parts)

-- it fits, and the end isn't in front
abbrev pub goes_on : Bool → List Part → Bool
goes_on leaves parts = cond (is_fit leaves parts) (not (ends_first parts)) false

configured_on : (entry : Bool) → goes_on false (configured_parts entry) ≡ true
configured_on true = refl
configured_on false = refl

continue_on : (thread : Option ThreadId) → goes_on false (continue_parts thread) ≡ true
continue_on None = refl
continue_on (Some thread) = refl

pause_on : (stopped : Bool) (thread : Option ThreadId) → goes_on false (pause_parts stopped thread) ≡ true
pause_on stopped None = refl
pause_on true (Some thread) = refl
pause_on false (Some thread) = refl

stack_on : (arguments : StackTraceArguments) (thread : Option ThreadId)
    → goes_on false (stack_parts thread arguments) ≡ true
stack_on arguments None = refl
stack_on arguments (Some thread) = refl

scopes_on : (numbers : InHand) (found : prelude.Result FrameThing RefFault)
    → goes_on false (scopes_parts numbers found) ≡ true
scopes_on numbers (Ok one) = refl
scopes_on numbers (Err fault) = refl

variables_on : (arguments : VariablesArguments) (found : prelude.Result Thing RefFault)
    → goes_on false (variables_parts arguments found) ≡ true
variables_on arguments (Ok thing) = refl
variables_on arguments (Err fault) = refl

write_on : (arguments : SetVariableArguments) (found : prelude.Result Thing RefFault)
    → goes_on false (write_by arguments found) ≡ true
write_on arguments (Ok thing) = refl
write_on arguments (Err fault) = refl

evaluate_on : (read : prelude.Result Expr ℕ) (found : prelude.Result FrameThing RefFault)
    → goes_on false (evaluate_by read found) ≡ true
evaluate_on (Ok expression) (Ok one) = refl
evaluate_on (Err place) (Ok one) = refl
evaluate_on read (Err fault) = refl

step_on_row : (depth : Depth) (thread : Option ThreadId) → goes_on false (step_parts depth thread) ≡ true
step_on_row depth None = refl
step_on_row depth (Some thread) = refl

exception_on : (thrown : Option Thrown) → goes_on false (exception_parts thrown) ≡ true
exception_on None = refl
exception_on (Some thrown) = refl

row_on : (command : Command) (state : State) → goes_on (is_disconnect command) (row_of command state) ≡ true
row_on (Initialize arguments) state = refl
row_on (Attach arguments) state = refl
row_on ConfigurationDone state = configured_on state.entry
row_on (SetBreakpoints arguments) state = refl
row_on (SetFunctionBreakpoints arguments) state = refl
row_on (SetExceptionBreakpoints arguments) state = refl
row_on Threads state = refl
row_on (Continue arguments) state = continue_on (thread_with state.threads arguments.thread_id)
row_on (Next arguments) state = step_on_row Over (stepped_thread state arguments.thread_id)
row_on (StepIn arguments) state = step_on_row Into (stepped_thread state arguments.thread_id)
row_on (StepOut arguments) state = step_on_row Out (stepped_thread state arguments.thread_id)
row_on (ExceptionInfo arguments) state =
    exception_on (option_and_then (thrown_first state.thrown) (thread_with state.threads arguments.thread_id))
row_on (Pause arguments) state = pause_on state.stopped (thread_with state.threads arguments.thread_id)
row_on (StackTrace arguments) state = stack_on arguments (thread_with state.threads arguments.thread_id)
row_on (Scopes arguments) state = scopes_on state.numbers (frame arguments.frame_id state.numbers)
row_on (Variables arguments) state = variables_on arguments (container arguments.variables_reference state.numbers)
row_on (SetVariable arguments) state = write_on arguments (container arguments.variables_reference state.numbers)
row_on (Evaluate arguments) state =
    evaluate_on (parsed arguments.expression) (frame arguments.frame_id state.numbers)
row_on (Disconnect arguments) state = refl
row_on Unsupported state = refl
row_on (BadArguments name) state = refl

-- a `disconnect` wants nothing, so that it can't fail before it is done
request_on : (command : Command) (state : State)
    → goes_on (is_disconnect command) (request_parts command state) ≡ true
request_on command state =
    by_failure (is_disconnect command) (failure_of (wanting command) state) (failed command state)
    (row_of command state) (row_on command state)
  where
    failed : (command : Command) (state : State) → is_disconnect command ≡ true
        → failure_of (wanting command) state ≡ None
    failed command state is = grind (arith, is)

    by_failure : (leaves : Bool) (failure : Option Failure) → (leaves ≡ true → failure ≡ None) → (row : List Part)
        → goes_on leaves row ≡ true → goes_on leaves (parts_by failure row) ≡ true
    by_failure leaves None none row is = is
    by_failure true (Some failure) none row is = let no = none refl in cc
    by_failure false (Some failure) none row is = refl

composite_on : (phase : Phase) (dies : Bool) (policy : Policy) (at below : ℕ)
    → goes_on false (composite_parts phase dies policy at below) ≡ true
composite_on phase dies policy at below = grind arith

end_on : (terminated : Bool) → goes_on false (end_parts terminated) ≡ true
end_on true = refl
end_on false = refl

begun_on : (state : State) (item : Item) → goes_on (leaves_by item) (parts_of state item) ≡ true
begun_on state (a_request request) = request_on request.command state
begun_on state (a_composite at composite) =
    composite_on state.phase (has_death composite.events) composite.policy at state.next_entry
begun_on state (a_raw at body) = refl
begun_on state target_end = end_on state.terminated

finished_none : (lookup : Lookup) (result : Result Finding) (state : State)
    → no_end (finished lookup result state) ≡ true
finished_none lookup result state = grind arith

none_joined : (parts rest : List Part) → no_end parts ≡ true → no_end rest ≡ true → no_end (parts ++ rest) ≡ true
none_joined [] rest none is = is
none_joined (part ∷ parts) rest none is = grind (arith, none, none_joined parts rest)

none_on : (parts : List Part) → no_end parts ≡ true → goes_on false parts ≡ true
none_on [] none = refl
none_on (part ∷ parts) none = grind (arith, none)

looks_none : (lookup : Lookup) (rest : List Part) → to_end (Part.Looks lookup ∷ rest) ≡ false
looks_none lookup rest = grind arith

found_on : (leaves : Bool) (lookup : Lookup) (result : Result Finding) (state : State) (rest : List Part)
    → is_fit leaves (Part.Looks lookup ∷ rest) ≡ true → goes_on leaves (finished lookup result state ++ rest) ≡ true
found_on true lookup result state rest is = let no = looks_none lookup rest in cc
found_on false lookup result state rest is =
    none_on (finished lookup result state ++ rest)
    (none_joined (finished lookup result state) rest (finished_none lookup result state) is)

-- what is left behind a part that isn't the success
tail_on : (leaves : Bool) (part : Part) (rest : List Part) → is_ends part ≡ false → cond leaves (is_thanks part) false
    ≡ false → is_fit leaves (part ∷ rest) ≡ true → goes_on leaves rest ≡ true
tail_on true part rest other silent is = grind (arith, other, silent, is)
tail_on false part rest other silent is = none_on rest (grind (arith, other, is))

-- parts that look nothing up and neither respond nor end
abbrev are_silent : List Part → Bool
are_silent [] = true
are_silent (part ∷ parts) = cond (is_ends part) false (cond (strays part) false (are_silent parts))

-- what a `disconnect` may choose
chosen_silent : (choice : Choice) (state : State) (hand : Hand) (rest : List Part) → leaves_by hand.item ≡ true
    → to_end (Part.Unfolds choice ∷ rest) ≡ true → are_silent (chosen choice state hand) ≡ true
chosen_silent (TellsNews below) state hand rest leaving is =
    let news = news_of below state hand.item in
    ap are_silent (sym (append-nil (told_in state.phase news)))
    ∙ told_alike are_silent (λ news parts. refl) state.phase news []
chosen_silent Judges state hand rest leaving is = cc
chosen_silent (Decides logged stops) state hand rest leaving is = cc
chosen_silent Stepped state hand rest leaving is = cc
chosen_silent (Written seen) state hand rest leaving is = cc
chosen_silent (Leaves exits) state hand rest leaving is = grind arith

-- no choice ends the session
hit_none : (stopped : Bool) (thrown : List Thrown) (stops : List Strike) (halt : Halt)
    → no_end (hit_parts stopped thrown stops halt) ≡ true
hit_none false thrown stops halt =
    of_told (λ (part : Part). no_end (Part.Notes (thrown_noted thrown) ∷ Part.Notes (step_noted None) ∷ Part.Updates
    ∷ part ∷ []) ≡ true) (λ stopping. refl) (λ thread object. refl) stops halt
hit_none true thrown stops halt =
    of_told (λ (part : Part). no_end (Part.Notes (thrown_noted thrown) ∷ Part.Notes (step_noted None) ∷ Part.Updates
    ∷ part ∷ Part.Sends (Resume of_composite) ∷ []) ≡ true) (λ stopping. refl) (λ thread object. refl) stops halt

stepped_none : (code : Option ℕ) → no_end (stepped_by code) ≡ true
stepped_none None = refl
stepped_none (Some code) = refl

written_none : (seen : Seen) (code : Option ℕ) → no_end (written_by seen code) ≡ true
written_none seen None = refl
written_none seen (Some code) = refl

chosen_none : (choice : Choice) (state : State) (hand : Hand) → no_end (chosen choice state hand) ≡ true
chosen_none (TellsNews below) state hand =
    let news = news_of below state hand.item in
    ap no_end (sym (append-nil (told_in state.phase news)))
    ∙ told_alike no_end (λ news parts. refl) state.phase news []
chosen_none Judges state hand =
    of_judged (λ (parts : List Part). no_end parts ≡ true) refl (λ strikes. refl) state hand.item
chosen_none (Decides logged stops) state hand =
    of_decided (λ (parts : List Part). no_end parts ≡ true) refl refl refl hit_none (λ text texts stops. refl) state
    logged stops hand.item
chosen_none Stepped state hand = stepped_none (refused_with hand.effect)
chosen_none (Written seen) state hand = written_none seen (refused_with hand.effect)
chosen_none (Leaves exits) state hand = grind arith

-- a response that is a success is a response
thanks_respond : (part : Part) → strays part ≡ false → is_thanks part ≡ false
thanks_respond part is = grind (arith, is)

thanks_is : (part : Part) → is_thanks part ≡ true → is_response part ≡ true
thanks_is part is = grind (arith, is)

silent_first : (leaves : Bool) (part : Part) (rest : List Part) → is_ends part ≡ false → strays part ≡ false
    → goes_on leaves rest ≡ true → goes_on leaves (part ∷ rest) ≡ true
silent_first true part rest other silent is =
    rw (other, thanks_respond part silent, silent) (by_tests (ends_first rest) (to_end rest) is)
  where
    by_tests : (ends fit : Bool) → cond fit (not ends) false ≡ true → cond (cond ends false fit) true false ≡ true
    by_tests true true is = cc
    by_tests true false is = cc
    by_tests false true is = refl
    by_tests false false is = cc
silent_first false part rest other silent is = rw other (by_tests (ends_first rest) (no_end rest) is)
  where
    by_tests : (ends fit : Bool) → cond fit (not ends) false ≡ true → cond fit true false ≡ true
    by_tests ends true is = refl
    by_tests ends false is = cc

silent_joined : (leaves : Bool) (parts rest : List Part) → are_silent parts ≡ true → goes_on leaves rest ≡ true
    → goes_on leaves (parts ++ rest) ≡ true
silent_joined leaves [] rest silent is = is
silent_joined leaves (part ∷ parts) rest silent is =
    let (other, responds, more) = by_tests (is_ends part) (strays part) (are_silent parts) silent in
    silent_first leaves part (parts ++ rest) other responds (silent_joined leaves parts rest more is)
  where
    by_tests : (ends responds more : Bool) → cond ends false (cond responds false more) ≡ true
        → (ends ≡ false) × (responds ≡ false) × (more ≡ true)
    by_tests true responds more is = cc
    by_tests false true more is = cc
    by_tests false false more is = (refl, refl, is)

chosen_on : (leaves : Bool) (choice : Choice) (state : State) (hand : Hand) (rest : List Part)
    → leaves_by hand.item ≡ leaves → is_fit leaves (Part.Unfolds choice ∷ rest) ≡ true → goes_on leaves rest ≡ true
    → goes_on leaves (chosen choice state hand ++ rest) ≡ true
chosen_on true choice state hand rest leaving fit is =
    silent_joined true (chosen choice state hand) rest (chosen_silent choice state hand rest leaving fit) is
chosen_on false choice state hand rest leaving fit is =
    none_on (chosen choice state hand ++ rest)
    (none_joined (chosen choice state hand) rest (chosen_none choice state hand) (rest_none (no_end rest) is))
  where
    rest_none : (none : Bool) → cond none (not (ends_first rest)) false ≡ true → none ≡ true
    rest_none true is = refl
    rest_none false is = cc

-- a success of a `disconnect` has the end behind it
success_behind : (outcome : Outcome) (rest : List Part) → to_end (Part.Responds outcome ∷ rest) ≡ true
    → (outcome ≡ Success Nothing) × (only_end rest ≡ true)
success_behind outcome rest is = grind (arith, is)

-- before its end a `disconnect` has its response to come
response_yet : (parts : List Part) → to_end parts ≡ true → ends_first parts ≡ false → has_response parts ≡ true
response_yet [] is later = cc
response_yet (part ∷ parts) is later =
    by_tests (is_ends part) (is_thanks part) (is_response part) (strays part) (only_end parts) (ends_first parts)
    (to_end parts) (is_empty parts) (has_response parts) (thanks_is part) (response_yet parts) later is
  where
    by_tests : (ends thanks responds stray only first fit empty more : Bool) → (thanks ≡ true → responds ≡ true)
        → (fit ≡ true → first ≡ false → more ≡ true) → ends ≡ false
        → cond ends empty (cond thanks only (cond stray false (cond first false fit))) ≡ true
        → (responds || more) ≡ true
    by_tests ends thanks responds stray only first fit empty more one other rest is =
        grind (arith, one, other, rest, is)

gone_on : (responds : Bool) (item : Item) → cond (leaves_by item) responds true ≡ true
    → goes_on (leaves_by item) (gone_parts responds item) ≡ true
gone_on responds item is = grind (arith, is)

-- The item in hand ----------------------------------------------------------------------------------------------------

-- the item in hand goes on
abbrev pub hand_on : Option Hand → Bool
hand_on None = true
hand_on (Some hand) = goes_on (leaves_by hand.item) hand.parts

fit_of : (leaves : Bool) (parts : List Part) → goes_on leaves parts ≡ true → is_fit leaves parts ≡ true
fit_of leaves parts is = by_tests (is_fit leaves parts) (not (ends_first parts)) is
  where
    by_tests : (fit later : Bool) → cond fit later false ≡ true → fit ≡ true
    by_tests true later is = refl
    by_tests false later is = cc

fit_at : {m : Machine} {hand : Hand} {part : Part} {rest : List Part} → hand_on m.hand ≡ true → IsAt m hand part rest
    → is_fit (leaves_by hand.item) (part ∷ rest) ≡ true
fit_at {hand = hand} h at =
    ap (is_fit (leaves_by hand.item)) (sym at.parts)
    ∙ fit_of (leaves_by hand.item) hand.parts (ap hand_on (sym at.in_hand) ∙ h)

no_leave : (item : Item) → request_in item ≡ [] → leaves_by item ≡ false
no_leave item none = grind (arith, none)

never : (b : Bool) → cond b false false ≡ false
never true = refl
never false = refl

skipped_on : (m : Machine) (hand : Hand) (part : Part) (rest : List Part) → Skips m hand part
    → is_fit (leaves_by hand.item) (part ∷ rest) ≡ true → goes_on (leaves_by hand.item) rest ≡ true
skipped_on m hand part rest (Skips.by_guard passes) is =
    tail_on (leaves_by hand.item) part rest refl (never (leaves_by hand.item)) is
skipped_on m hand part rest (Skips.by_wishes none) is =
    tail_on (leaves_by hand.item) part rest refl (never (leaves_by hand.item)) is
skipped_on m hand part rest (Skips.no_request none) is =
    let stays = no_leave hand.item none in
    tail_on (leaves_by hand.item) part rest refl (rw stays refl) is

given_up_on : (hand : Option Hand) → hand_on hand ≡ true → hand_on (option_map given_up hand) ≡ true
given_up_on None h = refl
given_up_on (Some hand) h = gone_on (has_response hand.parts) hand.item (by_item (leaves_by hand.item) h)
  where
    by_item : (leaves : Bool) → goes_on leaves hand.parts ≡ true → cond leaves (has_response hand.parts) true ≡ true
    by_item true is =
        response_yet hand.parts (fit_of true hand.parts is) (grind (arith, is))
    by_item false is = refl

replied_on : (command : TargetCommand) (replied : Replied) (hand : Option Hand)
    → hand_on (option_map (hand_replied command replied) hand) ≡ hand_on hand
replied_on command replied None = refl
replied_on (a_question question) replied (Some hand) = refl
replied_on (an_effect effect) replied (Some hand) = refl

asked_on : (want : Want) (hand : Option Hand) → hand_on (option_map (asked_hand want) hand) ≡ hand_on hand
asked_on want None = refl
asked_on want (Some hand) = refl

-- Steps ---------------------------------------------------------------------------------------------------------------

-- a step goes on; or it tells the success of a `disconnect`, behind which there is the end alone
pub data Steps (m next : Machine) (said : Option Message) : Type 0 where
  on : hand_on next.hand ≡ true → Steps m next said
  last : (hand : Hand) (request : Request) (rest : List Part) → load_of m ≡ clear
      → IsAt m hand (Part.Responds (Success Nothing)) rest → hand.item ≡ a_request request
      → is_disconnect request.command ≡ true → only_end rest ≡ true
      → said ≡ Some (Message.tells (response_to request (outcome_told (Success Nothing) m.state)))
      → next ≡ left (knowing m (numbered_by (Success Nothing) m.state)) hand rest → Steps m next said

responds_on : {m next : Machine} {said : Option Message} {hand : Hand} {rest : List Part} {request : Request}
    {outcome : Outcome} (leaves : Bool) → is_disconnect request.command ≡ leaves → load_of m ≡ clear
    → IsAt m hand (Part.Responds outcome) rest → hand.item ≡ a_request request
    → is_fit leaves (Part.Responds outcome ∷ rest) ≡ true
    → said ≡ Some (Message.tells (response_to request (outcome_told outcome m.state)))
    → next ≡ left (knowing m (numbered_by outcome m.state)) hand rest → Steps m next said
responds_on {m} {next} {said} {hand} {rest} {request} {outcome} true is free at item fit says becomes =
    let (same, only) = success_behind outcome rest fit in
    Steps.last hand request rest free (subst (λ o. IsAt m hand (Part.Responds o) rest) same at) item is only
    (subst (λ o. said ≡ Some (Message.tells (response_to request (outcome_told o m.state)))) same says)
    (subst (λ o. next ≡ left (knowing m (numbered_by o m.state)) hand rest) same becomes)
responds_on {hand} {rest} {outcome} false is free at item fit says becomes =
    Steps.on (ap (λ n. hand_on n.hand) becomes ∙ ap (λ l. goes_on l rest) (ap leaves_by item ∙ is)
    ∙ tail_on false (Part.Responds outcome) rest refl refl fit)

pub step_on : (m next : Machine) (said : Option Message) → hand_on m.hand ≡ true → Moves m said next
    → Steps m next said
step_on m next said h (Moves.begins picked free none is) = Steps.on (begun_on m.state picked.item)
step_on m next said h (Moves.drops free is none) = Steps.on refl
step_on m next said h (Moves.responds {hand} {rest} {request} {outcome} free at is) =
    responds_on (is_disconnect request.command) refl free at is
    (ap (λ l. is_fit l (Part.Responds outcome ∷ rest)) (ap leaves_by (sym is)) ∙ fit_at h at) refl refl
step_on m next said h (Moves.finds {hand} {rest} {lookup} found free at needs done) =
    Steps.on (found_on (leaves_by hand.item) lookup (result_of found) m.state rest (fit_at h at))
step_on m next said h (Moves.passes_over {hand} {part} {rest} free at why) =
    Steps.on (skipped_on m hand part rest why (fit_at h at))
step_on m next said h (Moves.tells {hand} {rest} {event} free at) =
    Steps.on (tail_on (leaves_by hand.item) (Part.Tells event) rest refl (never (leaves_by hand.item)) (fit_at h at))
step_on m next said h (Moves.sends {hand} {rest} {deed} free at near) =
    Steps.on (tail_on (leaves_by hand.item) (Part.Sends deed) rest refl (never (leaves_by hand.item)) (fit_at h at))
step_on m next said h (Moves.notes {hand} {note} {rest} free at) =
    Steps.on (tail_on (leaves_by hand.item) (Part.Notes note) rest refl (never (leaves_by hand.item)) (fit_at h at))
step_on m next said h (Moves.updates {hand} {rest = rest} free at due near) =
    Steps.on (rw (fit_at h at) refl)
step_on m next said h (Moves.unfolds {hand} {choice} {rest} free at) =
    Steps.on (chosen_on (leaves_by hand.item) choice m.state hand rest refl (fit_at h at)
    (tail_on (leaves_by hand.item) (Part.Unfolds choice) rest refl (never (leaves_by hand.item)) (fit_at h at)))
step_on m next said h (Moves.queues {hand} lacking held) = Steps.on (ap hand_on (sym held) ∙ h)
step_on m next said h (Moves.asks {want = want} queued room held are) = Steps.on (asked_on want m.hand ∙ h)
step_on m next said h (Moves.answers {question} {replied} held waits reply stays) =
    Steps.on (replied_on (a_question question) replied m.hand ∙ h)
step_on m next said h (Moves.replies {effect} {replied} held flying reply stays) =
    Steps.on (replied_on (an_effect effect) replied m.hand ∙ h)
step_on m next said h (Moves.loses late near why) = Steps.on (given_up_on m.hand h)
step_on m next said h _ = Steps.on h
