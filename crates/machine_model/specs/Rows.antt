-- What each item does, part by part (DAP specification, Requests; JDWP, Event command set, Composite).
use Rattle.std.specs.Prelude.{ℕ, ◌+◌, ◌-◌, ◌==◌, ◌∷◌, ◌++◌, ◌||◌, Bool, true, false, cond, List, [], length, map}
use Rattle.std.specs.Prelude.{Option, None, Some, Result, Ok, Err, find, option_and_then, slice_get}
use Rattle.class_tables.specs.Lookups.{found_in}
use Rattle.dap_messages.specs.Telling.{already_attached, bad_arguments, not_attached, not_stopped, target_gone}
use Rattle.dap_messages.specs.Telling.{bad_expression, unknown_thread, unsupported}
use Rattle.dap_messages.specs.declared.requests.InitializeArguments.{InitializeArguments}
use Rattle.dap_messages.specs.declared.requests.SetVariableArguments.{SetVariableArguments}
use Rattle.dap_messages.specs.declared.requests.StackTraceArguments.{StackTraceArguments}
use Rattle.dap_messages.specs.declared.requests.VariablesArguments.{VariablesArguments}
use Rattle.field_exprs.specs.Parsing.{parsed}
use Rattle.field_exprs.specs.declared.expr.Expr.{Expr}
use Rattle.machine_model.specs.Breakpoints.{entry_of, function_listed, functions_from, functions_wished, key_of}
use Rattle.machine_model.specs.Breakpoints.{lines_wished, newly_verified, numbered_from}
use Rattle.machine_model.specs.Composites.{changes_in, composite_parts, has_death, learnt_by}
use Rattle.machine_model.specs.Frames.{with_path}
use Rattle.machine_model.specs.Lookups.{lookup_responds, refusal, shown_by}
use Rattle.machine_model.specs.Names.{Attach, Attached, BadArguments, Capabilities, Choice, Classes, ClientOptions}
use Rattle.machine_model.specs.Names.{Command, ConfigurationDone, Configured, Continue, Continued, Decides, Deed}
use Rattle.machine_model.specs.Names.{Disconnect, Dispose, Done, EntryHeld, Exit, Failed, Failure, Fresh, Gone}
use Rattle.machine_model.specs.Names.{Handshake, IdSizes, Initialize, Initialized, Item, Leaves, Lines}
use Rattle.machine_model.specs.Names.{ListedBreakpoint, News, Note, Nothing, Options, Part, Pause, Phase, Resume, Roots}
use Rattle.machine_model.specs.Names.{Scopes, SetBreakpoints, StackTrace, Success, Suspend, TellsNews, Terminated, ThreadId}
use Rattle.machine_model.specs.Names.{Threads, Unsupported, a_composite, a_raw, a_request, a_stop, all_threads, breakpoint_list}
use Rattle.machine_model.specs.Names.{by_client, class_facts, entry_verified, of_entry, of_stop, some_news, target_end}
use Rattle.machine_model.specs.Names.{Variables, container_children, scope_list, thread_frames, Doing, Functions}
use Rattle.machine_model.specs.Names.{ExceptionInfo, Next, SetExceptionBreakpoints, SetFunctionBreakpoints, StepIn}
use Rattle.machine_model.specs.Names.{StepOut, Stepped, Steps, StopsAt, Replied, Throws, Thrown, an_answer, an_error}
use Rattle.machine_model.specs.Names.{Evaluate, SetVariable, Seen, Written, a_written, exception_info, expression_value}
use Rattle.machine_model.specs.Names.{variable_write}
use Rattle.machine_model.specs.State.{Hand, State, is_some}
use Rattle.machine_model.specs.Names.{Judges}
use Rattle.machine_model.specs.Stops.{decided, judged}
use Rattle.machine_model.specs.Variables.{reference_failure}
use Rattle.stop_refs.specs.Numbers.{InHand, container, frame}
use Rattle.stop_refs.specs.declared.fault.RefFault.{RefFault}
use Rattle.stop_refs.specs.declared.thing.FrameThing.{FrameThing}
use Rattle.stop_refs.specs.declared.thing.Thing.{Thing}
use Rattle.wish_sets.specs.Wanted.{with_exceptions, with_known, with_step}
use Rattle.wish_sets.specs.declared.entry.FunctionEntry.{FunctionEntry}
use Rattle.wish_sets.specs.declared.wish.Depth.{Depth}
use Rattle.wish_sets.specs.declared.wish.Depth.TheVariants.{Into, Out, Over}
use Rattle.wish_sets.specs.Wishes.{rewished}

-- Requests ------------------------------------------------------------------------------------------------------------

-- how a client asks to be served (DAP specification, Initialize request, its arguments)
abbrev pub options_of : InitializeArguments → ClientOptions
options_of arguments = record {
  lines_from_one = arguments.lines_start_at1;
  columns_from_one = arguments.columns_start_at1;
  shows_types = arguments.supports_variable_type;
}

-- Breakpoints are written down, and what isn't wished any more is cleared; classes are asked for what has to be known of
-- them; what is wished then is set; and the client is told of older breakpoints that are verified by it.
abbrev pub breakpoint_parts : Bool → Option (List ℕ) → List ℕ → List ListedBreakpoint → ℕ → List Part
breakpoint_parts from_one key path listed below =
    Part.Notes (Lines key path (map (entry_of from_one) listed)) ∷ Part.Updates ∷ Part.Looks class_facts ∷ Part.Updates
    ∷ Part.Unfolds (TellsNews below) ∷ Part.Responds (Success (breakpoint_list (is_some key) listed)) ∷ []

-- The same of functions (DAP specification, SetFunctionBreakpoints request).
abbrev pub function_parts : List FunctionEntry → ℕ → List Part
function_parts entries below =
    Part.Notes (Functions entries) ∷ Part.Updates ∷ Part.Looks class_facts ∷ Part.Updates ∷ Part.Unfolds (TellsNews below)
    ∷ Part.Responds (Success (breakpoint_list true (map function_listed entries))) ∷ []

-- Which exceptions stop a thread is written down, and their event request is cleared and set (DAP specification,
-- SetExceptionBreakpoints request).
abbrev pub exceptions_parts : Bool → Bool → List Part
exceptions_parts caught uncaught =
    Part.Notes (StopsAt caught uncaught) ∷ Part.Updates ∷ Part.Responds (Success Nothing) ∷ []

-- The client has configured all: the target's entry is held no longer (DAP specification, ConfigurationDone request;
-- JDWP, VirtualMachine command set, Resume).
abbrev pub configured_parts : Bool → List Part
configured_parts true =
    Part.Sends (Resume of_entry) ∷ Part.Notes Configured ∷ Part.Responds (Success Nothing) ∷ []
configured_parts false = Part.Notes Configured ∷ Part.Responds (Success Nothing) ∷ []

-- the thread of a number, where it was told
abbrev pub thread_with : List ThreadId → ℕ → Option ThreadId
thread_with threads number = cond (number == 0) None (slice_get threads (number - 1))

-- the stop is over, and the whole target runs on (DAP specification, Continue request; JDWP, VirtualMachine command set,
-- Resume)
abbrev pub continue_parts : Option ThreadId → List Part
continue_parts None = Part.Responds (Failed unknown_thread) ∷ []
continue_parts (Some thread) = Part.Sends (Resume of_stop) ∷ Part.Responds (Success Continued) ∷ []

-- A step: its event request is set, and by the reply it is decided how it goes on (DAP specification, Next, StepIn and
-- StepOut requests; JDWP, EventRequest command set, Set, Step).
abbrev pub step_parts : Depth → Option ThreadId → List Part
step_parts depth None = Part.Responds (Failed unknown_thread) ∷ []
step_parts depth (Some thread) =
    Part.Notes (Steps (Some (record { thread = thread; depth = depth }))) ∷ Part.Updates ∷ Part.Unfolds Stepped ∷ []

-- no thread has the id 0, and a step of it may end the target's process
abbrev pub thread_there : ThreadId → Option ThreadId
thread_there thread = cond (thread.0 == 0) None (Some thread)

-- What a thread threw first in the stop (DAP specification, ExceptionInfo request).
abbrev pub thrown_first : List Thrown → ThreadId → Option Thrown
thrown_first thrown thread = find (λ one. one.thread.0 == thread.0) thrown

abbrev pub exception_parts : Option Thrown → List Part
exception_parts None = Part.Responds (Failed unknown_thread) ∷ []
exception_parts (Some thrown) = Part.Looks (exception_info thrown) ∷ []

-- The whole target is suspended, for a stop, and a step that is in flight is cleared; in a stop nothing has to be done (DAP
-- specification, Pause request; JDWP, VirtualMachine command set, Suspend).
abbrev pub paused_parts : Bool → ThreadId → List Part
paused_parts true thread = Part.Responds (Success Nothing) ∷ []
paused_parts false thread = Part.Sends Suspend ∷ Part.Notes (Steps None) ∷ Part.Updates
    ∷ Part.Responds (Success Nothing) ∷ Part.Tells (a_stop (record { cause = by_client; thread = thread })) ∷ []

abbrev pub pause_parts : Bool → Option ThreadId → List Part
pause_parts stopped None = Part.Responds (Failed unknown_thread) ∷ []
pause_parts stopped (Some thread) = paused_parts stopped thread

-- the frames of a thread (DAP specification, StackTrace request)
abbrev pub stack_parts : Option ThreadId → StackTraceArguments → List Part
stack_parts None arguments = Part.Responds (Failed unknown_thread) ∷ []
stack_parts (Some thread) arguments =
    Part.Looks (thread_frames thread arguments.start_frame arguments.levels) ∷ []

-- the one scope of a frame: its variables (DAP specification, Scopes request)
abbrev pub scopes_parts : InHand → Result FrameThing RefFault → List Part
scopes_parts numbers (Ok frame) = Part.Responds (shown_by numbers (scope_list frame)) ∷ []
scopes_parts numbers (Err fault) = Part.Responds (Failed (reference_failure fault)) ∷ []

-- the children of a container (DAP specification, Variables request)
abbrev pub variables_parts : VariablesArguments → Result Thing RefFault → List Part
variables_parts arguments (Ok thing) =
    Part.Looks (container_children thing arguments.filter arguments.start arguments.count) ∷ []
variables_parts arguments (Err fault) = Part.Responds (Failed (reference_failure fault)) ∷ []

-- a value is written to a child of a container (DAP specification, SetVariable request)
abbrev pub write_by : SetVariableArguments → Result Thing RefFault → List Part
write_by arguments (Ok thing) = Part.Looks (variable_write thing arguments.name arguments.value) ∷ []
write_by arguments (Err fault) = Part.Responds (Failed (reference_failure fault)) ∷ []

-- The value of an expression in a frame; a text that is none fails at its place (DAP specification, Evaluate request).
abbrev pub evaluate_parts : FrameThing → Result Expr ℕ → List Part
evaluate_parts frame (Ok expression) = Part.Looks (expression_value frame expression) ∷ []
evaluate_parts frame (Err place) = Part.Responds (Failed (bad_expression place)) ∷ []

abbrev pub evaluate_by : Result Expr ℕ → Result FrameThing RefFault → List Part
evaluate_by read (Ok frame) = evaluate_parts frame read
evaluate_by read (Err fault) = Part.Responds (Failed (reference_failure fault)) ∷ []

abbrev pub stepped_thread : State → ℕ → Option ThreadId
stepped_thread state number = option_and_then thread_there (thread_with state.threads number)

-- the table of requests
abbrev pub row_of : Command → State → List Part
row_of (Initialize arguments) state =
    Part.Responds (Success Capabilities) ∷ Part.Notes (Options (options_of arguments)) ∷ []
row_of (Attach arguments) state =
    Part.Notes (Roots arguments.source_roots) ∷ Part.Awaits Handshake ∷ Part.Awaits IdSizes ∷ Part.Updates
    ∷ Part.Responds (Success Nothing) ∷ Part.Tells Initialized ∷ []
row_of ConfigurationDone state = configured_parts state.entry
row_of (SetBreakpoints arguments) state =
    breakpoint_parts state.options.lines_from_one (key_of state.roots arguments.path) arguments.path
    (numbered_from state.next_entry arguments.breakpoints) state.next_entry
row_of (SetFunctionBreakpoints arguments) state =
    function_parts (functions_from state.next_entry arguments.breakpoints) state.next_entry
row_of (SetExceptionBreakpoints arguments) state = exceptions_parts arguments.caught arguments.uncaught
row_of Threads state = Part.Looks all_threads ∷ []
row_of (Continue arguments) state = continue_parts (thread_with state.threads arguments.thread_id)
row_of (Next arguments) state = step_parts Over (stepped_thread state arguments.thread_id)
row_of (StepIn arguments) state = step_parts Into (stepped_thread state arguments.thread_id)
row_of (StepOut arguments) state = step_parts Out (stepped_thread state arguments.thread_id)
row_of (ExceptionInfo arguments) state =
    exception_parts (option_and_then (thrown_first state.thrown) (thread_with state.threads arguments.thread_id))
row_of (Pause arguments) state = pause_parts state.stopped (thread_with state.threads arguments.thread_id)
row_of (StackTrace arguments) state = stack_parts (thread_with state.threads arguments.thread_id) arguments
row_of (Scopes arguments) state = scopes_parts state.numbers (frame arguments.frame_id state.numbers)
row_of (Variables arguments) state =
    variables_parts arguments (container arguments.variables_reference state.numbers)
row_of (SetVariable arguments) state =
    write_by arguments (container arguments.variables_reference state.numbers)
row_of (Evaluate arguments) state =
    evaluate_by (parsed arguments.expression) (frame arguments.frame_id state.numbers)
row_of (Disconnect arguments) state =
    Part.Unfolds (Leaves arguments.terminate_debuggee) ∷ Part.Responds (Success Nothing) ∷ Part.Ends Done ∷ []
row_of Unsupported state = Part.Responds (Failed unsupported) ∷ []
row_of (BadArguments name) state = Part.Responds (Failed (bad_arguments name)) ∷ []

-- what a request wants of the session before it does anything
pub data Wanting : Type 0 where
  wants_nothing : Wanting
  wants_no_target : Wanting
  wants_target : Wanting
  wants_stop : Wanting

-- the table of what they want
abbrev pub wanting : Command → Wanting
wanting (Initialize arguments) = wants_nothing
wanting (Attach arguments) = wants_no_target
wanting ConfigurationDone = wants_target
wanting (SetBreakpoints arguments) = wants_target
wanting (SetFunctionBreakpoints arguments) = wants_target
wanting (SetExceptionBreakpoints arguments) = wants_target
wanting Threads = wants_target
wanting (Continue arguments) = wants_stop
wanting (Next arguments) = wants_stop
wanting (StepIn arguments) = wants_stop
wanting (StepOut arguments) = wants_stop
wanting (ExceptionInfo arguments) = wants_stop
wanting (Pause arguments) = wants_target
wanting (StackTrace arguments) = wants_stop
wanting (Scopes arguments) = wants_target
wanting (Variables arguments) = wants_target
wanting (SetVariable arguments) = wants_target
wanting (Evaluate arguments) = wants_target
wanting (Disconnect arguments) = wants_nothing
wanting Unsupported = wants_nothing
wanting (BadArguments name) = wants_nothing

abbrev pub unless_attached : Phase → Option Failure
unless_attached Fresh = None
unless_attached Attached = Some already_attached
unless_attached Gone = Some target_gone

abbrev pub if_attached : Phase → Option Failure
if_attached Fresh = Some not_attached
if_attached Attached = None
if_attached Gone = Some target_gone

abbrev pub unless_stopped : Bool → Option Failure
unless_stopped true = None
unless_stopped false = Some not_stopped

abbrev pub if_stopped : Bool → Phase → Option Failure
if_stopped stopped Fresh = Some not_attached
if_stopped stopped Attached = unless_stopped stopped
if_stopped stopped Gone = Some target_gone

-- the failure that is known before anything is done (DAP specification, Base Protocol, ErrorResponse)
abbrev pub failure_of : Wanting → State → Option Failure
failure_of wants_nothing state = None
failure_of wants_no_target state = unless_attached state.phase
failure_of wants_target state = if_attached state.phase
failure_of wants_stop state = if_stopped state.stopped state.phase

-- a request that fails does nothing but tell its failure
abbrev pub parts_by : Option Failure → List Part → List Part
parts_by (Some failure) row = Part.Responds (Failed failure) ∷ []
parts_by None row = row

abbrev pub request_parts : Command → State → List Part
request_parts command state = parts_by (failure_of (wanting command) state) (row_of command state)

-- Choices -------------------------------------------------------------------------------------------------------------

-- how a target is left (JDWP, VirtualMachine command set, Dispose and Exit)
abbrev pub leaving : Bool → Deed
leaving true = Exit
leaving false = Dispose

-- only a target that is attached has to be left
abbrev pub leaves : Phase → Bool → List Part
leaves Fresh exits = []
leaves Attached exits = Part.Sends (leaving exits) ∷ []
leaves Gone exits = []

-- each of these is told
abbrev pub each_told : List News → List Part
each_told [] = []
each_told (one ∷ others) = Part.Tells (some_news one) ∷ each_told others

-- as long as the session is attached
abbrev pub told_in : Phase → List News → List Part
told_in Fresh news = []
told_in Attached news = each_told news
told_in Gone news = []

-- what is news: the breakpoints that are verified, and then the threads whose start or end the item tells
abbrev pub news_of : ℕ → State → Item → List News
news_of below state item =
    map entry_verified (newly_verified below state.bound state.wishes) ++ changes_in item

-- the error that the last effect was refused with
abbrev pub code_in : Option Replied → Option ℕ
code_in None = None
code_in (Some (an_answer answer)) = None
code_in (Some (an_error code)) = Some code

abbrev pub refused_with : Option Doing → Option ℕ
refused_with None = None
refused_with (Some doing) = code_in doing.reply

-- Once the event request of a step is set the stop is over, and the whole target runs on; where it was refused the request
-- fails, and the stop goes on (JDWP, VirtualMachine command set, Resume).
abbrev pub stepped_by : Option ℕ → List Part
stepped_by None = Part.Sends (Resume of_stop) ∷ Part.Responds (Success Nothing) ∷ []
stepped_by (Some code) = Part.Notes (Steps None) ∷ Part.Updates ∷ Part.Responds (Failed (refusal code)) ∷ []

-- Once a value is written it is told; where it was refused the request fails.
abbrev pub written_by : Seen → Option ℕ → List Part
written_by seen None = Part.Responds (Success (a_written seen)) ∷ []
written_by seen (Some code) = Part.Responds (Failed (refusal code)) ∷ []

-- the table of choices: what a part becomes when its turn comes
abbrev pub chosen : Choice → State → Hand → List Part
chosen (TellsNews below) state hand = told_in state.phase (news_of below state hand.item)
chosen Judges state hand = judged state hand.item
chosen (Decides logged stops) state hand = decided state logged stops hand.item
chosen Stepped state hand = stepped_by (refused_with hand.effect)
chosen (Written seen) state hand = written_by seen (refused_with hand.effect)
chosen (Leaves exits) state hand = leaves state.phase exits

-- whether it brings the response
abbrev pub choice_responds : Choice → Bool
choice_responds (TellsNews below) = false
choice_responds Judges = false
choice_responds (Decides logged stops) = false
choice_responds Stepped = true
choice_responds (Written seen) = true
choice_responds (Leaves exits) = false

-- Notes ---------------------------------------------------------------------------------------------------------------

-- the table of notes: what is known once they are written down
abbrev pub noted : Note → State → State
noted (Options options) state = record state { options = options }
noted (Roots roots) state = record state { roots = roots }
noted (Lines key path entries) state = record state {
  paths = with_path key path state.paths;
  next_entry = state.next_entry + length entries;
  wishes = lines_wished key entries state.wishes;
}
noted (Functions entries) state = record state {
  next_entry = state.next_entry + length entries;
  wishes = functions_wished entries state.wishes;
}
noted (StopsAt caught uncaught) state = record state {
  wishes = rewished (with_exceptions caught uncaught state.wishes.wanted) state.wishes;
}
noted (Steps step) state = record state { wishes = rewished (with_step step state.wishes.wanted) state.wishes }
noted (Throws thrown) state = record state { thrown = state.thrown ++ thrown }
noted (Classes classes) state = record state {
  wishes = rewished (with_known (found_in state.classes) classes state.wishes.wanted) state.wishes;
}
noted EntryHeld state = record state { entry = true }
noted Configured state = record state { configured = true }

-- Items ---------------------------------------------------------------------------------------------------------------

-- the client is told that nothing more comes of the target, once (DAP specification, Events, Terminated)
abbrev pub end_parts : Bool → List Part
end_parts true = []
end_parts false = Part.Tells Terminated ∷ []

-- what an item does when its turn comes
abbrev pub parts_of : State → Item → List Part
parts_of state (a_request request) = request_parts request.command state
parts_of state (a_composite at composite) =
    composite_parts state.phase (has_death composite.events) composite.policy at state.next_entry
parts_of state (a_raw at body) = []
parts_of state target_end = end_parts state.terminated

-- what is known once an item is taken
abbrev pub taken : Item → State → State
taken item state = record state { classes = learnt_by state.phase item state.classes }

-- Responses -----------------------------------------------------------------------------------------------------------

-- a part that brings the response of its item
abbrev pub is_response : Part → Bool
is_response (Part.Responds outcome) = true
is_response (Part.Looks lookup) = lookup_responds lookup
is_response (Part.Unfolds choice) = choice_responds choice
is_response (Part.Tells event) = false
is_response (Part.Sends deed) = false
is_response (Part.Awaits guard) = false
is_response Part.Updates = false
is_response (Part.Notes note) = false
is_response (Part.Ends finish) = false

abbrev pub has_response : List Part → Bool
has_response [] = false
has_response (part ∷ parts) = is_response part || has_response parts

-- At the target's end -------------------------------------------------------------------------------------------------

-- what is left of a request that has its response, once its target has ended: `disconnect` ends the session
abbrev pub gone_tail : Command → List Part
gone_tail (Disconnect arguments) = Part.Ends Done ∷ []
gone_tail _ = []

-- what is left of one that has none: it fails, but `disconnect` succeeds
abbrev pub gone_row : Command → List Part
gone_row (Disconnect arguments) = Part.Responds (Success Nothing) ∷ Part.Ends Done ∷ []
gone_row _ = Part.Responds (Failed target_gone) ∷ []

-- what is left of an item, which may have its response yet to come
abbrev pub gone_parts : Bool → Item → List Part
gone_parts true (a_request request) = gone_row request.command
gone_parts false (a_request request) = gone_tail request.command
gone_parts responds (a_composite at composite) = []
gone_parts responds (a_raw at body) = []
gone_parts responds target_end = []
