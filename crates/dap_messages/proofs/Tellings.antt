-- No told message has a float, so its text is the compact one.
use Rattle.std.proofs.Common.{◌≡◌, ℕ, ℤ, pos, negsuc, List, [], ◌∷◌, map, false, ◌||◌, codes, Option, Some, None, refl}
use Rattle.std.proofs.Common.{option_map, ap, ◌∙◌}
use Rattle.serde_json.specs.Data.{Data}
use Rattle.serde_json.specs.View.{items_of}
use Rattle.serde_json.specs.Written.{compact_text, has_float, items_have_float, members_have_float}
use Rattle.dap_messages.specs.Objects.{count, integer, members_of}
use Rattle.dap_messages.specs.Bodies.{breakpoint_data, breakpoints_data, reason_of, standing_data}
use Rattle.dap_messages.specs.Bodies.{frame_data, source_data, source_member, stack_frames_data}
use Rattle.dap_messages.specs.Bodies.{child_data, variable_data, variables_data}
use Rattle.dap_messages.specs.Bodies.{evaluated_data, result_data, set_data, written_data}
use Rattle.dap_messages.specs.Bodies.{thread_data, threads_data}
use Rattle.dap_messages.specs.Events.{event_data, halt_data, hit_data, stop_data}
use Rattle.dap_messages.specs.Telling.{answer_data, outcome_data, told_data, told_text}
use Rattle.dap_messages.specs.declared.told.Told.{Told}
use Rattle.dap_messages.specs.declared.told.Told.TheVariants as told
use Rattle.dap_messages.specs.declared.told.Outcome.{Outcome}
use Rattle.dap_messages.specs.declared.told.Outcome.TheVariants.{Success, Failure as Failed}
use Rattle.dap_messages.specs.declared.told.Shape.TheVariants.{Nothing, Capabilities, Breakpoints, Threads, Continued}
use Rattle.dap_messages.specs.declared.told.Shape.TheVariants.{StackFrames, Scopes, Variables, ExceptionInfo}
use Rattle.dap_messages.specs.declared.told.Shape.TheVariants.{Written as IsWritten, Evaluated as IsEvaluated}
use Rattle.dap_messages.specs.declared.told.Event.{Event}
use Rattle.dap_messages.specs.declared.told.Event.TheVariants.{Initialized, Breakpoint as Changed, Output, Terminated}
use Rattle.dap_messages.specs.declared.told.Event.TheVariants.{Thread as ThreadChanged, Stopped as HasStopped}
use Rattle.dap_messages.specs.declared.told.StopReason.{StopReason}
use Rattle.dap_messages.specs.declared.told.StopReason.TheVariants.{Breakpoint as Hit, Exception, Step, Pause}
use Rattle.dap_messages.specs.declared.told.StopReason.TheVariants.{FunctionBreakpoint as FunctionHit}
use Rattle.dap_messages.specs.declared.told.Breakpoint.{Breakpoint}
use Rattle.dap_messages.specs.declared.told.Thread.{Thread}
use Rattle.dap_messages.specs.declared.told.Source.{Source}
use Rattle.dap_messages.specs.declared.told.StackFrame.{StackFrame}
use Rattle.dap_messages.specs.declared.told.Variable.{Variable}
use Rattle.dap_messages.specs.declared.told.Evaluated.{Evaluated}

has_float-standing_data : (id : ℕ) (line : Option ℕ) (reason : Option (List ℕ)) →
    has_float (standing_data id line reason) ≡ false
has_float-standing_data id None None = refl
has_float-standing_data id None (Some reason) = refl
has_float-standing_data id (Some line) None = refl
has_float-standing_data id (Some line) (Some reason) = refl

items_have_float-breakpoints : (breakpoints : List Breakpoint) →
    items_have_float (items_of (map breakpoint_data breakpoints)) ≡ false
items_have_float-breakpoints [] = refl
items_have_float-breakpoints (breakpoint ∷ breakpoints) =
    ap (λ found. found || items_have_float (items_of (map breakpoint_data breakpoints)))
    (has_float-standing_data breakpoint.id breakpoint.line (reason_of breakpoint.status))
    ∙ items_have_float-breakpoints breakpoints

has_float-breakpoints_data : (breakpoints : List Breakpoint) → has_float (breakpoints_data breakpoints) ≡ false
has_float-breakpoints_data breakpoints = ap (λ found. found || false) (items_have_float-breakpoints breakpoints)

items_have_float-threads : (threads : List Thread) → items_have_float (items_of (map thread_data threads)) ≡ false
items_have_float-threads [] = refl
items_have_float-threads (thread ∷ threads) = items_have_float-threads threads

has_float-threads_data : (threads : List Thread) → has_float (threads_data threads) ≡ false
has_float-threads_data threads = ap (λ found. found || false) (items_have_float-threads threads)

has_float-integer : (z : ℤ) → has_float (integer z) ≡ false
has_float-integer (pos n) = refl
has_float-integer (negsuc n) = refl

members_have_float-source : (source : Option Source) →
    members_have_float (members_of (source_member (option_map source_data source))) ≡ false
members_have_float-source None = refl
members_have_float-source (Some source) = refl

has_float-frame_data : (frame : StackFrame) → has_float (frame_data frame) ≡ false
has_float-frame_data frame =
    ap (λ found. found || members_have_float (members_of (source_member (option_map source_data frame.source))))
    (has_float-integer frame.line)
    ∙ members_have_float-source frame.source

items_have_float-frames : (frames : List StackFrame) → items_have_float (items_of (map frame_data frames)) ≡ false
items_have_float-frames [] = refl
items_have_float-frames (frame ∷ frames) =
    ap (λ found. found || items_have_float (items_of (map frame_data frames))) (has_float-frame_data frame)
    ∙ items_have_float-frames frames

has_float-stack_frames_data : (frames : List StackFrame) (total : ℕ) →
    has_float (stack_frames_data frames total) ≡ false
has_float-stack_frames_data frames total = ap (λ found. found || false) (items_have_float-frames frames)

has_float-child_data : (variable : Variable) (indexed : Option ℕ) (kind : Option (List ℕ)) →
    has_float (child_data variable indexed kind) ≡ false
has_float-child_data variable None None = refl
has_float-child_data variable None (Some kind) = refl
has_float-child_data variable (Some indexed) None = refl
has_float-child_data variable (Some indexed) (Some kind) = refl

items_have_float-variables : (variables : List Variable) →
    items_have_float (items_of (map variable_data variables)) ≡ false
items_have_float-variables [] = refl
items_have_float-variables (variable ∷ variables) =
    ap (λ found. found || items_have_float (items_of (map variable_data variables)))
    (has_float-child_data variable variable.indexed variable.kind)
    ∙ items_have_float-variables variables

has_float-variables_data : (variables : List Variable) → has_float (variables_data variables) ≡ false
has_float-variables_data variables = ap (λ found. found || false) (items_have_float-variables variables)

has_float-set_data : (value : List ℕ) (kind : Option (List ℕ)) → has_float (set_data value kind) ≡ false
has_float-set_data value None = refl
has_float-set_data value (Some kind) = refl

has_float-result_data : (evaluated : Evaluated) (indexed : Option ℕ) (kind : Option (List ℕ)) →
    has_float (result_data evaluated indexed kind) ≡ false
has_float-result_data evaluated None None = refl
has_float-result_data evaluated None (Some kind) = refl
has_float-result_data evaluated (Some indexed) None = refl
has_float-result_data evaluated (Some indexed) (Some kind) = refl

has_float-answer_data : (seq request_seq : ℕ) (command : List ℕ) (body : Data) →
    has_float body ≡ false → has_float (answer_data seq request_seq command (Some body)) ≡ false
has_float-answer_data seq request_seq command body none = ap (λ found. found || false) none

has_float-outcome_data : (seq request_seq : ℕ) (command : List ℕ) (outcome : Outcome) →
    has_float (outcome_data seq request_seq command outcome) ≡ false
has_float-outcome_data seq request_seq command (Success Nothing) = refl
has_float-outcome_data seq request_seq command (Success Capabilities) = refl
has_float-outcome_data seq request_seq command (Success (Breakpoints breakpoints)) =
    has_float-answer_data seq request_seq command
    (breakpoints_data breakpoints)
    (has_float-breakpoints_data breakpoints)
has_float-outcome_data seq request_seq command (Success (Threads threads)) =
    has_float-answer_data seq request_seq command (threads_data threads) (has_float-threads_data threads)
has_float-outcome_data seq request_seq command (Success (StackFrames frames total)) =
    has_float-answer_data seq request_seq command
    (stack_frames_data frames total)
    (has_float-stack_frames_data frames total)
has_float-outcome_data seq request_seq command (Success (Scopes reference)) = refl
has_float-outcome_data seq request_seq command (Success (Variables variables)) =
    has_float-answer_data seq request_seq command (variables_data variables) (has_float-variables_data variables)
has_float-outcome_data seq request_seq command (Success (IsWritten written)) =
    has_float-answer_data seq request_seq command
    (written_data written)
    (has_float-set_data written.value written.kind)
has_float-outcome_data seq request_seq command (Success (IsEvaluated evaluated)) =
    has_float-answer_data seq request_seq command
    (evaluated_data evaluated)
    (has_float-result_data evaluated evaluated.indexed evaluated.kind)
has_float-outcome_data seq request_seq command (Success Continued) = refl
has_float-outcome_data seq request_seq command (Success (ExceptionInfo id mode)) = refl
has_float-outcome_data seq request_seq command (Failed failure) = refl

items_have_float-ids : (ids : List ℕ) → items_have_float (items_of (map count ids)) ≡ false
items_have_float-ids [] = refl
items_have_float-ids (id ∷ ids) = items_have_float-ids ids

has_float-hit_data : (reason ids : List ℕ) (thread : ℕ) → has_float (hit_data reason ids thread) ≡ false
has_float-hit_data reason ids thread = ap (λ found. found || false) (items_have_float-ids ids)

has_float-halt_data : (reason : List ℕ) (text : Option (List ℕ)) (thread : ℕ) →
    has_float (halt_data reason text thread) ≡ false
has_float-halt_data reason None thread = refl
has_float-halt_data reason (Some text) thread = refl

has_float-stop_data : (reason : StopReason) (thread : ℕ) → has_float (stop_data reason thread) ≡ false
has_float-stop_data (Hit ids) thread = has_float-hit_data (codes "breakpoint") ids thread
has_float-stop_data (FunctionHit ids) thread = has_float-hit_data (codes "function breakpoint") ids thread
has_float-stop_data (Exception text) thread = has_float-halt_data (codes "exception") text thread
has_float-stop_data Step thread = refl
has_float-stop_data Pause thread = refl

has_float-event_data : (seq : ℕ) (event : Event) → has_float (event_data seq event) ≡ false
has_float-event_data seq Initialized = refl
has_float-event_data seq (Changed breakpoint) =
    rw (has_float-standing_data breakpoint.id breakpoint.line (reason_of breakpoint.status)) refl
has_float-event_data seq (ThreadChanged change) = refl
has_float-event_data seq (HasStopped stopped) =
    ap (λ found. found || false) (has_float-stop_data stopped.reason stopped.thread)
has_float-event_data seq (Output text) = refl
has_float-event_data seq Terminated = refl

pub has_float-told_data : (seq : ℕ) (message : Told) → has_float (told_data seq message) ≡ false
has_float-told_data seq (told.Response response) =
    has_float-outcome_data seq response.request_seq response.command response.outcome
has_float-told_data seq (told.Event event) = has_float-event_data seq event

-- what a value's bytes are, where it is the value of a told message
pub told_text-compact : (seq : ℕ) (message : Told) (value : Data) (text : List ℕ) →
    value ≡ told_data seq message → (has_float value ≡ false → text ≡ compact_text value) →
    text ≡ told_text seq message
unfolding told_text
told_text-compact seq message value text is compact =
    compact (ap has_float is ∙ has_float-told_data seq message) ∙ ap compact_text is
