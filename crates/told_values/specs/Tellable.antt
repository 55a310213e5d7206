-- Messages whose texts are UTF-8 and whose numbers have 64 bits, as those of the code do. (DAP specification, Base
-- Protocol, ProtocolMessage; RFC 8259, 8.1)
use Rattle.std.specs.Prelude.{ℕ, ◌<◌, ◌^◌, Option, Some, None}
use Rattle.std.specs.List.{AllByRecursion}
use Rattle.std.specs.Str.{IsUtf8}
use Rattle.serde_json.specs.Find.{of_integer}
use Rattle.json_lines.specs.Spelled.{IsNumber}
use Rattle.dap_messages.specs.declared.told.Told.{Told}
use Rattle.dap_messages.specs.declared.told.Told.TheVariants as told
use Rattle.dap_messages.specs.declared.told.Response.{Response}
use Rattle.dap_messages.specs.declared.told.Outcome.{Outcome}
use Rattle.dap_messages.specs.declared.told.Outcome.TheVariants.{Success, Failure as Failed}
use Rattle.dap_messages.specs.declared.told.Failure.{Failure}
use Rattle.dap_messages.specs.declared.told.Detail.{Detail}
use Rattle.dap_messages.specs.declared.told.Detail.TheVariants.{Plain, Number, Name}
use Rattle.dap_messages.specs.declared.told.Shape.{Shape}
use Rattle.dap_messages.specs.declared.told.Shape.TheVariants.{Nothing, Capabilities, Breakpoints, Threads, Continued}
use Rattle.dap_messages.specs.declared.told.Shape.TheVariants.{StackFrames, Scopes, Variables, ExceptionInfo}
use Rattle.dap_messages.specs.declared.told.Shape.TheVariants.{Written as IsWritten, Evaluated as IsEvaluated}
use Rattle.dap_messages.specs.declared.told.Breakpoint.{Breakpoint}
use Rattle.dap_messages.specs.declared.told.Thread.{Thread}
use Rattle.dap_messages.specs.declared.told.Source.{Source}
use Rattle.dap_messages.specs.declared.told.StackFrame.{StackFrame}
use Rattle.dap_messages.specs.declared.told.Variable.{Variable}
use Rattle.dap_messages.specs.declared.told.Written.{Written}
use Rattle.dap_messages.specs.declared.told.Evaluated.{Evaluated}
use Rattle.dap_messages.specs.declared.told.Event.{Event}
use Rattle.dap_messages.specs.declared.told.Event.TheVariants.{Initialized, Breakpoint as Changed, Output, Terminated}
use Rattle.dap_messages.specs.declared.told.Event.TheVariants.{Thread as ThreadChanged, Stopped as HasStopped}
use Rattle.dap_messages.specs.declared.told.StopReason.{StopReason}
use Rattle.dap_messages.specs.declared.told.StopReason.TheVariants.{Breakpoint as Hit, Exception, Step, Pause}
use Rattle.dap_messages.specs.declared.told.StopReason.TheVariants.{FunctionBreakpoint as FunctionHit}

-- a number of 64 bits
abbrev pub IsCount : ℕ → Type 0
IsCount n = n < 2 ^ 64

-- what is left out, or is such
abbrev pub OrLeftOut : {A : Type 0} → (A → Type 0) → Option A → Type 0
OrLeftOut Is None = Unit {0}
OrLeftOut Is (Some a) = Is a

-- a breakpoint (DAP specification, Types, Breakpoint)
abbrev pub IsTellableBreakpoint : Breakpoint → Type 0
IsTellableBreakpoint breakpoint = IsCount breakpoint.id × OrLeftOut IsCount breakpoint.line

-- a thread (DAP specification, Types, Thread)
abbrev pub IsTellableThread : Thread → Type 0
IsTellableThread thread = IsCount thread.id × IsUtf8 thread.name

-- a source (DAP specification, Types, Source)
abbrev pub IsTellableSource : Source → Type 0
IsTellableSource source = IsUtf8 source.name × IsUtf8 source.path

-- a frame (DAP specification, Types, StackFrame)
abbrev pub IsTellableFrame : StackFrame → Type 0
IsTellableFrame frame =
    IsCount frame.column × (IsCount frame.id × (IsNumber (of_integer frame.line) × (IsUtf8 frame.name
    × OrLeftOut IsTellableSource frame.source)))

-- a variable (DAP specification, Types, Variable)
abbrev pub IsTellableVariable : Variable → Type 0
IsTellableVariable variable =
    OrLeftOut IsCount variable.indexed × (IsUtf8 variable.name × (OrLeftOut IsUtf8 variable.kind
    × (IsUtf8 variable.value × IsCount variable.reference)))

-- what a variable was set to (DAP specification, SetVariable request)
abbrev pub IsTellableWrite : Written → Type 0
IsTellableWrite written = OrLeftOut IsUtf8 written.kind × IsUtf8 written.value

-- what an expression stands for (DAP specification, Evaluate request)
abbrev pub IsTellableResult : Evaluated → Type 0
IsTellableResult evaluated =
    OrLeftOut IsCount evaluated.indexed × (IsUtf8 evaluated.result × (OrLeftOut IsUtf8 evaluated.kind
    × IsCount evaluated.reference))

-- the body of a response that succeeds (DAP specification, Base Protocol, Response, `body`)
abbrev pub IsTellableShape : Shape → Type 0
IsTellableShape Nothing = Unit {0}
IsTellableShape Capabilities = Unit {0}
IsTellableShape (Breakpoints breakpoints) = AllByRecursion IsTellableBreakpoint breakpoints
IsTellableShape (Threads threads) = AllByRecursion IsTellableThread threads
IsTellableShape (StackFrames frames total) = AllByRecursion IsTellableFrame frames × IsCount total
IsTellableShape (Scopes reference) = IsCount reference
IsTellableShape (Variables variables) = AllByRecursion IsTellableVariable variables
IsTellableShape (IsWritten written) = IsTellableWrite written
IsTellableShape (IsEvaluated evaluated) = IsTellableResult evaluated
IsTellableShape Continued = Unit {0}
IsTellableShape (ExceptionInfo id mode) = IsUtf8 id

-- what follows the message of a failure
abbrev pub IsTellableDetail : Detail → Type 0
IsTellableDetail Plain = Unit {0}
IsTellableDetail (Number n) = IsCount n
IsTellableDetail (Name name) = IsUtf8 name

-- a failure (DAP specification, Types, Message)
abbrev pub IsTellableFailure : Failure → Type 0
IsTellableFailure failure = IsCount failure.code × IsTellableDetail failure.detail

-- what came of a request (DAP specification, Base Protocol, Response and ErrorResponse)
abbrev pub IsTellableOutcome : Outcome → Type 0
IsTellableOutcome (Success shape) = IsTellableShape shape
IsTellableOutcome (Failed failure) = IsTellableFailure failure

-- a response (DAP specification, Base Protocol, Response)
abbrev pub IsTellableResponse : Response → Type 0
IsTellableResponse response =
    IsCount response.request_seq × (IsUtf8 response.command × IsTellableOutcome response.outcome)

-- why the target stands still (DAP specification, Events, Stopped)
abbrev pub IsTellableReason : StopReason → Type 0
IsTellableReason (Hit ids) = AllByRecursion IsCount ids
IsTellableReason (FunctionHit ids) = AllByRecursion IsCount ids
IsTellableReason (Exception text) = OrLeftOut IsUtf8 text
IsTellableReason Step = Unit {0}
IsTellableReason Pause = Unit {0}

-- an event (DAP specification, Base Protocol, Event)
abbrev pub IsTellableEvent : Event → Type 0
IsTellableEvent Initialized = Unit {0}
IsTellableEvent (Changed breakpoint) = IsTellableBreakpoint breakpoint
IsTellableEvent (ThreadChanged change) = IsCount change.id
IsTellableEvent (HasStopped stopped) = IsTellableReason stopped.reason × IsCount stopped.thread
IsTellableEvent (Output text) = IsUtf8 text
IsTellableEvent Terminated = Unit {0}

-- a message (DAP specification, Base Protocol, ProtocolMessage)
abbrev pub IsTellable : Told → Type 0
IsTellable (told.Response response) = IsTellableResponse response
IsTellable (told.Event event) = IsTellableEvent event
