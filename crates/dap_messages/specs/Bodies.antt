-- The bodies of responses that succeed. (DAP specification, Base Protocol, Response, `body`)
use Rattle.std.specs.Prelude.{ℕ, List, [], ◌∷◌, ◌++◌, map, true, false, codes, Option, Some, None, is_none, option_map}
use Rattle.serde_json.specs.Data.{Data, string, boolean, array}
use Rattle.serde_json.specs.View.{items_of}
use Rattle.dap_messages.specs.Objects.{count, integer, maybe_member, object_of}
use Rattle.dap_messages.specs.declared.told.Shape.{Shape}
use Rattle.dap_messages.specs.declared.told.Shape.TheVariants.{Nothing, Capabilities, Breakpoints, Threads, Continued}
use Rattle.dap_messages.specs.declared.told.Shape.TheVariants.{StackFrames, Scopes, Variables, ExceptionInfo}
use Rattle.dap_messages.specs.declared.told.Shape.TheVariants.{Written as IsWritten, Evaluated as IsEvaluated}
use Rattle.dap_messages.specs.declared.told.Breakpoint.{Breakpoint}
use Rattle.dap_messages.specs.declared.told.BreakpointStatus.{BreakpointStatus}
use Rattle.dap_messages.specs.declared.told.BreakpointStatus.TheVariants.{Verified, NoSourceRoot}
use Rattle.dap_messages.specs.declared.told.BreakpointStatus.TheVariants.{ConditionsUnsupported, RefusedByTarget}
use Rattle.dap_messages.specs.declared.told.BreakpointStatus.TheVariants.{NotBoundYet}
use Rattle.dap_messages.specs.declared.told.Thread.{Thread}
use Rattle.dap_messages.specs.declared.told.Source.{Source}
use Rattle.dap_messages.specs.declared.told.StackFrame.{StackFrame}
use Rattle.dap_messages.specs.declared.told.Variable.{Variable}
use Rattle.dap_messages.specs.declared.told.Written.{Written}
use Rattle.dap_messages.specs.declared.told.Evaluated.{Evaluated}
use Rattle.dap_messages.specs.declared.told.BreakMode.{BreakMode}
use Rattle.dap_messages.specs.declared.told.BreakMode.TheVariants.{Always, Unhandled}

-- a filter of exceptions (DAP specification, Types, ExceptionBreakpointsFilter)
abbrev pub filter_data : List ℕ → List ℕ → Data
filter_data filter label = object_of ((codes "filter", string filter) ∷ (codes "label", string label) ∷ [])

-- the filters that the adapter has
abbrev pub filters_data : Data
filters_data = array (items_of (
    filter_data (codes "caught") (codes "Caught exceptions") ∷
    filter_data (codes "uncaught") (codes "Uncaught exceptions") ∷ []))

-- what the adapter can do (DAP specification, Types, Capabilities)
abbrev pub capabilities_data : Data
capabilities_data = object_of (
    (codes "exceptionBreakpointFilters", filters_data) ∷
    (codes "supportTerminateDebuggee", boolean true) ∷
    (codes "supportsConfigurationDoneRequest", boolean true) ∷
    (codes "supportsEvaluateForHovers", boolean true) ∷
    (codes "supportsExceptionInfoRequest", boolean true) ∷
    (codes "supportsFunctionBreakpoints", boolean true) ∷
    (codes "supportsSetVariable", boolean true) ∷ [])

-- why a breakpoint isn't verified, where it isn't: the adapter's own words (DAP specification, Types, Breakpoint)
abbrev pub reason_of : BreakpointStatus → Option (List ℕ)
reason_of Verified = None
reason_of NoSourceRoot = Some (codes "no source root")
reason_of ConditionsUnsupported = Some (codes "conditions are not supported")
reason_of RefusedByTarget = Some (codes "refused by the target")
reason_of NotBoundYet = Some (codes "not bound yet")

-- the members that say how a breakpoint stands (DAP specification, Types, Breakpoint, `message` and `verified`)
abbrev pub standing_members : Option (List ℕ) → List (List ℕ × Data)
standing_members reason =
    maybe_member (codes "message") (option_map string reason)
    ++ (codes "verified", boolean (is_none reason)) ∷ []

-- the member `line`, which only a breakpoint of a source has (DAP specification, Types, Breakpoint, `line`)
abbrev pub line_member : Option ℕ → List (List ℕ × Data)
line_member line = maybe_member (codes "line") (option_map count line)

-- a breakpoint of this number and line, verified where nothing is said against it
abbrev pub standing_data : ℕ → Option ℕ → Option (List ℕ) → Data
standing_data id line reason =
    object_of ((codes "id", count id) ∷ (line_member line ++ standing_members reason))

-- a breakpoint (DAP specification, Types, Breakpoint)
abbrev pub breakpoint_data : Breakpoint → Data
breakpoint_data breakpoint = standing_data breakpoint.id breakpoint.line (reason_of breakpoint.status)

-- the body of the response to `setBreakpoints` and to `setFunctionBreakpoints`
-- (DAP specification, SetBreakpoints and SetFunctionBreakpoints request)
abbrev pub breakpoints_data : List Breakpoint → Data
breakpoints_data breakpoints =
    object_of ((codes "breakpoints", array (items_of (map breakpoint_data breakpoints))) ∷ [])

-- a thread (DAP specification, Types, Thread)
abbrev pub thread_data : Thread → Data
thread_data thread = object_of ((codes "id", count thread.id) ∷ (codes "name", string thread.name) ∷ [])

-- the body of the response to `threads` (DAP specification, Threads request)
abbrev pub threads_data : List Thread → Data
threads_data threads = object_of ((codes "threads", array (items_of (map thread_data threads))) ∷ [])

-- a source (DAP specification, Types, Source)
abbrev pub source_data : Source → Data
source_data source = object_of ((codes "name", string source.name) ∷ (codes "path", string source.path) ∷ [])

-- the member `source`, which is left out where no source is known (DAP specification, Types, StackFrame, `source`)
abbrev pub source_member : Option Data → List (List ℕ × Data)
source_member source = maybe_member (codes "source") source

-- a frame with this source (DAP specification, Types, StackFrame)
abbrev pub located_data : StackFrame → Option Data → Data
located_data frame source = object_of (
    (codes "column", count frame.column) ∷
    (codes "id", count frame.id) ∷
    (codes "line", integer frame.line) ∷
    (codes "name", string frame.name) ∷ source_member source)

-- a frame (DAP specification, Types, StackFrame)
abbrev pub frame_data : StackFrame → Data
frame_data frame = located_data frame (option_map source_data frame.source)

-- the body of the response to `stackTrace` (DAP specification, StackTrace request)
abbrev pub stack_frames_data : List StackFrame → ℕ → Data
stack_frames_data frames total = object_of (
    (codes "stackFrames", array (items_of (map frame_data frames))) ∷
    (codes "totalFrames", count total) ∷ [])

-- a scope: the one that a frame has, whose words are the adapter's own (DAP specification, Types, Scope)
abbrev pub scope_data : ℕ → Data
scope_data reference = object_of (
    (codes "expensive", boolean false) ∷
    (codes "name", string (codes "Locals")) ∷
    (codes "presentationHint", string (codes "locals")) ∷
    (codes "variablesReference", count reference) ∷ [])

-- the body of the response to `scopes` (DAP specification, Scopes request)
abbrev pub scopes_data : ℕ → Data
scopes_data reference = object_of ((codes "scopes", array (items_of (scope_data reference ∷ []))) ∷ [])

-- the member `indexedVariables`, where there are such ones (DAP specification, Types, Variable, `indexedVariables`)
abbrev pub indexed_member : Option ℕ → List (List ℕ × Data)
indexed_member indexed = maybe_member (codes "indexedVariables") (option_map count indexed)

-- the member `type`, where the type is shown (DAP specification, Types, Variable, `type`)
abbrev pub type_member : Option (List ℕ) → List (List ℕ × Data)
type_member kind = maybe_member (codes "type") (option_map string kind)

-- a variable with this many children that have an index, and with this type (DAP specification, Types, Variable)
abbrev pub child_data : Variable → Option ℕ → Option (List ℕ) → Data
child_data variable indexed kind = object_of (indexed_member indexed ++
    (codes "name", string variable.name) ∷ (type_member kind ++
    (codes "value", string variable.value) ∷
    (codes "variablesReference", count variable.reference) ∷ []))

-- a variable (DAP specification, Types, Variable)
abbrev pub variable_data : Variable → Data
variable_data variable = child_data variable variable.indexed variable.kind

-- the body of the response to `variables` (DAP specification, Variables request)
abbrev pub variables_data : List Variable → Data
variables_data variables = object_of ((codes "variables", array (items_of (map variable_data variables))) ∷ [])

-- a value that a variable was set to, with this type and without children (DAP specification, SetVariable request)
abbrev pub set_data : List ℕ → Option (List ℕ) → Data
set_data value kind = object_of (type_member kind ++
    (codes "value", string value) ∷
    (codes "variablesReference", count 0) ∷ [])

-- the body of the response to `setVariable` (DAP specification, SetVariable request)
abbrev pub written_data : Written → Data
written_data written = set_data written.value written.kind

-- a result with this many children that have an index, and with this type (DAP specification, Evaluate request)
abbrev pub result_data : Evaluated → Option ℕ → Option (List ℕ) → Data
result_data evaluated indexed kind = object_of (indexed_member indexed ++
    (codes "result", string evaluated.result) ∷ (type_member kind ++
    (codes "variablesReference", count evaluated.reference) ∷ []))

-- the body of the response to `evaluate` (DAP specification, Evaluate request)
abbrev pub evaluated_data : Evaluated → Data
evaluated_data evaluated = result_data evaluated evaluated.indexed evaluated.kind

-- the body of the response to `continue` (DAP specification, Continue request)
abbrev pub continued_data : Data
continued_data = object_of ((codes "allThreadsContinued", boolean true) ∷ [])

-- when an exception stops its thread (DAP specification, Types, ExceptionBreakMode)
abbrev pub mode_name : BreakMode → List ℕ
mode_name Always = codes "always"
mode_name Unhandled = codes "unhandled"

-- the body of the response to `exceptionInfo` (DAP specification, ExceptionInfo request)
abbrev pub exception_info_data : List ℕ → BreakMode → Data
exception_info_data id mode =
    object_of ((codes "breakMode", string (mode_name mode)) ∷ (codes "exceptionId", string id) ∷ [])

-- the body of a response, where there is one
abbrev pub shape_data : Shape → Option Data
shape_data Nothing = None
shape_data Capabilities = Some capabilities_data
shape_data (Breakpoints breakpoints) = Some (breakpoints_data breakpoints)
shape_data (Threads threads) = Some (threads_data threads)
shape_data (StackFrames frames total) = Some (stack_frames_data frames total)
shape_data (Scopes reference) = Some (scopes_data reference)
shape_data (Variables variables) = Some (variables_data variables)
shape_data (IsWritten written) = Some (written_data written)
shape_data (IsEvaluated evaluated) = Some (evaluated_data evaluated)
shape_data Continued = Some continued_data
shape_data (ExceptionInfo id mode) = Some (exception_info_data id mode)
