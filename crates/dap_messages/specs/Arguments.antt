-- The arguments of a request, each by its rule. (DAP specification, Requests)
use Rattle.std.specs.Prelude.{◌≡◌, ℕ, ◌^◌, List, [], ◌∷◌, Bool, true, false, nat_lt, if◌then◌else◌, codes, bytes_eq}
use Rattle.std.specs.Prelude.{Option, Some, None, option_and_then, option_map, Result, Ok, Err, ⊤}
use Rattle.serde_json.specs.Data.{Data, null, boolean, number, string, array, object, Items, no_items, item}
use Rattle.serde_json.specs.Find.{get, as_array, as_bool, as_number, as_str, as_u64}
use Rattle.dap_messages.specs.declared.arguments.Argument.{Argument}
use Rattle.dap_messages.specs.declared.arguments.Argument.TheVariants.{Arguments, AdapterId, LinesStartAt1}
use Rattle.dap_messages.specs.declared.arguments.Argument.TheVariants.{ColumnsStartAt1, PathFormat}
use Rattle.dap_messages.specs.declared.arguments.Argument.TheVariants.{SupportsVariableType, SourceRoots}
use Rattle.dap_messages.specs.declared.arguments.Argument.TheVariants.{Source, Breakpoints, Filters, ThreadId}
use Rattle.dap_messages.specs.declared.arguments.Argument.TheVariants.{StartFrame, Levels, FrameId}
use Rattle.dap_messages.specs.declared.arguments.Argument.TheVariants.{VariablesReference, Filter as FilterMember}
use Rattle.dap_messages.specs.declared.arguments.Argument.TheVariants.{Start, Count, Name, Value, Expression}
use Rattle.dap_messages.specs.declared.arguments.Argument.TheVariants.{TerminateDebuggee}
use Rattle.dap_messages.specs.declared.arguments.Refused.{Refused}
use Rattle.dap_messages.specs.declared.arguments.Refused.TheVariants.{NoMemory, Broken}
use Rattle.dap_messages.specs.declared.requests.InitializeArguments.{InitializeArguments}
use Rattle.dap_messages.specs.declared.requests.AttachArguments.{AttachArguments}
use Rattle.dap_messages.specs.declared.requests.ThreadArguments.{ThreadArguments}
use Rattle.dap_messages.specs.declared.requests.StackTraceArguments.{StackTraceArguments}
use Rattle.dap_messages.specs.declared.requests.ScopesArguments.{ScopesArguments}
use Rattle.dap_messages.specs.declared.requests.VariablesArguments.{VariablesArguments}
use Rattle.dap_messages.specs.declared.requests.SetVariableArguments.{SetVariableArguments}
use Rattle.dap_messages.specs.declared.requests.EvaluateArguments.{EvaluateArguments}
use Rattle.dap_messages.specs.declared.requests.Filter.{Filter}
use Rattle.dap_messages.specs.declared.requests.Filter.TheVariants.{Both, Indexed, Named}
use Rattle.dap_messages.specs.declared.requests.DisconnectArguments.{DisconnectArguments}

-- the name under which an argument stands
abbrev pub argument_name : Argument → List ℕ
argument_name Arguments = codes "arguments"
argument_name AdapterId = codes "adapterID"
argument_name LinesStartAt1 = codes "linesStartAt1"
argument_name ColumnsStartAt1 = codes "columnsStartAt1"
argument_name PathFormat = codes "pathFormat"
argument_name SupportsVariableType = codes "supportsVariableType"
argument_name SourceRoots = codes "sourceRoots"
argument_name Source = codes "source"
argument_name Breakpoints = codes "breakpoints"
argument_name Filters = codes "filters"
argument_name ThreadId = codes "threadId"
argument_name StartFrame = codes "startFrame"
argument_name Levels = codes "levels"
argument_name FrameId = codes "frameId"
argument_name VariablesReference = codes "variablesReference"
argument_name FilterMember = codes "filter"
argument_name Start = codes "start"
argument_name Count = codes "count"
argument_name Name = codes "name"
argument_name Value = codes "value"
argument_name Expression = codes "expression"
argument_name TerminateDebuggee = codes "terminateDebuggee"

-- null counts as missing
abbrev pub unless_null : Data → Option Data
unless_null null = None
unless_null (boolean b) = Some (boolean b)
unless_null (number n) = Some (number n)
unless_null (string s) = Some (string s)
unless_null (array ds) = Some (array ds)
unless_null (object ms) = Some (object ms)

-- the argument, where it isn't missing
abbrev pub given : Argument → Data → Option Data
given argument arguments = option_and_then unless_null (get (argument_name argument) arguments)

-- a value, or the argument that breaks its rule
abbrev pub unless_broken : {A : Type 0} → Argument → Option A → Result A Argument
unless_broken which (Some value) = Ok value
unless_broken which None = Err which

-- what stands for a missing argument, or what a given one is read as
abbrev pub or_missing : {A : Type 0} → A → (Data → Result A Argument) → Option Data → Result A Argument
or_missing missing read None = Ok missing
or_missing missing read (Some value) = read value

-- a text that must be there
abbrev pub text_at : Argument → Data → Result (List ℕ) Argument
text_at argument arguments = unless_broken argument (option_and_then as_str (given argument arguments))

-- each item is read, or none is
abbrev pub each_in : {A : Type 0} → (Data → Option A) → Items → Option (List A)
each_in read no_items = Some []
each_in read (item d ds) = option_and_then (λ x. option_map (λ xs. x ∷ xs) (each_in read ds)) (read d)

-- a list that has an item
abbrev pub unless_empty : List (List ℕ) → Option (List (List ℕ))
unless_empty [] = None
unless_empty (text ∷ texts) = Some (text ∷ texts)

-- a value that is a list of texts and has one
abbrev pub as_texts : Data → Option (List (List ℕ))
as_texts value = option_and_then unless_empty (option_and_then (each_in as_str) (as_array value))

-- a list of texts that must be there and have one
abbrev pub texts_at : Argument → Data → Result (List (List ℕ)) Argument
texts_at argument arguments = unless_broken argument (option_and_then as_texts (given argument arguments))

-- a number of at most 2 ^ 31 - 1
abbrev pub in_int : ℕ → Option ℕ
in_int n = if nat_lt n (2 ^ 31) then Some n else None

-- a value that is an integer from 0 to 2 ^ 31 - 1
abbrev pub as_int : Data → Option ℕ
as_int value = option_and_then in_int (option_and_then as_u64 (as_number value))

-- an integer from 0 to 2 ^ 31 - 1 that must be there
abbrev pub int_at : Argument → Data → Result ℕ Argument
int_at argument arguments = unless_broken argument (option_and_then as_int (given argument arguments))

-- an integer from 0 to 2 ^ 31 - 1, which may be missing
abbrev pub int_or : Argument → ℕ → Data → Result ℕ Argument
int_or argument missing arguments =
    or_missing missing (λ value. unless_broken argument (as_int value)) (given argument arguments)

-- a truth value, which may be missing
abbrev pub flag_at : Argument → Bool → Data → Result Bool Argument
flag_at argument missing arguments =
    or_missing missing (λ value. unless_broken argument (as_bool value)) (given argument arguments)

-- the one form of paths (DAP specification, Initialize request, `pathFormat`)
abbrev pub is_path_format : List ℕ → Option ⊤
is_path_format format = if bytes_eq format (codes "path") then Some tt else None

-- a value that is the text `path`
abbrev pub as_path_format : Data → Option ⊤
as_path_format value = option_and_then is_path_format (as_str value)

-- the form of paths, which may be missing, and is `path` where it is given
abbrev pub path_format_at : Argument → Data → Result ⊤ Argument
path_format_at argument arguments =
    or_missing tt (λ value. unless_broken argument (as_path_format value)) (given argument arguments)

-- which children a text of `filter` names (DAP specification, Variables request, `filter`)
abbrev pub filter_of : List ℕ → Option Filter
filter_of text =
    if bytes_eq text (codes "indexed") then Some Indexed else
    (if bytes_eq text (codes "named") then Some Named else None)

-- a value that is such a text
abbrev pub as_filter : Data → Option Filter
as_filter value = option_and_then filter_of (as_str value)

-- which children are wanted, which are those of both kinds where that is missing
abbrev pub filter_at : Argument → Data → Result Filter Argument
filter_at argument arguments =
    or_missing Both (λ value. unless_broken argument (as_filter value)) (given argument arguments)

-- the first argument that breaks its rule decides
infixl 10 ◌>>=◌
abbrev pub ◌>>=◌ : {A B : Type 0} → Result A Argument → (A → Result B Argument) → Result B Argument
Ok value >>= next = next value
Err broken >>= next = Err broken

-- what `initialize` says, with the defaults of what is missing (DAP specification, Initialize request)
abbrev pub initialize_of : Data → Result InitializeArguments Argument
initialize_of arguments = do
  adapter_id ← text_at AdapterId arguments
  lines_start_at1 ← flag_at LinesStartAt1 true arguments
  columns_start_at1 ← flag_at ColumnsStartAt1 true arguments
  path_format ← path_format_at PathFormat arguments
  supports_variable_type ← flag_at SupportsVariableType false arguments
  Ok (record {
    adapter_id = adapter_id;
    lines_start_at1 = lines_start_at1;
    columns_start_at1 = columns_start_at1;
    supports_variable_type = supports_variable_type;
  })

-- what `attach` says, which is the adapter's own: the folders that sources stand in (DAP specification, Attach request)
abbrev pub attach_of : Data → Result AttachArguments Argument
attach_of arguments = do
  source_roots ← texts_at SourceRoots arguments
  Ok (record { source_roots = source_roots })

-- what `continue`, `next`, `stepIn`, `stepOut`, `pause` and `exceptionInfo` say
-- (DAP specification, Continue, Next, StepIn, StepOut, Pause and ExceptionInfo request)
abbrev pub thread_of : Data → Result ThreadArguments Argument
thread_of arguments = do
  thread_id ← int_at ThreadId arguments
  Ok (record { thread_id = thread_id })

-- what `stackTrace` says, with the defaults of what is missing (DAP specification, StackTrace request)
abbrev pub stack_trace_of : Data → Result StackTraceArguments Argument
stack_trace_of arguments = do
  thread_id ← int_at ThreadId arguments
  start_frame ← int_or StartFrame 0 arguments
  levels ← int_or Levels 0 arguments
  Ok (record { thread_id = thread_id; start_frame = start_frame; levels = levels })

-- what `scopes` says (DAP specification, Scopes request)
abbrev pub scopes_of : Data → Result ScopesArguments Argument
scopes_of arguments = do
  frame_id ← int_at FrameId arguments
  Ok (record { frame_id = frame_id })

-- what `variables` says, with the defaults of what is missing (DAP specification, Variables request)
abbrev pub variables_of : Data → Result VariablesArguments Argument
variables_of arguments = do
  variables_reference ← int_at VariablesReference arguments
  filter ← filter_at FilterMember arguments
  start ← int_or Start 0 arguments
  count ← int_or Count 0 arguments
  Ok (record { variables_reference = variables_reference; filter = filter; start = start; count = count })

-- what `setVariable` says (DAP specification, SetVariable request)
abbrev pub set_variable_of : Data → Result SetVariableArguments Argument
set_variable_of arguments = do
  variables_reference ← int_at VariablesReference arguments
  name ← text_at Name arguments
  value ← text_at Value arguments
  Ok (record { variables_reference = variables_reference; name = name; value = value })

-- what `evaluate` says (DAP specification, Evaluate request)
abbrev pub evaluate_of : Data → Result EvaluateArguments Argument
evaluate_of arguments = do
  expression ← text_at Expression arguments
  frame_id ← int_at FrameId arguments
  Ok (record { expression = expression; frame_id = frame_id })

-- what `disconnect` says (DAP specification, Disconnect request)
abbrev pub disconnect_of : Data → Result DisconnectArguments Argument
disconnect_of arguments = do
  terminate_debuggee ← flag_at TerminateDebuggee false arguments
  Ok (record { terminate_debuggee = terminate_debuggee })

-- the result is this one, unless memory was refused
abbrev pub IsRead : {A : Type 0} → Result A Refused → Result A Argument → Type 0
IsRead (Ok value) reading = reading ≡ Ok value
IsRead (Err NoMemory) reading = Unit {0}
IsRead (Err (Broken argument)) reading = reading ≡ Err argument
