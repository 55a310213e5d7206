-- The breakpoints that a request asks for. (DAP specification, SetBreakpoints and SetFunctionBreakpoints request)
use Rattle.std.specs.Prelude.{ℕ, ◌==◌, List, [], length, Bool, ◌&&◌, codes, Option, option_and_then, option_map}
use Rattle.std.specs.Prelude.{unwrap_or, Result, Ok}
use Rattle.serde_json.specs.Data.{Data}
use Rattle.serde_json.specs.Find.{get, as_array, as_str}
use Rattle.dap_messages.specs.Arguments.{◌>>=◌, as_int, each_in, given, or_missing, unless_broken}
use Rattle.dap_messages.specs.declared.arguments.Argument.{Argument}
use Rattle.dap_messages.specs.declared.arguments.Argument.TheVariants.{Source, Breakpoints}
use Rattle.dap_messages.specs.declared.requests.SetBreakpointsArguments.{SetBreakpointsArguments}
use Rattle.dap_messages.specs.declared.requests.SourceBreakpoint.{SourceBreakpoint}
use Rattle.dap_messages.specs.declared.requests.SetFunctionBreakpointsArguments.{SetFunctionBreakpointsArguments}
use Rattle.dap_messages.specs.declared.requests.FunctionBreakpoint.{FunctionBreakpoint}

-- a member that is no text counts as missing, and so does an empty text
abbrev pub lacks_text : List ℕ → Data → Bool
lacks_text name value = length (unwrap_or (option_and_then as_str (get name value)) []) == 0

-- without a condition and a hit condition (DAP specification, Types, SourceBreakpoint and FunctionBreakpoint)
abbrev pub is_unconditional : Data → Bool
is_unconditional value = lacks_text (codes "condition") value && lacks_text (codes "hitCondition") value

-- without a condition, a hit condition and a log message (DAP specification, Types, SourceBreakpoint)
abbrev pub is_plain : Data → Bool
is_plain value = is_unconditional value && lacks_text (codes "logMessage") value

-- a value that is a breakpoint: an object with a line (DAP specification, Types, SourceBreakpoint)
abbrev pub as_breakpoint : Data → Option SourceBreakpoint
as_breakpoint value =
    option_map (λ line. record { line = line; plain = is_plain value })
    (option_and_then as_int (get (codes "line") value))

-- a value that is a list of breakpoints
abbrev pub as_breakpoints : Data → Option (List SourceBreakpoint)
as_breakpoints value = option_and_then (each_in as_breakpoint) (as_array value)

-- the breakpoints, of which there are none where they are missing (DAP specification, SetBreakpoints request)
abbrev pub breakpoints_at : Data → Result (List SourceBreakpoint) Argument
breakpoints_at arguments =
    or_missing [] (λ value. unless_broken Breakpoints (as_breakpoints value)) (given Breakpoints arguments)

-- a value that is a source: an object with a path (DAP specification, Types, Source)
abbrev pub as_source : Data → Option (List ℕ)
as_source value = option_and_then as_str (get (codes "path") value)

-- the path of the source, which must be there (DAP specification, SetBreakpoints request)
abbrev pub path_at : Data → Result (List ℕ) Argument
path_at arguments = unless_broken Source (option_and_then as_source (given Source arguments))

-- what `setBreakpoints` says (DAP specification, SetBreakpoints request)
abbrev pub set_breakpoints_of : Data → Result SetBreakpointsArguments Argument
set_breakpoints_of arguments = do
  path ← path_at arguments
  breakpoints ← breakpoints_at arguments
  Ok (record { path = path; breakpoints = breakpoints })

-- a value that is a function to stop in: an object with a name (DAP specification, Types, FunctionBreakpoint)
abbrev pub as_function : Data → Option FunctionBreakpoint
as_function value =
    option_map (λ name. record { name = name; plain = is_unconditional value })
    (option_and_then as_str (get (codes "name") value))

-- a value that is a list of functions
abbrev pub as_functions : Data → Option (List FunctionBreakpoint)
as_functions value = option_and_then (each_in as_function) (as_array value)

-- the functions, which must be there (DAP specification, SetFunctionBreakpoints request)
abbrev pub functions_at : Data → Result (List FunctionBreakpoint) Argument
functions_at arguments = unless_broken Breakpoints (option_and_then as_functions (given Breakpoints arguments))

-- what `setFunctionBreakpoints` says (DAP specification, SetFunctionBreakpoints request)
abbrev pub set_function_breakpoints_of : Data → Result SetFunctionBreakpointsArguments Argument
set_function_breakpoints_of arguments = do
  breakpoints ← functions_at arguments
  Ok (record { breakpoints = breakpoints })
