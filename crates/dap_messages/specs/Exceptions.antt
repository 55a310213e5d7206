-- The exceptions that a request asks to stop at. (DAP specification, SetExceptionBreakpoints request)
use Rattle.std.specs.Prelude.{ℕ, List, Bool, codes, bytes_eq, Option, option_and_then, Result, Ok}
use Rattle.std.specs.List.{list_any}
use Rattle.serde_json.specs.Data.{Data}
use Rattle.serde_json.specs.Find.{as_array, as_str}
use Rattle.dap_messages.specs.Arguments.{◌>>=◌, each_in, given, unless_broken}
use Rattle.dap_messages.specs.declared.arguments.Argument.{Argument}
use Rattle.dap_messages.specs.declared.arguments.Argument.TheVariants.{Filters}
use Rattle.dap_messages.specs.declared.requests.SetExceptionBreakpointsArguments.{SetExceptionBreakpointsArguments}

-- a value that is a list of texts
abbrev pub as_filters : Data → Option (List (List ℕ))
as_filters value = option_and_then (each_in as_str) (as_array value)

-- the filters, which must be there (DAP specification, SetExceptionBreakpoints request, `filters`)
abbrev pub filters_at : Data → Result (List (List ℕ)) Argument
filters_at arguments = unless_broken Filters (option_and_then as_filters (given Filters arguments))

-- whether a filter is one of these
abbrev pub has_filter : List ℕ → List (List ℕ) → Bool
has_filter name filters = list_any (λ filter. bytes_eq filter name) filters

-- what `setExceptionBreakpoints` says; filters of other names say nothing
-- (DAP specification, SetExceptionBreakpoints request)
abbrev pub set_exception_breakpoints_of : Data → Result SetExceptionBreakpointsArguments Argument
set_exception_breakpoints_of arguments = do
  filters ← filters_at arguments
  Ok (record {
    caught = has_filter (codes "caught") filters;
    uncaught = has_filter (codes "uncaught") filters;
  })
