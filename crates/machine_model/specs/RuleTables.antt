-- The rules of breakpoints: conditions, hit conditions and messages to log, and how often each was passed (DAP
-- specification, Types, SourceBreakpoint and FunctionBreakpoint).
use Rattle.std.specs.Prelude.{ℕ, ◌+◌, ◌==◌, ◌++◌, List, [], map, filter, flat_map, find, length, bytes_eq}
use Rattle.std.specs.Prelude.{Option, None, Some, unwrap_or}
use Rattle.class_tables.specs.Tables.{put}
use Rattle.machine_model.specs.Names.{Ruled}

-- those of the breakpoints of sources, by the keys of the sources, and those of functions; a breakpoint without any isn't
-- among them
pub record Rules : Type 0 where
  pub lists : List (List ℕ × List Ruled)
  pub functions : List Ruled

abbrev pub none_ruled : Rules
none_ruled = record { lists = []; functions = [] }

-- the list of a source replaces the one that was there (DAP specification, SetBreakpoints request); without a key nothing
-- is kept
abbrev pub lines_ruled : Option (List ℕ) → List Ruled → Rules → Rules
lines_ruled None ruled rules = rules
lines_ruled (Some key) ruled rules = record rules { lists = put bytes_eq key ruled rules.lists }

-- the list of functions replaces the one that was there (DAP specification, SetFunctionBreakpoints request)
abbrev pub functions_ruled : List Ruled → Rules → Rules
functions_ruled ruled rules = record rules { functions = ruled }

-- Of a breakpoint -----------------------------------------------------------------------------------------------------

-- those of sources stand before those of functions
abbrev pub all_rules : Rules → List Ruled
all_rules rules = flat_map (λ list. list.1) rules.lists ++ rules.functions

-- those of a breakpoint, by its id, where it has some
abbrev pub rule_of : Rules → ℕ → Option Ruled
rule_of rules id = find (λ ruled. ruled.id == id) (all_rules rules)

-- a breakpoint without any
abbrev pub no_rules : ℕ → Ruled
no_rules id = record { id = id; condition = None; hit = None; log = None; passed = 0 }

abbrev pub rules_of : Rules → ℕ → Ruled
rules_of rules id = unwrap_or (rule_of rules id) (no_rules id)

-- Counts of hits ------------------------------------------------------------------------------------------------------

-- how often an id stands in a list
abbrev pub times : List ℕ → ℕ → ℕ
times ids id = length (filter (λ other. other == id) ids)

abbrev pub once_more : List ℕ → Ruled → Ruled
once_more ids ruled = record ruled { passed = ruled.passed + times ids ruled.id }

-- these breakpoints were passed, each as often as it stands here (DAP specification, Types, SourceBreakpoint, hitCondition)
abbrev pub with_passes : List ℕ → Rules → Rules
with_passes ids rules = record {
  lists = map (λ list. (list.0, map (once_more ids) list.1)) rules.lists;
  functions = map (once_more ids) rules.functions;
}
