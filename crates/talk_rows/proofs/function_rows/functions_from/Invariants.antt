use Rattle.std.proofs.Common.{◌≡◌, ◌++◌, drop}
use Rattle.machine_model.specs.Breakpoints.{functions_from}
use Rattle.talk_rows.proofs.function_rows.functions_from.Given as goal

abbrev pub invariant-loop-function : goal.invariant-loop-function
invariant-loop-function l =
    l.entries ++ functions_from l.id (drop l.function-index l.functions) ≡ functions_from l.first l.functions
