use Rattle.std.proofs.Common.{◌≡◌, map, take}
use Rattle.machine_model.specs.Breakpoints.{function_listed}
use Rattle.talk_rows.proofs.function_rows.all_listed.Given as goal

abbrev pub invariant-loop-entry : goal.invariant-loop-entry
invariant-loop-entry l = l.listed ≡ map function_listed (take l.entry-index l.entries)
