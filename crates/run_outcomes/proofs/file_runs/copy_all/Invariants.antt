use Rattle.std.proofs.Common.{◌≡◌, take}
use Rattle.run_outcomes.proofs.file_runs.copy_all.Given as goal

abbrev pub invariant-loop-run : goal.invariant-loop-run
invariant-loop-run l = l.copies ≡ take l.run-index l.runs
