use Rattle.std.proofs.Common.{◌≡◌, take}
use Rattle.std.specs.List.{flat_map}
use Rattle.run_logs.specs.Runs.{entries_in}
use Rattle.session_summaries.specs.Summaries.{told_to_client}
use Rattle.session_summaries.proofs.entries.told_to_client.Given as goal

abbrev pub invariant-loop-run : goal.invariant-loop-run
invariant-loop-run l = l.bytes ≡ flat_map (λ run. flat_map told_to_client (entries_in run)) (take l.run-index l.log)
