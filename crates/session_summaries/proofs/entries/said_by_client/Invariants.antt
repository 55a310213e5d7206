use Rattle.std.proofs.Common.{◌≡◌, take}
use Rattle.std.specs.List.{flat_map}
use Rattle.run_logs.specs.Runs.{entries_in}
use Rattle.session_summaries.specs.Summaries.{said_by_client}
use Rattle.session_summaries.proofs.entries.said_by_client.Given as goal

abbrev pub invariant-loop-run : goal.invariant-loop-run
invariant-loop-run l = l.bytes ≡ flat_map (λ run. flat_map said_by_client (entries_in run)) (take l.run-index l.log)
