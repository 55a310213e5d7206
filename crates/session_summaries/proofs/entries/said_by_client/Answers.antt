use Rattle.std.proofs.Common.{◌∙◌, ap, sym, take_all}
use Rattle.std.specs.List.{flat_map}
use Rattle.run_logs.specs.Runs.{entries_in}
use Rattle.session_summaries.specs.Summaries.{said_by_client}
use Rattle.session_summaries.proofs.RunLaws.{run_by_run}
use Rattle.session_summaries.proofs.entries.said_by_client.Goals as goal

pub returns : goal.returns
returns c =
    c.loop-run.invariant
    ∙ ap (flat_map (λ run. flat_map said_by_client (entries_in run)))
    (take_all c.loop-run.run-index c.args.log.now c.loop-run-test.false)
    ∙ sym (run_by_run said_by_client c.args.log.now)
