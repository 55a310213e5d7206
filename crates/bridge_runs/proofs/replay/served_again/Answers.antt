use Rattle.run_logs.specs.Runs.{entries_of}
use Rattle.bridge_runs.proofs.replay.served_again.Goals as goal

pub returns : goal.returns
returns c =
    rw c.limits_of-limits.ensures at c.served_over-log.ensures (entries_of c.args.log.runs) c.in_ok-wires.ensures.replays
