use Rattle.bridge_runs.proofs.script.served_of.Goals as goal

pub returns : goal.returns
returns c = rw c.script_limits-limits.ensures at c.served_over-log.ensures c.args.script c.in_ok-wires.ensures.plays
