use Rattle.bridge_runs.specs.Dumping.{Dumps}
use Rattle.bridge_runs.proofs.dumping.dump_from.Goals as goal

pub returns-in-Ok : goal.returns-in-Ok
returns-in-Ok g c =
    rw c.outcome_of.ensures (Dumps.dumps _ c.in-Ok.ensures.ok (rw c.standard.ensures.values at c.dump.ensures.dump)
    c.dump.ensures.counts c.dump.ensures.asked)

pub returns-in-Err : goal.returns-in-Err
returns-in-Err g c = Dumps.fails_to_reach c.in-Err.ensures.err
