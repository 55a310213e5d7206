-- At rest no suspension is held.
use Rattle.machine_laws.proofs.SuspendLaws.{runs_on}
use Rattle.machine_laws.proofs.laws.the_target_runs_on_at_rest.Goals as goal

pub returns : goal.returns
returns c = runs_on
