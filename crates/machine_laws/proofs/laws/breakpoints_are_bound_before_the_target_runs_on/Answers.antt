-- Breakpoints are bound before a suspension is undone.
use Rattle.machine_laws.proofs.SuspendLaws.{binds_first}
use Rattle.machine_laws.proofs.laws.breakpoints_are_bound_before_the_target_runs_on.Goals as goal

pub returns : goal.returns
returns c = binds_first
