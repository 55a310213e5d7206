-- At rest nothing hinders what is wanted.
use Rattle.machine_steps.proofs.SizeLaws.{is_idle}
use Rattle.machine_laws.proofs.laws.nothing_waits_at_rest.Goals as goal

pub returns : goal.returns
returns c = is_idle
