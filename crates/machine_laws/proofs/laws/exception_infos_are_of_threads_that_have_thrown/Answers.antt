use Rattle.machine_laws.proofs.ThrownLaws.{shows_thrown}
use Rattle.machine_laws.proofs.laws.exception_infos_are_of_threads_that_have_thrown.Goals as goal

pub returns : goal.returns
returns c = shows_thrown
