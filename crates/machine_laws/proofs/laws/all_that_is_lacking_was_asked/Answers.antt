use Rattle.machine_laws.proofs.WaitingLaws.{is_wait}
use Rattle.machine_laws.proofs.laws.all_that_is_lacking_was_asked.Goals as goal

pub returns : goal.returns
returns c = is_wait
