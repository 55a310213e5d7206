use Rattle.machine_laws.proofs.FrameLaws.{commands_read}
use Rattle.machine_laws.proofs.laws.commands_use_ids_that_were_read.Goals as goal

pub returns : goal.returns
returns c = commands_read
