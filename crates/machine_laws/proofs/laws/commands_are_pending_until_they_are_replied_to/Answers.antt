use Rattle.machine_steps.proofs.PendingLaws.{pending_is}
use Rattle.machine_laws.proofs.laws.commands_are_pending_until_they_are_replied_to.Goals as goal

pub returns : goal.returns
returns c = pending_is
