use Rattle.machine_steps.proofs.PendingLaws.{in_window}
use Rattle.machine_laws.proofs.laws.at_most_sixteen_commands_are_pending.Goals as goal

pub returns : goal.returns
returns c = in_window
