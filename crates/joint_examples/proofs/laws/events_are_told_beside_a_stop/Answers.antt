use Rattle.joint_examples.proofs.Choosing.{told_beside}
use Rattle.joint_examples.proofs.laws.events_are_told_beside_a_stop.Goals as goal

pub returns : goal.returns
returns c = told_beside
