use Rattle.joint_examples.proofs.Choosing.{any_order}
use Rattle.joint_examples.proofs.laws.commands_are_served_in_any_order.Goals as goal

pub returns : goal.returns
returns c = any_order
