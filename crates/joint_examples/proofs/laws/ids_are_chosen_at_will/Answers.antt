use Rattle.joint_examples.proofs.Choosing.{any_ids}
use Rattle.joint_examples.proofs.laws.ids_are_chosen_at_will.Goals as goal

pub returns : goal.returns
returns c = any_ids
