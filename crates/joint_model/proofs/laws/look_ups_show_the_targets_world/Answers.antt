use Rattle.joint_model.proofs.LookUpLaws.{look_ups}
use Rattle.joint_model.proofs.laws.look_ups_show_the_targets_world.Goals as goal

pub returns : goal.returns
returns c = look_ups
