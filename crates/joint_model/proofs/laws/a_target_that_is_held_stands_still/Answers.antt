use Rattle.joint_model.proofs.StillLaws.{stands_still}
use Rattle.joint_model.proofs.laws.a_target_that_is_held_stands_still.Goals as goal

pub returns : goal.returns
returns c = stands_still
