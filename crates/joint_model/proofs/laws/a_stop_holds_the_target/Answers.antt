use Rattle.joint_model.proofs.HeldLaws.{stops_are_held}
use Rattle.joint_model.proofs.laws.a_stop_holds_the_target.Goals as goal

pub returns : goal.returns
returns c = stops_are_held
