use Rattle.joint_model.proofs.FlightLaws.{pending_on_way}
use Rattle.joint_model.proofs.laws.what_is_pending_is_on_its_way.Goals as goal

pub returns : goal.returns
returns c = pending_on_way
