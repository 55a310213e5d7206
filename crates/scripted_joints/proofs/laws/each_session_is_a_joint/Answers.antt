use Rattle.scripted_joints.proofs.SessionLaws.{session_joins}
use Rattle.scripted_joints.proofs.laws.each_session_is_a_joint.Goals as goal

pub returns : goal.returns
returns c = session_joins
