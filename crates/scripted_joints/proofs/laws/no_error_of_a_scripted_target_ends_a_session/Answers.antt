use Rattle.scripted_joints.proofs.SessionLaws.{served_errors}
use Rattle.scripted_joints.proofs.laws.no_error_of_a_scripted_target_ends_a_session.Goals as goal

pub returns : goal.returns
returns c = served_errors
