use Rattle.joint_model.proofs.ErrorLaws.{errors_taken}
use Rattle.joint_model.proofs.laws.no_error_of_an_obeying_target_ends_a_session.Goals as goal

pub returns : goal.returns
returns c = errors_taken
