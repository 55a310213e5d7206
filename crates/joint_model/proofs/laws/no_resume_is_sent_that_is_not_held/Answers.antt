use Rattle.joint_model.proofs.HeldLaws.{resumes_held}
use Rattle.joint_model.proofs.laws.no_resume_is_sent_that_is_not_held.Goals as goal

pub returns : goal.returns
returns c = resumes_held
