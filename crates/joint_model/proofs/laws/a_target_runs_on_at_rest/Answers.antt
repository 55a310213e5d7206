use Rattle.joint_model.proofs.RestLaws.{counts_at_rest}
use Rattle.joint_model.proofs.laws.a_target_runs_on_at_rest.Goals as goal

pub returns : goal.returns
returns c = counts_at_rest
