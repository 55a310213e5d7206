use Rattle.joint_examples.proofs.Choosing.{any_run}
use Rattle.joint_examples.proofs.laws.a_target_runs_as_it_will.Goals as goal

pub returns : goal.returns
returns c = any_run
