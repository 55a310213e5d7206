use Rattle.scripted_joints.proofs.CallLaws.{calls_obey}
use Rattle.scripted_joints.proofs.laws.each_call_obeys.Goals as goal

pub returns : goal.returns
returns c = calls_obey
