use Rattle.scripted_joints.proofs.CallLaws.{courses_obey}
use Rattle.scripted_joints.proofs.laws.each_course_obeys.Goals as goal

pub returns : goal.returns
returns c = courses_obey
