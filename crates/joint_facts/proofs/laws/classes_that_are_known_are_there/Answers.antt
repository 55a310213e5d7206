use Rattle.joint_facts.proofs.HoldLaws.{classes_are_there}
use Rattle.joint_facts.proofs.laws.classes_that_are_known_are_there.Goals as goal

pub returns : goal.returns
returns c = classes_are_there
