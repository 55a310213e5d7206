use Rattle.joint_facts.proofs.HoldLaws.{facts_hold}
use Rattle.joint_facts.proofs.laws.what_is_known_of_classes_is_so.Goals as goal

pub returns : goal.returns
returns c = facts_hold
