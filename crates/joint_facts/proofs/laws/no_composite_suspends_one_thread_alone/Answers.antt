use Rattle.joint_facts.proofs.PolicyLaws.{none_suspends_one}
use Rattle.joint_facts.proofs.laws.no_composite_suspends_one_thread_alone.Goals as goal

pub returns : goal.returns
returns c = none_suspends_one
