use Rattle.joint_examples.proofs.Choosing.{unasked}
use Rattle.joint_examples.proofs.laws.a_start_and_an_end_are_told_unasked.Goals as goal

pub returns : goal.returns
returns c = unasked
