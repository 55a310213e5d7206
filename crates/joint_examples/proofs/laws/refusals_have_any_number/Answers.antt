use Rattle.joint_examples.proofs.Choosing.{any_numbers}
use Rattle.joint_examples.proofs.laws.refusals_have_any_number.Goals as goal

pub returns : goal.returns
returns c = any_numbers
