use Rattle.body_faults.proofs.WrongLaws.{one_wrong}
use Rattle.body_faults.proofs.laws.a_body_has_one_first_wrong_part.Goals as goal

pub returns : goal.returns
returns c = one_wrong
