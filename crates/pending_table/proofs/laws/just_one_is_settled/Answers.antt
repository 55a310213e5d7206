use Rattle.pending_table.proofs.WindowLaws.{just_one_left_out}
use Rattle.pending_table.proofs.laws.just_one_is_settled.Goals as goal

pub returns : goal.returns
returns c = λ id asked sent is. just_one_left_out id asked sent is
