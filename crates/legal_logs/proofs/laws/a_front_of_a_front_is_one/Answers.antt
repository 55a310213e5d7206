use Rattle.legal_logs.proofs.FrontLaws.{front_of}
use Rattle.legal_logs.proofs.laws.a_front_of_a_front_is_one.Goals as goal

pub returns : goal.returns
returns c = λ limits before after front. front_of before after front
