use Rattle.field_exprs.proofs.Answering.{one_answer}
use Rattle.field_exprs.proofs.laws.a_text_is_read_in_one_way.Goals as goal

pub returns : goal.returns
returns c = one_answer
