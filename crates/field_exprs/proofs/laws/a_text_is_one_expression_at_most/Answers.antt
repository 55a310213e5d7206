use Rattle.field_exprs.proofs.Answering.{one_expr}
use Rattle.field_exprs.proofs.laws.a_text_is_one_expression_at_most.Goals as goal

pub returns : goal.returns
returns c = one_expr
