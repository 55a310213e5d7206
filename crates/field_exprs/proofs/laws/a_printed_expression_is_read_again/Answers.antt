use Rattle.field_exprs.proofs.Answering.{expr_printed, read_again}
use Rattle.field_exprs.proofs.laws.a_printed_expression_is_read_again.Goals as goal

pub returns-clause-printed : goal.returns-clause-printed
returns-clause-printed c = expr_printed

pub returns-clause-read : goal.returns-clause-read
returns-clause-read c = read_again
