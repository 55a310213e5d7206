use Rattle.script_text.proofs.OrderLaws.{keeps_order}
use Rattle.script_text.proofs.laws.a_log_that_was_read_keeps_the_order.Goals as goal

pub returns : goal.returns
returns c = keeps_order
