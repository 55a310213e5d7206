use Rattle.break_rules.proofs.RenderingLaws.{logs_plain}
use Rattle.break_rules.proofs.laws.a_message_without_an_expression_logs_itself.Goals as goal

pub returns : goal.returns
returns c = logs_plain
