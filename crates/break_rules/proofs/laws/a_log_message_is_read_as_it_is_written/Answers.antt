use Rattle.break_rules.proofs.MessageLaws.{reads_templates}
use Rattle.break_rules.proofs.laws.a_log_message_is_read_as_it_is_written.Goals as goal

pub returns : goal.returns
returns c = reads_templates
