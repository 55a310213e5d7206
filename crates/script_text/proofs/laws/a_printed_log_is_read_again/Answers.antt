use Rattle.script_text.proofs.AgainLaws.{read_again}
use Rattle.script_text.proofs.laws.a_printed_log_is_read_again.Goals as goal

pub returns : goal.returns
returns c = read_again
