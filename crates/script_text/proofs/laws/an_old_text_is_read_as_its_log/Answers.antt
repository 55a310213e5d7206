use Rattle.script_text.proofs.AgainLaws.{read_old}
use Rattle.script_text.proofs.laws.an_old_text_is_read_as_its_log.Goals as goal

pub returns : goal.returns
returns c = read_old
