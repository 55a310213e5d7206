use Rattle.script_text.proofs.SpelledLaws.{end_is}
use Rattle.script_text.proofs.spelled.ahead.Goals as goal

pub returns : goal.returns
returns c = end_is _ _ c.strip_suffix.result c.strip_suffix.ensures.cases
