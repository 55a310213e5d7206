use Rattle.std.proofs.lemmas.Str.{IsUtf8-from_is_utf8}
use Rattle.serde_json.proofs.Nesting.{depth-read}
use Rattle.json_lines.proofs.AgainLaws.{is_line}
use Rattle.json_lines.proofs.SpelledLaws.{read_spelled}
use Rattle.json_lines.proofs.laws.a_value_that_was_read_is_read_again.Goals as goal

pub returns-clause-spelled : goal.returns-clause-spelled
returns-clause-spelled c = λ text d utf8 e. read_spelled text d (IsUtf8-from_is_utf8 text utf8) e

pub returns-clause-shallow : goal.returns-clause-shallow
returns-clause-shallow c = depth-read

pub returns-clause-again : goal.returns-clause-again
returns-clause-again c = is_line
