use Rattle.told_values.proofs.TellableLaws.{told_line, told_utf8, told_read}
use Rattle.told_values.proofs.laws.a_told_message_is_read_as_its_value.Goals as goal

pub returns-clause-utf8 : goal.returns-clause-utf8
returns-clause-utf8 c = told_utf8

pub returns-clause-is_read : goal.returns-clause-is_read
returns-clause-is_read c = told_read

pub returns-clause-line : goal.returns-clause-line
returns-clause-line c = told_line
