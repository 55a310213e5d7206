use Rattle.script_rows.proofs.PlainLaws.{row_has_no_float}
use Rattle.script_rows.proofs.laws.a_printed_row_has_no_float.Goals as goal

pub returns : goal.returns
returns c = row_has_no_float
