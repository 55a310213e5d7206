use Rattle.script_rows.proofs.KindLaws.{printed_again}
use Rattle.script_rows.proofs.laws.a_printed_row_is_read_again.Goals as goal

pub returns : goal.returns
returns c = printed_again
