use Rattle.line_elements.proofs.AgainLaws.{value_again}
use Rattle.line_elements.proofs.laws.a_printed_value_is_read_again.Goals as goal

pub returns : goal.returns
returns c = value_again
