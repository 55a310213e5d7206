use Rattle.line_elements.proofs.BitLaws.{bits_again}
use Rattle.line_elements.proofs.laws.the_text_of_bits_is_read_again.Goals as goal

pub returns : goal.returns
returns c = bits_again
