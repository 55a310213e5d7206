use Rattle.jdwp_values.proofs.PartLaws.{part_again}
use Rattle.jdwp_values.proofs.laws.a_spelled_part_is_read.Goals as goal

pub returns : goal.returns
returns c = part_again
