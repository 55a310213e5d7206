use Rattle.jdwp_values.proofs.PartLaws.{part_takes}
use Rattle.jdwp_values.proofs.laws.a_part_read_was_spelled.Goals as goal

pub returns : goal.returns
returns c = λ sizes p bytes x fits e. let t = part_takes sizes p bytes x fits e in (t.1, t.0.parts)
