use Rattle.body_faults.proofs.ShortLaws.{short_cut}
use Rattle.body_faults.proofs.laws.a_short_part_is_cut_off.Goals as goal

pub returns : goal.returns
returns c = short_cut
