use Rattle.break_rules.proofs.HitLaws.{reads_hits}
use Rattle.break_rules.proofs.laws.a_hit_condition_is_read_as_it_is_written.Goals as goal

pub returns : goal.returns
returns c = reads_hits
