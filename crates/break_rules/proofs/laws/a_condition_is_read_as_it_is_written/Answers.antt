use Rattle.break_rules.proofs.ConditionLaws.{reads_conditions}
use Rattle.break_rules.proofs.laws.a_condition_is_read_as_it_is_written.Goals as goal

pub returns : goal.returns
returns c = reads_conditions
