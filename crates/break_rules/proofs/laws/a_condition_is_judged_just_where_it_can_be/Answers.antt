use Rattle.break_rules.proofs.JudgingLaws.{judges}
use Rattle.break_rules.proofs.laws.a_condition_is_judged_just_where_it_can_be.Goals as goal

pub returns : goal.returns
returns c = judges
