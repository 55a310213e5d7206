use Rattle.talk_plans.proofs.DueLaws.{reading_is_due}
use Rattle.talk_plans.proofs.laws.a_composite_is_read_first.Goals as goal

pub returns : goal.returns
returns c = reading_is_due
