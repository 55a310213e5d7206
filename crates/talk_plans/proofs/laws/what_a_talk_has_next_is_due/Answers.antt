use Rattle.talk_plans.proofs.DueLaws.{talk_is_due}
use Rattle.talk_plans.proofs.laws.what_a_talk_has_next_is_due.Goals as goal

pub returns : goal.returns
returns c = talk_is_due
