use Rattle.talk_plans.proofs.DueLaws.{item_is_due}
use Rattle.talk_plans.proofs.laws.the_next_item_is_due.Goals as goal

pub returns : goal.returns
returns c = item_is_due
