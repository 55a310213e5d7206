-- Each outcome takes its wish from what is left.
use Rattle.wish_sets.proofs.LeftLaws.{settled_leaves_less, at_rest, rests}
use Rattle.wish_sets.proofs.laws.changes_lead_to_what_is_wished.Goals as goal

pub returns-clause-less : goal.returns-clause-less
returns-clause-less c = settled_leaves_less

pub returns-clause-rest : goal.returns-clause-rest
returns-clause-rest c = at_rest

pub returns-clause-none : goal.returns-clause-none
returns-clause-none c = rests
