-- Wishes are inserted in order.
use Rattle.wish_sets.specs.declared.wish.Wish.TheVariants as wishes
use Rattle.wish_sets.proofs.WishLaws.{wished_in_order, wished_has, equal_is}
use Rattle.wish_sets.proofs.laws.each_wish_is_wished_once.Goals as goal

pub returns-clause-in_order : goal.returns-clause-in_order
returns-clause-in_order c = wished_in_order

pub returns-clause-all : goal.returns-clause-all
returns-clause-all c = wished_has

pub returns-clause-starts : goal.returns-clause-starts
returns-clause-starts c = λ wanted. wished_has wanted wishes.ThreadStart

pub returns-clause-ends : goal.returns-clause-ends
returns-clause-ends c = λ wanted. wished_has wanted wishes.ThreadDeath

pub returns-clause-one : goal.returns-clause-one
returns-clause-one c = equal_is
