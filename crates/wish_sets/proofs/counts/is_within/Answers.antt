-- What stands in its slot.
use Rattle.std.proofs.Common.{sym}
use Rattle.std.proofs.lemmas.Bool.{leb-true}
use Rattle.wish_sets.proofs.CountLaws.{within_found, within_nowhere}
use Rattle.wish_sets.proofs.counts.is_within.Goals as goal

pub returns-in-Some : goal.returns-in-Some
returns-in-Some c =
    λ yes. within_found c.args.wish.now c.args.most c.args.slots.now c.in-Some.slot.now c.requires
    (sym c.in-Some.ensures) (leb-true c.in-Some.slot.now.count c.args.most yes)

pub returns-in-None : goal.returns-in-None
returns-in-None c = λ yes. within_nowhere c.args.wish.now c.args.most c.args.slots.now (sym c.in-None.ensures)
