use Rattle.std.proofs.Common.{◌≡◌, drop}
use Rattle.wish_sets.specs.declared.wish.Wish.TheVariants as wishes
use Rattle.wish_sets.specs.Names.{package_name}
use Rattle.wish_sets.specs.Order.{has_wish}
use Rattle.wish_sets.specs.Slots.{wishes_in}
use Rattle.wish_sets.proofs.asked.watches.Given as goal

-- it is wished among all where it is among the slots that are left
abbrev pub invariant-loop-slot : goal.invariant-loop-slot
invariant-loop-slot l =
    has_wish (wishes_in (drop l.slot-index l.slots)) (wishes.Watch (package_name l.path))
    ≡ has_wish (wishes_in l.slots) (wishes.Watch (package_name l.path))
