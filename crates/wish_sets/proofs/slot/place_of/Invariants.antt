-- none of the slots so far waits
use Rattle.wish_sets.specs.Cursors.{NoneBefore}
use Rattle.wish_sets.specs.Slots.{awaits}
use Rattle.wish_sets.proofs.slot.place_of.Given as goal

abbrev pub invariant-loop-at : goal.invariant-loop-at
invariant-loop-at l = NoneBefore (awaits l.outcome) l.at l.slots
