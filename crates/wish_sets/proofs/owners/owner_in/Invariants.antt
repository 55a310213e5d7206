use Rattle.std.proofs.Common.{◌≡◌, drop}
use Rattle.wish_sets.specs.Slots.{owner_in}
use Rattle.wish_sets.proofs.owners.owner_in.Given as goal

-- the owner among all is that among the slots that are left
abbrev pub invariant-loop-slot : goal.invariant-loop-slot
invariant-loop-slot l = owner_in (drop l.slot-index l.slots) l.kind l.request ≡ owner_in l.slots l.kind l.request
