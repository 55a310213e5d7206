use Rattle.std.proofs.Common.{◌≡◌, ◌+◌, ◌≤◌, drop}
use Rattle.wish_sets.specs.Slots.{late_from}
use Rattle.wish_sets.proofs.slot.late_in.Given as goal

-- what comes of all is what comes of the slots that are left
abbrev pub invariant-loop-slot : goal.invariant-loop-slot
invariant-loop-slot l = (late_from l.place (drop l.slot-index l.slots) ≡ late_from l.fn.place l.slots)
    × (l.place ≤ l.fn.place + l.slot-index)
