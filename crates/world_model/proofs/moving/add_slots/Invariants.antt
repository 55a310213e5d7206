use Rattle.std.proofs.Common.{◌≡◌, ◌++◌, map, drop}
use Rattle.world_model.specs.Moving.{held_slot}
use Rattle.world_model.proofs.moving.add_slots.Given as goal

-- all slots are those so far, and those that are left
abbrev pub invariant-loop-row : goal.invariant-loop-row
invariant-loop-row l =
    l.list ++ map (held_slot l.world) (drop l.row-index l.slots) ≡ l.fn.list ++ map (held_slot l.world) l.slots
