use Rattle.std.proofs.Common.{◌≡◌, map, take}
use Rattle.world_model.specs.Effects.{slot_with}
use Rattle.world_model.proofs.changes.slots_with.Given as goal

-- the slots so far are copied
abbrev pub invariant-loop-row : goal.invariant-loop-row
invariant-loop-row l = l.list ≡ map (slot_with l.slot l.value) (take l.row-index l.slots)
