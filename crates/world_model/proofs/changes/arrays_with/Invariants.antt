use Rattle.std.proofs.Common.{◌≡◌, map, take}
use Rattle.world_model.specs.Effects.{array_with}
use Rattle.world_model.proofs.changes.arrays_with.Given as goal

-- the arrays so far are copied
abbrev pub invariant-loop-row : goal.invariant-loop-row
invariant-loop-row l = l.copies ≡ map (array_with l.id l.place l.value) (take l.row-index l.arrays)
