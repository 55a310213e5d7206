use Rattle.std.proofs.Common.{◌≡◌, map, take}
use Rattle.world_model.specs.Moving.{class_behind}
use Rattle.world_model.proofs.moving.classes_behind.Given as goal

-- the classes so far are copied
abbrev pub invariant-loop-row : goal.invariant-loop-row
invariant-loop-row l = l.list ≡ map (class_behind l.class) (take l.row-index l.classes)
