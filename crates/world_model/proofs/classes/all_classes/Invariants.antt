use Rattle.std.proofs.Common.{◌≡◌, map, take}
use Rattle.world_model.specs.Classes.{loaded_class}
use Rattle.world_model.proofs.classes.all_classes.Given as goal

-- the classes so far are listed
abbrev pub invariant-loop-row : goal.invariant-loop-row
invariant-loop-row l = l.listed ≡ map loaded_class (take l.row-index l.rows)
