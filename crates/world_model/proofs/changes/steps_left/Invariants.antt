use Rattle.std.proofs.Common.{◌≡◌, ◌++◌, drop}
use Rattle.world_model.specs.Effects.{steps_left}
use Rattle.world_model.proofs.changes.steps_left.Given as goal

-- those that are left of all are those found so far, and those that are left of the rest
abbrev pub invariant-loop-row : goal.invariant-loop-row
invariant-loop-row l =
    l.left ++ steps_left l.kind l.id (drop l.row-index l.steps) ≡ steps_left l.kind l.id l.steps
