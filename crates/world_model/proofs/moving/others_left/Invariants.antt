use Rattle.std.proofs.Common.{◌≡◌, ◌++◌, drop}
use Rattle.world_model.specs.Moving.{others_left}
use Rattle.world_model.proofs.moving.others_left.Given as goal

-- the frames that are left of all are those found so far, and those of the rest
abbrev pub invariant-loop-row : goal.invariant-loop-row
invariant-loop-row l =
    l.list ++ others_left l.thread (drop l.row-index l.frames) ≡ others_left l.thread l.frames
