use Rattle.std.proofs.Common.{◌≡◌, ◌++◌, drop}
use Rattle.world_model.specs.Moving.{frames_left}
use Rattle.world_model.proofs.moving.frames_left.Given as goal

-- the frames that are left of all are those found so far, and those of the rest
abbrev pub invariant-loop-row : goal.invariant-loop-row
invariant-loop-row l =
    l.list ++ frames_left l.thread l.top (drop l.row-index l.frames) ≡ frames_left l.thread l.top l.frames
