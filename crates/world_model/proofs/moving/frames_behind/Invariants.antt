use Rattle.std.proofs.Common.{◌≡◌, map, take}
use Rattle.world_model.specs.Moving.{frame_behind}
use Rattle.world_model.proofs.moving.frames_behind.Given as goal

-- the frames so far are copied
abbrev pub invariant-loop-row : goal.invariant-loop-row
invariant-loop-row l =
    l.list ≡ map (frame_behind l.world l.thread l.top l.index l.slots) (take l.row-index l.rows)
