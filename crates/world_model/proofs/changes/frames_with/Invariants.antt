use Rattle.std.proofs.Common.{◌≡◌, map, take}
use Rattle.world_model.specs.Effects.{frame_with}
use Rattle.world_model.proofs.changes.frames_with.Given as goal

-- the frames so far are copied
abbrev pub invariant-loop-row : goal.invariant-loop-row
invariant-loop-row l =
    l.copies ≡ map (frame_with l.thread l.frame l.slot l.value) (take l.row-index l.frames)
