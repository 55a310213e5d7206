use Rattle.std.proofs.Common.{◌≡◌, ◌∷◌, take}
use Rattle.world_model.proofs.moving.frames_with.Given as goal

-- the frames so far stand behind the new one
abbrev pub invariant-loop-row : goal.invariant-loop-row
invariant-loop-row l = l.list ≡ l.fn.frame ∷ take l.row-index l.frames
