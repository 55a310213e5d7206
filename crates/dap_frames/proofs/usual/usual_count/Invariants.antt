use Rattle.std.proofs.Common.{◌≡◌, take}
use Rattle.dap_frames.proofs.usual.usual_count.Given as goal

-- so far the bytes are those of the line
abbrev pub invariant-loop-i : goal.invariant-loop-i
invariant-loop-i l = take l.i l.bytes ≡ take l.i l.rest
