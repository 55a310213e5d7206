use Rattle.std.proofs.Common.{◌≡◌, drop}
use Rattle.dap_frames.specs.Reading.{head, later}
use Rattle.dap_frames.proofs.header.head_behind.Given as goal

-- what is left says what all bytes say
abbrev pub invariant-loop-i : goal.invariant-loop-i
invariant-loop-i l =
    later l.i (head l.reading (drop l.i l.bytes)) ≡ later l.fn.from (head l.fn.start (drop l.fn.from l.bytes))
