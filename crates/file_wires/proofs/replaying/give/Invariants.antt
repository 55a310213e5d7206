use Rattle.std.proofs.Common.{◌≡◌, drop}
use Rattle.file_wires.specs.Course.{course}
use Rattle.file_wires.specs.Replaying.{left_at, left_in, open_by}
use Rattle.file_wires.proofs.replaying.give.Given as goal

-- what comes of the runs from this one on is what comes of those from the place on
abbrev pub invariant-loop-run : goal.invariant-loop-run
invariant-loop-run l =
    course (open_by l.links) (left_at l.fn.place l.runs) ≡ course (open_by l.links) (left_in l.done (drop l.run l.runs))
