use Rattle.std.proofs.Common.{◌≡◌, drop}
use Rattle.session_summaries.specs.Bodies.{bodies_of, bodies_within}
use Rattle.session_summaries.specs.Told.{told_in, with_told}
use Rattle.session_summaries.proofs.told.sum_told.Given as goal

-- what was summed up, and what is left to sum up
abbrev pub invariant-loop-step : goal.invariant-loop-step
invariant-loop-step l =
    told_in (bodies_of l.bytes) ≡ with_told l.told (told_in (bodies_within (drop l._step-index l.bytes) l.cutter.pending))
