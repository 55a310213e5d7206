use Rattle.std.proofs.Common.{◌≡◌, ◌++◌, [], drop}
use Rattle.machine_model.specs.Judging.{fired_from}
use Rattle.hit_values.proofs.counts.fired_from.Given as goal

-- what fired so far, before what fires behind it
abbrev pub invariant-loop-pass : goal.invariant-loop-pass
invariant-loop-pass l =
    l.fired ++ fired_from l.rules l.before (drop l.pass-index l.passed) ≡ fired_from l.rules [] l.passed
