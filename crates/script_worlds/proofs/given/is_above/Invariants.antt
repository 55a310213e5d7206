use Rattle.std.proofs.Common.{◌≡◌, drop}
use Rattle.script_worlds.specs.Given.{is_above}
use Rattle.script_worlds.proofs.given.is_above.Given as goal

-- the class is sought from the one that was reached on, in the steps that are left
abbrev pub invariant-loop-step : goal.invariant-loop-step
invariant-loop-step l =
    is_above (drop l._step-index l.steps) l.world l.class l.above ≡ is_above l.steps l.world l.fn.class l.above
