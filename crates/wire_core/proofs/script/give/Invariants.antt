-- What is due from this step and byte on is what was due from the place on.
use Rattle.std.proofs.Common.{◌≡◌, drop}
use Rattle.wire_core.specs.Script.{front_from, steps_from, due}
use Rattle.wire_core.proofs.script.give.Given as goal

abbrev pub invariant-loop-step : goal.invariant-loop-step
invariant-loop-step l =
    due l.links (front_from l.byte (drop l.step l.steps)) ≡ due l.links (steps_from l.fn.place l.steps)
