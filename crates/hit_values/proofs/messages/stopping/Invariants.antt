use Rattle.std.proofs.Common.{◌≡◌, ◌++◌, drop, filter}
use Rattle.machine_model.specs.Judging.{stops}
use Rattle.hit_values.proofs.messages.stopping.Given as goal

-- those so far, before those that are left
abbrev pub invariant-loop-strike : goal.invariant-loop-strike
invariant-loop-strike l =
    l.stopping ++ filter (stops l.rules) (drop l.strike-index l.fired) ≡ filter (stops l.rules) l.fired
