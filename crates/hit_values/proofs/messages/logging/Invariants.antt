use Rattle.std.proofs.Common.{◌≡◌, ◌++◌, drop, filter}
use Rattle.machine_model.specs.Judging.{logs}
use Rattle.hit_values.proofs.messages.logging.Given as goal

-- those so far, before those that are left
abbrev pub invariant-loop-strike : goal.invariant-loop-strike
invariant-loop-strike l =
    l.logging ++ filter (logs l.rules) (drop l.strike-index l.fired) ≡ filter (logs l.rules) l.fired
