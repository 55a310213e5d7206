use Rattle.std.proofs.Common.{◌≡◌, drop}
use Rattle.world_model.specs.Sound.{ends}
use Rattle.target_scripts.proofs.chains.ends.Given as goal

-- the end is sought from the class that was reached on, in the steps that are left
abbrev pub invariant-loop-step : goal.invariant-loop-step
invariant-loop-step l =
    ends (drop l._step-index l.classes) l.classes l.class ≡ ends l.classes l.classes l.fn.class
