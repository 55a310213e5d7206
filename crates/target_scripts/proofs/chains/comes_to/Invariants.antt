use Rattle.std.proofs.Common.{◌≡◌, drop}
use Rattle.target_scripts.specs.Chains.{comes_to}
use Rattle.target_scripts.proofs.chains.comes_to.Given as goal

-- the class is sought from the one that was reached on, in the steps that are left
abbrev pub invariant-loop-step : goal.invariant-loop-step
invariant-loop-step l =
    comes_to (drop l._step-index l.classes) l.classes l.class l.to ≡ comes_to l.classes l.classes l.fn.from l.to
