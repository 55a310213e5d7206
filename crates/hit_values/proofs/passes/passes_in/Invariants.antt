use Rattle.std.proofs.Common.{◌≡◌, ◌++◌, drop}
use Rattle.machine_model.specs.Judging.{passes_in}
use Rattle.hit_values.proofs.passes.passes_in.Given as goal

-- those so far, before those that are left
abbrev pub invariant-loop-pass : goal.invariant-loop-pass
invariant-loop-pass l = l.ids ++ passes_in (drop l.pass-index l.passed) ≡ passes_in l.passed
