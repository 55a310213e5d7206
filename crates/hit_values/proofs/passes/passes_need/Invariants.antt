use Rattle.std.proofs.Common.{◌≡◌, ◌≤◌, drop, length}
use Rattle.machine_model.specs.Judging.{pass_plan}
use Rattle.machine_model.specs.Plans.{each, need}
use Rattle.look_ups.specs.Needs.{need_with, seen_by}
use Rattle.hit_values.proofs.passes.passes_need.Given as goal

-- those from the place on were judged
abbrev pub invariant-loop-place : goal.invariant-loop-place
invariant-loop-place l = record {
  within : l.place ≤ length l.strikes;
  found : need_with (λ passes. passes.items) l.found
      ≡ need (seen_by l.sight) (each (pass_plan l.rules) (drop l.place l.strikes));
}

abbrev pub decreases-loop-place : goal.decreases-loop-place
decreases-loop-place l = l.place
