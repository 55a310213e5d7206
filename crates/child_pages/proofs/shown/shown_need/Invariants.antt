use Rattle.std.proofs.Common.{◌≡◌, ◌≤◌, drop, length}
use Rattle.machine_model.specs.Plans.{need}
use Rattle.machine_model.specs.Variables.{shown_plan}
use Rattle.look_ups.specs.Needs.{need_with, seen_by}
use Rattle.child_pages.proofs.shown.shown_need.Given as goal

-- the children from the place on were looked up
abbrev pub invariant-loop-place : goal.invariant-loop-place
invariant-loop-place l = record {
  within : l.place ≤ length l.children;
  found : need_with (λ values. values.items) l.found
      ≡ need (seen_by l.sight) (shown_plan l.types (drop l.place l.children));
}

abbrev pub decreases-loop-place : goal.decreases-loop-place
decreases-loop-place l = l.place
