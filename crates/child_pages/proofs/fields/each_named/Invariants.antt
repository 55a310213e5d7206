use Rattle.std.proofs.Common.{◌≡◌, ◌≤◌, drop, length}
use Rattle.machine_model.specs.Children.{field_plan}
use Rattle.machine_model.specs.Plans.{each, need}
use Rattle.look_ups.specs.Needs.{need_with, seen_by}
use Rattle.child_pages.proofs.fields.each_named.Given as goal

-- the fields behind the place are named
abbrev pub invariant-loop-place : goal.invariant-loop-place
invariant-loop-place l = record {
  within : l.place ≤ length l.fields;
  found : need_with (λ children. children.items) l.found
      ≡ need (seen_by l.sight) (each field_plan (drop l.place l.fields));
}

abbrev pub decreases-loop-place : goal.decreases-loop-place
decreases-loop-place l = l.place
