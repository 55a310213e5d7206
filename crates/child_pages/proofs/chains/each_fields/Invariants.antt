use Rattle.std.proofs.Common.{◌≡◌, ◌≤◌, drop, length}
use Rattle.machine_model.specs.Children.{class_fields}
use Rattle.machine_model.specs.Plans.{each, need}
use Rattle.look_ups.specs.Needs.{need_with, seen_by}
use Rattle.child_pages.proofs.chains.each_fields.Given as goal

-- the classes behind the place are looked up
abbrev pub invariant-loop-place : goal.invariant-loop-place
invariant-loop-place l = record {
  within : l.place ≤ length l.classes;
  found : need_with (λ classes. classes.items) l.found
      ≡ need (seen_by l.sight) (each class_fields (drop l.place l.classes));
}

abbrev pub decreases-loop-place : goal.decreases-loop-place
decreases-loop-place l = l.place
