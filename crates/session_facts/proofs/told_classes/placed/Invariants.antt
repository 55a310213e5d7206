use Rattle.std.proofs.Common.{◌≡◌, ◌++◌, ◌-◌, ◌||◌, List, drop, flat_map, length}
use Rattle.class_tables.specs.Facts.{same_class}
use Rattle.class_tables.specs.Lookups.{found_in}
use Rattle.jdwp_values.specs.declared.id.ClassId.{ClassId}
use Rattle.session_facts.specs.OpenClasses.{has_class, kept_by, placed}
use Rattle.session_facts.proofs.told_classes.placed.Given as goal

abbrev pub invariant-loop-other : goal.invariant-loop-other
invariant-loop-other l =
    let those : ClassId → List ClassId =
    λ other. kept_by (same_class l.class other || has_class l.left other) other in
    l.those ++ flat_map those (drop l.place (found_in l.classes).order)
    ≡ placed l.class l.left (found_in l.classes).order

abbrev pub decreases-loop-other : goal.decreases-loop-other
decreases-loop-other l = length (found_in l.classes).order - l.place
