use Rattle.std.proofs.Common.{◌≡◌, ◌++◌, ◌-◌, List, drop, flat_map, length}
use Rattle.class_tables.specs.Lookups.{found_in}
use Rattle.jdwp_values.specs.declared.id.ClassId.{ClassId}
use Rattle.session_facts.specs.OpenClasses.{class_standing, kept_by, may_be_found, may_lack}
use Rattle.session_facts.proofs.open_classes.all_open.Given as goal

abbrev pub invariant-loop-class : goal.invariant-loop-class
invariant-loop-class l =
    let known = found_in l.classes in
    let lacks : ClassId → List ClassId =
    λ class. kept_by (may_lack (class_standing l.wishes.wanted known class)) class in
    let finds : ClassId → List ClassId =
    λ class. kept_by (may_be_found (class_standing l.wishes.wanted known class)) class in
    record {
      lacking : l.left.lacking ++ flat_map lacks (drop l.place known.order) ≡ flat_map lacks known.order;
      found : l.left.found ++ flat_map finds (drop l.place known.order) ≡ flat_map finds known.order;
    }

abbrev pub decreases-loop-class : goal.decreases-loop-class
decreases-loop-class l = length (found_in l.classes).order - l.place
