use Rattle.std.proofs.Common.{◌≡◌, ◌++◌, List, drop, flat_map}
use Rattle.class_tables.specs.Lookups.{found_in}
use Rattle.jdwp_values.specs.declared.id.ClassId.{ClassId}
use Rattle.session_facts.specs.OpenClasses.{class_standing, kept_by, may_be_found}
use Rattle.session_facts.proofs.open_classes.still_found.Given as goal

abbrev pub invariant-loop-class : goal.invariant-loop-class
invariant-loop-class l =
    let finds : ClassId → List ClassId =
    λ class. kept_by (may_be_found (class_standing l.wishes.wanted (found_in l.classes) class)) class in
    l.kept ++ flat_map finds (drop l.class-index l.those) ≡ flat_map finds l.those
