use Rattle.std.proofs.Common.{◌≡◌, drop, filter, is_some}
use Rattle.std.specs.List.{list_all}
use Rattle.class_tables.specs.Lookups.{found_in}
use Rattle.machine_model.specs.Classes.{counts}
use Rattle.session_facts.proofs.open_classes.has_lines.Given as goal

abbrev pub invariant-loop-method : goal.invariant-loop-method
invariant-loop-method l =
    list_all (λ method. is_some ((found_in l.classes).lines l.class method.id))
    (filter (counts l.keyed l.wishes.wanted l.signature) l.methods)
    ≡ list_all (λ method. is_some ((found_in l.classes).lines l.class method.id))
    (filter (counts l.keyed l.wishes.wanted l.signature) (drop l.method-index l.methods))
