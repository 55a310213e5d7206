use Rattle.std.proofs.Common.{◌≡◌, ◌++◌, [], drop}
use Rattle.machine_model.specs.Children.{of_classes}
use Rattle.child_pages.proofs.field_names.of_classes.Given as goal

-- what was found, and what is found behind the names that were met
abbrev pub invariant-loop-class : goal.invariant-loop-class
invariant-loop-class l =
    l.found.items ++ of_classes l.met.keys (drop l.class-index l.classes) ≡ of_classes [] l.classes
