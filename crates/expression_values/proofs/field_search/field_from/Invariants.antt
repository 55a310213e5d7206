use Rattle.std.proofs.Common.{◌≡◌, []}
use Rattle.machine_model.specs.Children.{reach}
use Rattle.machine_model.specs.Expressions.{field_from}
use Rattle.machine_model.specs.Plans.{need}
use Rattle.look_ups.specs.Needs.{seen_by}
use Rattle.expression_values.proofs.field_search.field_from.Given as goal

-- the rest of the search, behind the classes that were met
abbrev pub invariant-loop-left : goal.invariant-loop-left
invariant-loop-left l =
    need (seen_by l.sight) (field_from l.left l.met l.name l.class.0)
    ≡ need (seen_by l.sight) (field_from reach [] l.name l.fn.class.0)

abbrev pub decreases-loop-left : goal.decreases-loop-left
decreases-loop-left l = l.left
