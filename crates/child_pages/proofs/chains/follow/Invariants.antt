use Rattle.std.proofs.Common.{◌≡◌}
use Rattle.machine_model.specs.Children.{chain, reach}
use Rattle.machine_model.specs.Plans.{need}
use Rattle.look_ups.specs.Needs.{seen_by}
use Rattle.child_pages.proofs.chains.follow.Given as goal

-- the rest of the chain, behind the classes that were met
abbrev pub invariant-loop-left : goal.invariant-loop-left
invariant-loop-left l =
    need (seen_by l.sight) (chain l.left l.met l.class.0)
    ≡ need (seen_by l.sight) (chain reach l.initial.met l.fn.class.0)

abbrev pub decreases-loop-left : goal.decreases-loop-left
decreases-loop-left l = l.left
