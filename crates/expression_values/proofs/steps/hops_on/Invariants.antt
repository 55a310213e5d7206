use Rattle.std.proofs.Common.{◌≡◌, drop}
use Rattle.machine_model.specs.Expressions.{hops_on}
use Rattle.machine_model.specs.Plans.{need}
use Rattle.look_ups.specs.Needs.{seen_by}
use Rattle.expression_values.proofs.steps.hops_on.Given as goal

-- the steps that are left, from the value that was reached
abbrev pub invariant-loop-hop : goal.invariant-loop-hop
invariant-loop-hop l =
    need (seen_by l.sight) (hops_on (drop l.hop-index l.hops) l.reached)
    ≡ need (seen_by l.sight) (hops_on l.hops l.fn.from)
