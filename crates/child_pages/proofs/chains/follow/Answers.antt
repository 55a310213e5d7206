use Rattle.std.proofs.Common.{◌-◌, arith, ap, sym, ◌∙◌}
use Rattle.machine_model.specs.Children.{chain}
use Rattle.machine_model.specs.Plans.{need}
use Rattle.look_ups.specs.Needs.{seen_by}
use Rattle.child_pages.proofs.ChainLaws.{ends_up, far_enough, goes_as}
use Rattle.child_pages.proofs.chains.follow.Goals as goal
use Rattle.child_pages.proofs.chains.follow.Goals.{then-loop-left-test+else-is_further, else-loop-left-test}

pub returns-in-Fails : goal.returns-in-Fails
returns-in-Fails c =
    goes_as (seen_by c.args.sight) c.loop-left.left c.loop-left.met c.loop-left.class.0 c.in_ok-above.field-0 _
    c.loop-left-test.true (sym c.is_further.ensures ∙ c.if-is_further.true) c.in_ok-above.ensures c.in-Fails.is
    ∙ c.loop-left.invariant

pub returns-in-Lacks : goal.returns-in-Lacks
returns-in-Lacks c =
    goes_as (seen_by c.args.sight) c.loop-left.left c.loop-left.met c.loop-left.class.0 c.in_ok-above.field-0 _
    c.loop-left-test.true (sym c.is_further.ensures ∙ c.if-is_further.true) c.in_ok-above.ensures c.in-Lacks.is
    ∙ c.loop-left.invariant

pub loop-left-preserved : goal.loop-left-preserved
loop-left-preserved c =
    ap (λ met. need (seen_by c.args.sight) (chain (c.loop-left.left - 1) met c.in-Has.above.0))
    c.in_ok-add-in-Has.ensures.ok
    ∙ goes_as (seen_by c.args.sight) c.loop-left.left c.loop-left.met c.loop-left.class.0 c.in_ok-above.field-0 _
    c.loop-left-test.true (sym c.is_further.ensures ∙ c.if-is_further.true) c.in_ok-above.ensures c.in-Has.is
    ∙ c.loop-left.invariant

pub returns : goal.returns
returns c = elim c.loop-left-test.branch [
  | then-loop-left-test+else-is_further w ↦
      ends_up (seen_by c.args.sight) c.loop-left.left c.loop-left.met c.loop-left.class.0
      (sym w.is_further.ensures ∙ w.if-is_further.false) ∙ c.loop-left.invariant
  | else-loop-left-test w ↦
      far_enough (seen_by c.args.sight) c.loop-left.met c.loop-left.class.0 c.loop-left.left
      (omega (arith, w.loop-left-test.false)) ∙ c.loop-left.invariant
]
