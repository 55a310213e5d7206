use Rattle.std.proofs.Common.{arith, ap, sym, ◌∙◌}
use Rattle.machine_model.specs.Expressions.{hop_on}
use Rattle.machine_model.specs.Plans.{has, need}
use Rattle.machine_model.specs.Values.{Valued}
use Rattle.look_ups.specs.Needs.{need_of, seen_by}
use Rattle.expression_values.proofs.StepLaws.{no_more, no_value, one_step}
use Rattle.expression_values.proofs.steps.hops_on.Goals as goal

pub returns-in-Has-Err : goal.returns-in-Has-Err
returns-in-Has-Err c =
    c.missing.ensures
    ∙ no_value (seen_by c.args.sight) c.args.hops.now c.loop-hop.hop-index c.hop-item.result c.loop-hop.reached
    c.in-Has-Err.failure c.loop-hop-test.true c.hop-item.is
    (sym (ap (λ found. need_of found) c.in-Has-Err.is ∙ ap has c.in-Has-Err.field-0-is) ∙ c.in_ok-next.ensures
    ∙ ap (λ (v : Valued). need (seen_by c.args.sight) (hop_on c.hop-item.result v.value)) c.reached.view_is)
    ∙ c.loop-hop.invariant

pub returns-in-Fails : goal.returns-in-Fails
returns-in-Fails c =
    one_step (seen_by c.args.sight) c.args.hops.now c.loop-hop.hop-index c.hop-item.result c.loop-hop.reached _
    c.loop-hop-test.true c.hop-item.is
    (sym (ap (λ found. need_of found) c.in-Fails.is) ∙ c.in_ok-next.ensures
    ∙ ap (λ (v : Valued). need (seen_by c.args.sight) (hop_on c.hop-item.result v.value)) c.reached.view_is)
    ∙ c.loop-hop.invariant

pub returns-in-Lacks : goal.returns-in-Lacks
returns-in-Lacks c =
    one_step (seen_by c.args.sight) c.args.hops.now c.loop-hop.hop-index c.hop-item.result c.loop-hop.reached _
    c.loop-hop-test.true c.hop-item.is
    (sym (ap (λ found. need_of found) c.in-Lacks.is) ∙ c.in_ok-next.ensures
    ∙ ap (λ (v : Valued). need (seen_by c.args.sight) (hop_on c.hop-item.result v.value)) c.reached.view_is)
    ∙ c.loop-hop.invariant

pub loop-hop-preserved : goal.loop-hop-preserved
loop-hop-preserved c =
    one_step (seen_by c.args.sight) c.args.hops.now c.loop-hop.hop-index c.hop-item.result c.loop-hop.reached _
    c.loop-hop-test.true c.hop-item.is
    (sym (ap (λ found. need_of found) c.in-Has-Ok.is ∙ ap has c.in-Has-Ok.field-0-is) ∙ c.in_ok-next.ensures
    ∙ ap (λ (v : Valued). need (seen_by c.args.sight) (hop_on c.hop-item.result v.value)) c.reached.view_is)
    ∙ c.loop-hop.invariant

pub returns : goal.returns
returns c =
    no_more (seen_by c.args.sight) c.args.hops.now c.loop-hop.hop-index c.loop-hop.reached
    (omega (arith, c.loop-hop-test.false)) ∙ c.loop-hop.invariant
