use Rattle.std.proofs.Common.{arith, refl, ◌∙◌}
use Rattle.std.proofs.lemmas.List.{get_or_default}
use Rattle.machine_model.specs.Judging.{fired_from}
use Rattle.hit_values.proofs.Firing.{fires_on, no_more}
use Rattle.hit_values.proofs.counts.fired_from.Goals as goal

pub loop-pass-preserved : goal.loop-pass-preserved
loop-pass-preserved c =
    fires_on c.args.rules.now c.args.passed.now c.loop-pass.pass-index _ _ _ _ _ c.loop-pass-test.true
    (get_or_default c.args.passed.now _ _ _ c.loop-pass-test.true) c.in_ok-take_pass.ensures.before
    c.in_ok-take_pass.ensures.fired
    ∙ c.loop-pass.invariant

pub returns : goal.returns
returns c =
    no_more (fired_from c.args.rules.now c.loop-pass.before) refl c.args.passed.now c.loop-pass.pass-index _
    (omega (arith, c.loop-pass-test.false)) ∙ c.loop-pass.invariant
