use Rattle.std.proofs.Common.{arith, refl, ◌∙◌}
use Rattle.std.proofs.lemmas.List.{get_or_default}
use Rattle.machine_model.specs.Judging.{passes_in}
use Rattle.hit_values.proofs.Firing.{no_more, one_more, one_pass}
use Rattle.hit_values.proofs.passes.passes_in.Goals as goal

pub loop-pass-preserved : goal.loop-pass-preserved
loop-pass-preserved c =
    one_more passes_in one_pass c.args.passed.now c.loop-pass.pass-index _ _ _ c.loop-pass-test.true
    (get_or_default c.args.passed.now _ _ _ c.loop-pass-test.true) c.in_ok-add_pass.ensures
    ∙ c.loop-pass.invariant

pub returns : goal.returns
returns c = no_more passes_in refl c.args.passed.now c.loop-pass.pass-index _ (omega (arith, c.loop-pass-test.false))
    ∙ c.loop-pass.invariant
