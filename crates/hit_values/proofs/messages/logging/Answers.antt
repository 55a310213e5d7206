use Rattle.std.proofs.Common.{arith, filter, refl, ◌∙◌}
use Rattle.std.proofs.lemmas.List.{get_or_default}
use Rattle.machine_model.specs.Judging.{logs}
use Rattle.hit_values.proofs.Firing.{no_more, one_filtered, one_more}
use Rattle.hit_values.proofs.messages.logging.Goals as goal

pub loop-strike-preserved : goal.loop-strike-preserved
loop-strike-preserved c =
    one_more (filter (logs c.args.rules.now)) (one_filtered (logs c.args.rules.now)) c.args.fired.now
    c.loop-strike.strike-index _ _ _ c.loop-strike-test.true
    (get_or_default c.args.fired.now _ _ _ c.loop-strike-test.true) c.in_ok-add_logging.ensures
    ∙ c.loop-strike.invariant

pub returns : goal.returns
returns c =
    no_more (filter (logs c.args.rules.now)) refl c.args.fired.now c.loop-strike.strike-index _
    (omega (arith, c.loop-strike-test.false)) ∙ c.loop-strike.invariant
