use Rattle.std.proofs.Common.{arith}
use Rattle.break_rules.proofs.Digits.{digit_above, one_more}
use Rattle.break_rules.proofs.fronts.value_of.Goals as goal

pub loop-digit-preserved : goal.loop-digit-preserved
loop-digit-preserved c =
    let above = digit_above c.args.digits.now c.loop-digit.digit-index c.loop-digit-test.true c.requires in
    let is = c.from.ensures in
    one_more c.args.digits.now c.loop-digit.digit-index c.loop-digit.value c.saturating_mul.result c.from.result
    c.saturating_add-value.result c.loop-digit-test.true c.requires c.loop-digit.invariant c.saturating_mul.ensures
    (omega arith) c.saturating_add-value.ensures
