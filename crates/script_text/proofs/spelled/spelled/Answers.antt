use Rattle.wire_core.specs.declared.outside.Side.TheVariants.{Client, Target}
use Rattle.script_text.specs.declared.spelled.Way.TheVariants.{Came, Went}
use Rattle.script_text.proofs.SpelledLaws.{cut_off}
use Rattle.script_text.proofs.spelled.spelled.Goals as goal

pub returns-in-Some : goal.returns-in-Some
returns-in-Some c = cut_off Came Client _ _ c.in-Some.digits.now c.in_ok-front.ensures c.in-Some.ensures

pub returns-in-Some-behind : goal.returns-in-Some-behind
returns-in-Some-behind c =
    cut_off Went Target _ _ c.in-Some-behind.digits.now c.in_ok-front.ensures c.in-Some-behind.ensures

pub returns-in-Some-behind-2 : goal.returns-in-Some-behind-2
returns-in-Some-behind-2 c =
    cut_off Came Target _ _ c.in-Some-behind-2.digits.now c.in_ok-front.ensures c.in-Some-behind-2.ensures

pub returns : goal.returns
returns c = cut_off Went Client _ _ c.in_ok-digits.digits.now c.in_ok-front.ensures c.in_ok-digits.ensures
