use Rattle.std.proofs.Common.{arith}
use Rattle.script_text.proofs.SpelledLaws.{pair_is}
use Rattle.script_text.proofs.spelled.byte_of.Goals as goal

pub returns : goal.returns
returns c =
    let high = c.in_ok-high.ensures in
    let low = c.in_ok-low.ensures in
    (omega (arith, high.0, low.0), pair_is _ _ _ _ high.0 low.0 high.1 low.1)
