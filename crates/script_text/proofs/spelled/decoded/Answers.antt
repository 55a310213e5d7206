use Rattle.std.proofs.Common.{length, ap, arith}
use Rattle.script_text.proofs.SpelledLaws.{IsBytes-nil, encode_lower-nil, IsBytes-append, one_more, pair_more}
use Rattle.script_text.proofs.spelled.decoded.Goals as goal

pub loop-i-init : goal.loop-i-init
loop-i-init c =
    let none = c.in_ok-bytes.ensures.items in
    record { are = IsBytes-nil _ none; count = ap length none; so_far = encode_lower-nil _ none }

pub loop-i-preserved : goal.loop-i-preserved
loop-i-preserved c =
    let more = c.in_ok-push-in-Some.ensures.items in
    record {
      are = rw more (IsBytes-append _ _ c.loop-i.invariant.are c.in-Some.ensures.0);
      count = one_more _ _ _ _ more c.loop-i.invariant.count;
      so_far = pair_more _ _ _ _ _ (omega (arith, c.loop-i-test.true)) c.loop-i.invariant.so_far c.in-Some.ensures.1
          more;
    }
