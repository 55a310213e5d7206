use Rattle.field_exprs.proofs.Fronts.{one_more, no_digit}
use Rattle.std.proofs.lemmas.Int.Digits.{digits_value_more}
use Rattle.std.proofs.Common.{sym, ◌∙◌, ap, ◌*◌, ◌+◌, ℕ, get_or}
use Rattle.std.specs.Char.{digit_value}
use Rattle.field_exprs.proofs.front.index_len.Goals as goal

pub loop-end-preserved : goal.loop-end-preserved
loop-end-preserved c =
    let read = c.loop-end.invariant in
    let more = c.in-Some.ensures {u = tt} in (
      one_more c.args.bytes.now c.loop-end.end c.loop-end.value c.loop-end-test.true read.0
          c.if-end-eq-MOST_DIGITS.false
          read.1 more.0,
      more.1 ∙ ap (λ (n : ℕ). n * 10 + digit_value (get_or c.args.bytes.now c.loop-end.end 0)) read.1
          ∙ sym (digits_value_more 10 c.args.bytes.now c.loop-end.end c.loop-end-test.true),
    )

pub returns-in_default-clause-longest : goal.returns-in_default-clause-longest
returns-in_default-clause-longest c =
    no_digit c.args.bytes.now c.loop-end.end c.loop-end.value c.loop-end.invariant.1 (c.in_default.ensures {u = tt})
