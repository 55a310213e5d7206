use Rattle.std.proofs.Common.{◌≡◌}
use Rattle.std.specs.Prelude.{IsErrAnd}
use Rattle.field_exprs.specs.Reading.{IsAccepted}
use Rattle.field_exprs.specs.Sticking.{IsStuck}
use Rattle.field_exprs.proofs.Wholes.{no_word, whole_stuck}
use Rattle.field_exprs.proofs.ReadSoFar.{handed_on}
use Rattle.field_exprs.proofs.reading.read.Goals as goal

pub returns-in_default-clause-err : goal.returns-in_default-clause-err
returns-in_default-clause-err c =
    no_word c.args.text.now c.skip_blanks-rest.result.now c.skip_blanks-rest.ensures (c.in_default.ensures {u = tt})

pub returns-in_err-steps-clause-err : goal.returns-in_err-steps-clause-err
returns-in_err-steps-clause-err c =
    let same : IsErrAnd c.from_residual.result (λ other. other ≡ c.in_err-steps.field-0.0) =
    c.from_residual.ensures.1 in
    handed_on c.from_residual.result c.in_err-steps.field-0.0 (IsStuck IsAccepted c.args.text.now) same
    (whole_stuck c.args.text.now c.skip_blanks-rest.result.now c.in-Some.word.now c.in-Some.left.now
    c.in_err-steps.field-0.0 c.skip_blanks-rest.ensures (c.in-Some.ensures {u = tt})
    (c.in_err-steps.ensures {u = tt}).err)
