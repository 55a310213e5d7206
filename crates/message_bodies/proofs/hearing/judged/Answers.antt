use Rattle.std.proofs.Common.{◌≡◌, arith}
use Rattle.message_bodies.specs.Hearing.{IsJudged, IsRefused}
use Rattle.message_bodies.proofs.HearLaws.{answer_ends, refused_ends, refused_says}
use Rattle.message_bodies.proofs.hearing.judged.Goals as goal

pub returns-then-error-gt0-clause-ok : goal.returns-then-error-gt0-clause-ok
returns-then-error-gt0-clause-ok c = refused_says _ _ _ _ _ c.if-error-gt0.true c.refused.ensures.ok

pub returns-then-error-gt0-clause-err : goal.returns-then-error-gt0-clause-err
returns-then-error-gt0-clause-err c = refused_ends _ _ _ _ _ _ c.if-error-gt0.true c.refused.ensures.err

pub returns-in-None-clause-ok : goal.returns-in-None-clause-ok
returns-in-None-clause-ok c =
    let zero : c.args.error ≡ 0 = omega arith in
    rw zero (IsJudged.answers c.in-Ok.ensures.ok.reads c.in-Ok.ensures.ok.answers c.in-None.ensures)

pub returns-in-Some-clause-err : goal.returns-in-Some-clause-err
returns-in-Some-clause-err c =
    let zero : c.args.error ≡ 0 = omega arith in
    rw zero (IsRefused.bad_sizes c.in-Ok.ensures.ok.reads c.in-Some.ensures)

pub returns-in-Err-clause-err : goal.returns-in-Err-clause-err
returns-in-Err-clause-err c =
    let zero : c.args.error ≡ 0 = omega arith in
    rw zero (answer_ends c.in-Err.ensures.err)
