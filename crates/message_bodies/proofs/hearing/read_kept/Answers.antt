use Rattle.std.proofs.lemmas.Result.{err_from_is_err_and}
use Rattle.message_bodies.specs.Hearing.{AreReadOff}
use Rattle.message_bodies.proofs.HearLaws.{left_behind}
use Rattle.message_bodies.proofs.hearing.read_kept.Goals as goal

pub loop-place-init : goal.loop-place-init
loop-place-init c = AreReadOff.none

pub loop-place-preserved : goal.loop-place-preserved
loop-place-preserved c = AreReadOff.one_more _ c.loop-place.invariant c.in_ok-read_first.ensures.ok

pub returns-in_err-read_first-clause-err : goal.returns-in_err-read_first-clause-err
returns-in_err-read_first-clause-err c =
    let gives = err_from_is_err_and c.from_residual.result c.from_residual.ensures.1 in
    rw (gives.1, gives.2)
    (left_behind _ _ _ _ c.in_err-read_first.field-0.0 c.loop-place.invariant c.in_err-read_first.ensures.same
    c.in_err-read_first.ensures.err)
