use Rattle.std.proofs.lemmas.Result.{err_from_is_err_and}
use Rattle.tap_core.specs.Taking.{IsBadReply}
use Rattle.tap_core.proofs.TakeLaws.{bad_reply}
use Rattle.tap_core.proofs.hearing.question_answer.Goals as goal

pub returns-in_err-copy_of-clause-err : goal.returns-in_err-copy_of-clause-err
returns-in_err-copy_of-clause-err c =
    let gives = err_from_is_err_and c.from_residual.result c.from_residual.ensures.1 in
    rw (gives.1, gives.2) IsBadReply.no_memory

pub returns-clause-err : goal.returns-clause-err
returns-clause-err c =
    rw (← c.in_ok-copy_of.ensures) (bad_reply _ _ _ _ _ _ c.in-Err.ensures.err c.tap_ending.ensures)
