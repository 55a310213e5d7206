use Rattle.std.proofs.lemmas.Result.{err_from_is_err_and}
use Rattle.tap_core.proofs.TakeLaws.{sizes_end_by}
use Rattle.tap_core.proofs.hearing.sizes_in.Goals as goal

pub returns-in_err-answer-clause-err : goal.returns-in_err-answer-clause-err
returns-in_err-answer-clause-err c =
    let gives = err_from_is_err_and c.from_residual.result c.from_residual.ensures.1 in
    rw (gives.1, gives.2) (λ packet s. sizes_end_by packet c.args.at c.args.body.now c.eights.result s _
    c.eights.ensures c.in_err-answer.ensures.err)
