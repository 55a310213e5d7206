use Rattle.std.proofs.Common.{sym}
use Rattle.std.proofs.lemmas.Result.{err_from_is_err_and}
use Rattle.bridge_serve.proofs.Cutting.{fewer_behind, misframes, next_of, refuses_body, takes_body}
use Rattle.bridge_serve.proofs.Taking.{handles_last, handles_on, is_reading, may_tell}
use Rattle.bridge_serve.proofs.handling.take_body.Goals as goal

pub returns-in_err-body-clause-err : goal.returns-in_err-body-clause-err
returns-in_err-body-clause-err g c =
    let reading = is_reading c.requires.ready c.requires.taken_up in
    let gives = err_from_is_err_and c.from_residual.result c.from_residual.ensures.1 in
    rw (gives.1, gives.2) (misframes _ reading (sym c.if-is_closing.ensures) c.in_err-body.ensures.err)

pub hear_body-requires : goal.hear_body-requires
hear_body-requires g c = may_tell _ _ c.args.inputs.now c.requires.ready c.requires.taken_up.not_ended

pub returns-in_err-hear_body-clause-err : goal.returns-in_err-hear_body-clause-err
returns-in_err-hear_body-clause-err g c =
    let reading = is_reading c.requires.ready c.requires.taken_up in
    let is_open = sym c.if-is_closing.ensures in
    let next = next_of c.args.inputs.now c.in_ok-body.ensures.ok c.in-Some.is c.next_body.follows.holds-at-none in
    let exit = c.from_residual-in_err-hear_body in
    let gives = err_from_is_err_and exit.result exit.ensures.1 in
    rw (gives.1, gives.2)
    (handles_last (takes_body reading is_open next) (refuses_body reading is_open next) c.in_err-hear_body.ensures.err)

pub returns-clause-ok : goal.returns-clause-ok
returns-clause-ok g c =
    let reading = is_reading c.requires.ready c.requires.taken_up in
    let next = next_of c.args.inputs.now c.in_ok-body.ensures.ok c.in-Some.is c.next_body.follows.holds-at-none in
    handles_on (takes_body reading (sym c.if-is_closing.ensures) next) c.in_ok-hear_body.ensures.ok

pub returns-clause-more : goal.returns-clause-more
returns-clause-more g c is_more =
    fewer_behind (next_of c.args.inputs.now c.in_ok-body.ensures.ok c.in-Some.is c.next_body.follows.holds-at-none)
