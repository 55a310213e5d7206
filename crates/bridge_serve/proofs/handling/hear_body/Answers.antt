use Rattle.std.proofs.lemmas.Result.{err_from_is_err_and}
use Rattle.bridge_serve.specs.Following.{HandlesLast}
use Rattle.bridge_serve.proofs.Cutting.{tells_body}
use Rattle.bridge_serve.proofs.Taking.{on_both, if_error}
use Rattle.bridge_serve.proofs.handling.hear_body.Goals as goal

pub tell-requires : goal.tell-requires
tell-requires g c = tells_body _ _ _ _ c.requires c.in_ok-client_body.ensures.ready c.in_ok-client_body.ensures.ok

pub returns-in_err-client_body-clause-err : goal.returns-in_err-client_body-clause-err
returns-in_err-client_body-clause-err g c =
    let gives = err_from_is_err_and c.from_residual.result c.from_residual.ensures.1 in
    rw (gives.1, gives.2) (HandlesLast.refuses c.in_err-client_body.ensures.err)

pub returns-clause-ok : goal.returns-clause-ok
returns-clause-ok g c =
    let heard = c.in_ok-client_body.ensures.ok in
    on_both c.tell.result _ _ _ c.tell.ensures.ok c.tell.ensures.nothing_due
    (λ on due. record { middle = _; heard = heard; goes_on = on; nothing_due = due })

pub returns-clause-err : goal.returns-clause-err
returns-clause-err g c =
    if_error c.tell.result _ _ c.tell.ensures.err
    (λ ending stops. HandlesLast.stops c.in_ok-client_body.ensures.ok stops)
