use Rattle.std.proofs.lemmas.Result.{err_from_is_err_and}
use Rattle.bridge_serve.specs.Following.{HandlesLast}
use Rattle.bridge_serve.proofs.Taking.{if_error, tells_packet}
use Rattle.bridge_serve.proofs.handling.hear_packet.Goals as goal

pub tell-requires : goal.tell-requires
tell-requires g c = tells_packet _ _ _ _ _ c.requires c.in_ok-target_packet.ensures.ready c.in_ok-target_packet.ensures.ok

pub returns-in_err-target_packet-clause-err : goal.returns-in_err-target_packet-clause-err
returns-in_err-target_packet-clause-err g c =
    let gives = err_from_is_err_and c.from_residual.result c.from_residual.ensures.1 in
    rw (gives.1, gives.2) (HandlesLast.refuses c.in_err-target_packet.ensures.err)

pub returns-clause-err : goal.returns-clause-err
returns-clause-err g c =
    if_error c.tell.result _ _ c.tell.ensures.err
    (λ ending stops. HandlesLast.stops c.in_ok-target_packet.ensures.ok stops)
