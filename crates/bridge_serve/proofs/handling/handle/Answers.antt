use Rattle.std.proofs.Common.{◌∙◌}
use Rattle.std.proofs.lemmas.Result.{err_from_is_err_and}
use Rattle.bridge_serve.proofs.Taking.{on_and_on, on_and_stops, on_both, if_error}
use Rattle.bridge_serve.proofs.handling.handle.Goals as goal

pub returns-in_err-take_greeting-clause-err : goal.returns-in_err-take_greeting-clause-err
returns-in_err-take_greeting-clause-err g c =
    let exit = c.from_residual-in_err-take_greeting in
    let gives = err_from_is_err_and exit.result exit.ensures.1 in
    rw (gives.1, gives.2)
    (on_and_stops _ _ _ _ _ _ _ _ c.in_err-take_greeting.field-0.0 c.in_ok-take_end.ensures.ok
    c.in_err-take_greeting.ensures.err)

pub returns-in_err-take_packets-clause-err : goal.returns-in_err-take_packets-clause-err
returns-in_err-take_packets-clause-err g c =
    let exit = c.from_residual-in_err-take_packets in
    let gives = err_from_is_err_and exit.result exit.ensures.1 in
    let on = on_and_on _ _ _ _ _ _ _ _ _ c.in_ok-take_end.ensures.ok c.in_ok-take_greeting.ensures.ok in
    rw (gives.1, gives.2)
    (on_and_stops _ _ _ _ _ _ _ _ c.in_err-take_packets.field-0.0 on c.in_err-take_packets.ensures.err)

pub returns-clause-ok : goal.returns-clause-ok
returns-clause-ok g c =
    let on = on_and_on _ _ _ _ _ _ _ _ _ c.in_ok-take_end.ensures.ok c.in_ok-take_greeting.ensures.ok in
    let all = on_and_on _ _ _ _ _ _ _ _ _ on c.in_ok-take_packets.ensures.ok in
    on_both c.take_bodies.result _ _ _ c.take_bodies.ensures.ok c.take_bodies.ensures.waits
    (λ last waits. on_and_on _ _ _ _ _ _ _ _ _ all last)

pub returns-clause-waits : goal.returns-clause-waits
returns-clause-waits g c =
    let on = on_and_on _ _ _ _ _ _ _ _ _ c.in_ok-take_end.ensures.ok c.in_ok-take_greeting.ensures.ok in
    let all = on_and_on _ _ _ _ _ _ _ _ _ on c.in_ok-take_packets.ensures.ok in
    on_both c.take_bodies.result _ _ _ c.take_bodies.ensures.ok c.take_bodies.ensures.waits
    (λ last waits limits limit. waits limits (all.same_limit ∙ limit))

pub returns-clause-err : goal.returns-clause-err
returns-clause-err g c =
    let on = on_and_on _ _ _ _ _ _ _ _ _ c.in_ok-take_end.ensures.ok c.in_ok-take_greeting.ensures.ok in
    let all = on_and_on _ _ _ _ _ _ _ _ _ on c.in_ok-take_packets.ensures.ok in
    if_error c.take_bodies.result _ _ c.take_bodies.ensures.err
    (λ ending stops. on_and_stops _ _ _ _ _ _ _ _ ending all stops)
