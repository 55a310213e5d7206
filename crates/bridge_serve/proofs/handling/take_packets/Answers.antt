use Rattle.std.proofs.lemmas.Result.{err_from_is_err_and}
use Rattle.bridge_serve.proofs.Taking.{stays, on_and_on, on_and_stops}
use Rattle.bridge_serve.proofs.handling.take_packets.Goals as goal

pub loop-init : goal.loop-init
loop-init g c = record {
  goes_on = stays _ _ _ c.requires.ready;
  taken_up = c.requires.taken_up;
  stays = g.met.W.Wires.stays_so c.args.wires.now;
}

pub take_packet-requires-clause-ready : goal.take_packet-requires-clause-ready
take_packet-requires-clause-ready g c = c.loop.invariant.goes_on.may_take

pub loop-preserved : goal.loop-preserved
loop-preserved g c = record {
  goes_on = on_and_on _ _ _ _ _ _ _ _ _ c.loop.invariant.goes_on c.in_ok-take_packet.ensures.ok;
  taken_up = c.in_ok-take_packet.ensures.taken_up;
  stays = g.met.W.Wires.stays_on _ _ _ c.loop.invariant.stays c.in_ok-take_packet.ensures.stays;
}

pub returns-in_err-take_packet-clause-err : goal.returns-in_err-take_packet-clause-err
returns-in_err-take_packet-clause-err g c =
    let gives = err_from_is_err_and c.from_residual.result c.from_residual.ensures.1 in
    rw (gives.1, gives.2)
    (on_and_stops _ _ _ _ _ _ _ _ c.in_err-take_packet.field-0.0 c.loop.invariant.goes_on
    c.in_err-take_packet.ensures.err)

pub returns-clause-ok : goal.returns-clause-ok
returns-clause-ok g c = on_and_on _ _ _ _ _ _ _ _ _ c.loop.invariant.goes_on c.in_ok-take_packet.ensures.ok
