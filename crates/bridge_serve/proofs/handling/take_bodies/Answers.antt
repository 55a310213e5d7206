use Rattle.std.proofs.Common.{◌∙◌, ap}
use Rattle.std.proofs.lemmas.Result.{err_from_is_err_and}
use Rattle.jdwp_packets.specs.Receiving.{Received, received_front}
use Rattle.bridge_serve.proofs.Cutting.{waits_on}
use Rattle.bridge_serve.proofs.Taking.{stays, on_and_on, on_and_stops}
use Rattle.bridge_serve.proofs.handling.take_bodies.Goals as goal

pub loop-init : goal.loop-init
loop-init g c = record {
  goes_on = stays _ _ _ c.requires.ready;
  taken_up = c.requires.taken_up;
  no_packet = c.requires.no_packet;
  stays = g.met.W.Wires.stays_so c.args.wires.now;
}

pub take_body-requires-clause-ready : goal.take_body-requires-clause-ready
take_body-requires-clause-ready g c = c.loop.invariant.goes_on.may_take

pub loop-preserved : goal.loop-preserved
loop-preserved g c = record {
  goes_on = on_and_on _ _ _ _ _ _ _ _ _ c.loop.invariant.goes_on c.in_ok-take_body.ensures.ok;
  taken_up = c.in_ok-take_body.ensures.taken_up;
  no_packet =
      ap (λ (r : Received). received_front r.greeted r.stream.pending) c.in_ok-take_body.ensures.target ∙
      c.loop.invariant.no_packet;
  stays = g.met.W.Wires.stays_on _ _ _ c.loop.invariant.stays c.in_ok-take_body.ensures.stays;
}

pub returns-in_err-take_body-clause-err : goal.returns-in_err-take_body-clause-err
returns-in_err-take_body-clause-err g c =
    let gives = err_from_is_err_and c.from_residual.result c.from_residual.ensures.1 in
    rw (gives.1, gives.2)
    (on_and_stops _ _ _ _ _ _ _ _ c.in_err-take_body.field-0.0 c.loop.invariant.goes_on c.in_err-take_body.ensures.err)

pub returns-clause-ok : goal.returns-clause-ok
returns-clause-ok g c = on_and_on _ _ _ _ _ _ _ _ _ c.loop.invariant.goes_on c.in_ok-take_body.ensures.ok

pub returns-clause-waits : goal.returns-clause-waits
returns-clause-waits g c limits limit =
    let now = on_and_on _ _ _ _ _ _ _ _ _ c.loop.invariant.goes_on c.in_ok-take_body.ensures.ok in
    let last = c.if-branch.false in
    waits_on limits _ _ _ now.may_take c.in_ok-take_body.ensures.taken_up
    (ap (λ (r : Received). received_front r.greeted r.stream.pending) c.in_ok-take_body.ensures.target ∙
    c.loop.invariant.no_packet)
    (c.in_ok-take_body.ensures.waits cc) (now.same_limit ∙ limit)
