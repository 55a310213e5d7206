use Rattle.std.proofs.lemmas.Result.{err_from_is_err_and}
use Rattle.bridge_serve.proofs.Moves.{core_stays, core_on, core_stops_on}
use Rattle.bridge_serve.proofs.telling.tell.Goals as goal

pub loop-init : goal.loop-init
loop-init g c = record {
  goes_on = core_stays _ _ c.requires;
  stays = g.met.W.Wires.stays_so c.args.wires.now;
}

pub loop-preserved : goal.loop-preserved
loop-preserved g c = record {
  goes_on = core_on _ _ _ _ _ _ c.loop.invariant.goes_on c.in_ok-tell_next.ensures.ok;
  stays = g.met.W.Wires.stays_on _ _ _ c.loop.invariant.stays c.in_ok-tell_next.ensures.stays;
}

pub returns-in_err-tell_next-clause-err : goal.returns-in_err-tell_next-clause-err
returns-in_err-tell_next-clause-err g c =
    let gives = err_from_is_err_and c.from_residual.result c.from_residual.ensures.1 in
    rw (gives.1, gives.2)
    (core_stops_on _ _ _ _ _ _ c.in_err-tell_next.field-0.0 c.loop.invariant.goes_on c.in_err-tell_next.ensures.err)

pub tell_next-requires : goal.tell_next-requires
tell_next-requires g c = c.loop.invariant.goes_on.may_tell
