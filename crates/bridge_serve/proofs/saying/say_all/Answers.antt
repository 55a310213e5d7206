use Rattle.std.proofs.lemmas.Result.{err_from_is_err_and}
use Rattle.bridge_serve.proofs.Words.{silent_on, speaks_none, speaks_on}
use Rattle.bridge_serve.proofs.saying.say_all.Goals as goal

pub loop-init : goal.loop-init
loop-init g c = record {
  says = speaks_none _ _ _ c.requires.open;
  stays = g.met.W.Wires.stays_so c.args.wires.now;
}

pub say_next-requires-clause-open : goal.say_next-requires-clause-open
say_next-requires-clause-open g c = c.loop.invariant.says.speakable

pub loop-preserved : goal.loop-preserved
loop-preserved g c =
    let more = c.if-branch.true in
    record {
      says = speaks_on _ _ _ _ _ _ _ c.loop.invariant.says (c.in_ok-say_next.ensures.more cc);
      stays = g.met.W.Wires.stays_on _ _ _ c.loop.invariant.stays c.in_ok-say_next.ensures.stays;
    }

pub returns-clause-ok : goal.returns-clause-ok
returns-clause-ok g c =
    let last = c.if-branch.false in
    silent_on _ _ _ _ _ _ _ c.loop.invariant.says (c.in_ok-say_next.ensures.silent cc)

pub returns-in_err-say_next-clause-err : goal.returns-in_err-say_next-clause-err
returns-in_err-say_next-clause-err g c =
    let gives = err_from_is_err_and c.from_residual.result c.from_residual.ensures.1 in
    rw gives.1 (silent_on _ _ _ _ _ _ _ c.loop.invariant.says c.in_err-say_next.ensures.err)
