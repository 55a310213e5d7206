use Rattle.std.proofs.lemmas.Result.{IfErr-weaker, on_ok_weaker}
use Rattle.tap_core.proofs.tap.TapCore.target_packet.Goals as goal

pub returns-in-Command-clause-ok : goal.returns-in-Command-clause-ok
returns-in-Command-clause-ok c =
    rw c.in-Command.is
    (on_ok_weaker c.tell.result (λ takes unheard. takes c.args.asks.now 0 unheard) c.tell.ensures.ok)

pub returns-in-Command-clause-err : goal.returns-in-Command-clause-err
returns-in-Command-clause-err c =
    rw c.in-Command.is
    (IfErr-weaker c.tell.result _ _ (λ ending ends unheard. ends c.args.asks.now 0 unheard) c.tell.ensures.err)
