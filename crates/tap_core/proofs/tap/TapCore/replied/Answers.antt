use Rattle.std.proofs.lemmas.Result.{IfErr-weaker, on_ok_weaker}
use Rattle.tap_core.proofs.tap.TapCore.replied.Goals as goal

pub returns-in-Debugger-clause-ok : goal.returns-in-Debugger-clause-ok
returns-in-Debugger-clause-ok c =
    rw c.in-Debugger.is (on_ok_weaker c.give_back.result (λ takes unheard packet.
    takes c.args.asks.now c.args.at unheard packet) c.give_back.ensures.ok)

pub returns-in-Debugger-clause-err : goal.returns-in-Debugger-clause-err
returns-in-Debugger-clause-err c =
    rw c.in-Debugger.is (IfErr-weaker c.give_back.result _ _ (λ ending ends unheard packet.
    ends c.args.asks.now c.args.at unheard packet) c.give_back.ensures.err)
