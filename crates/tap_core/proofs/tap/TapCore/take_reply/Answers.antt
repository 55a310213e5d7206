use Rattle.std.proofs.Common.{sym}
use Rattle.tap_core.proofs.TakeLaws.{reply_unknown}
use Rattle.tap_core.proofs.tap.TapCore.take_reply.Goals as goal

pub returns-in-None-clause-err : goal.returns-in-None-clause-err
returns-in-None-clause-err c = λ unheard.
    reply_unknown c.args.asks.now _ c.args.self.now unheard c.args.at c.args.id c.args.error c.args.body.now
    c.self.view_is (sym c.in-None.ensures)
