use Rattle.std.proofs.Common.{arith}
use Rattle.std.proofs.lemmas.Result.{err_from_is_err_and}
use Rattle.tap_core.specs.Cores.{state_in}
use Rattle.tap_core.specs.Taking.{EndsBy}
use Rattle.tap_core.proofs.TakeLaws.{sizes_go, sizes_refused}
use Rattle.tap_core.proofs.tap.TapCore.learn.Goals as goal

pub returns-then-error-gt0-clause-err : goal.returns-then-error-gt0-clause-err
returns-then-error-gt0-clause-err c = λ unheard packet.
    sizes_refused c.args.asks.now packet c.args.at c.args.error c.args.body.now (state_in c.args.self.now unheard)
    c.if-error-gt0.true

pub returns-in_err-learn-clause-err : goal.returns-in_err-learn-clause-err
returns-in_err-learn-clause-err c =
    let exit = c.from_residual-in_err-learn in
    let gives = err_from_is_err_and exit.result exit.ensures.1 in
    rw (gives.1, gives.2) (λ unheard packet. EndsBy.no_memory)

pub returns-clause-ok : goal.returns-clause-ok
returns-clause-ok c = λ unheard packet.
    sizes_go c.args.asks.now packet _ c.args.self.now unheard c.args.at c.args.error c.args.body.now
    c.in_ok-sizes.sizes _ c.self.view_is (omega (arith, c.if-error-gt0.false)) c.in_ok-sizes.ensures.ok
    c.in_ok-learn.ensures.ok
