use Rattle.std.proofs.Common.{refl}
use Rattle.std.proofs.lemmas.Result.{IfErr-weaker, on_ok_weaker}
use Rattle.tap_core.specs.Taking.{EndsBy}
use Rattle.tap_core.proofs.tap.TapCore.debugger_packet.Goals as goal

pub returns-in-Command-clause-ok : goal.returns-in-Command-clause-ok
returns-in-Command-clause-ok c =
    rw c.in-Command.is
    (on_ok_weaker c.keep_command.result (λ takes asks unheard. takes asks 0 unheard) c.keep_command.ensures.ok)

pub returns-in-Command-clause-err : goal.returns-in-Command-clause-err
returns-in-Command-clause-err c =
    rw c.in-Command.is (IfErr-weaker c.keep_command.result _ _ (λ ending ends unheard. ends 0 unheard)
    c.keep_command.ensures.err)

pub returns-in-Reply-clause-err : goal.returns-in-Reply-clause-err
returns-in-Reply-clause-err c = rw c.in-Reply.is (λ unheard. EndsBy.ends refl)
