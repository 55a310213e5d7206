use Rattle.std.proofs.Common.{sym}
use Rattle.std.proofs.lemmas.Result.{err_from_is_err_and}
use Rattle.tap_core.specs.Taking.{EndsBy}
use Rattle.tap_core.proofs.TakeLaws.{command_floods}
use Rattle.tap_core.proofs.tap.TapCore.keep_command.Goals as goal

pub returns-then-not-can_keep-clause-err : goal.returns-then-not-can_keep-clause-err
returns-then-not-can_keep-clause-err c = λ at unheard.
    command_floods c.args.self.now unheard at c.args.id c.args.set c.args.command c.args.body.now
    (sym c.if-not-can_keep.ensures)

pub returns-in_err-body-clause-err : goal.returns-in_err-body-clause-err
returns-in_err-body-clause-err c =
    let gives = err_from_is_err_and c.from_residual.result c.from_residual.ensures.1 in
    rw (gives.1, gives.2) (λ at unheard. EndsBy.no_memory)

pub returns-in_err-add_command-clause-err : goal.returns-in_err-add_command-clause-err
returns-in_err-add_command-clause-err c =
    let exit = c.from_residual-in_err-add_command in
    let gives = err_from_is_err_and exit.result exit.ensures.1 in
    rw (gives.1, gives.2) (λ at unheard. EndsBy.no_memory)
