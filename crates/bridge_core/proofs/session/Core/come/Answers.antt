use Rattle.std.proofs.Common.{refl}
use Rattle.std.proofs.lemmas.Result.{err_from_is_err_and}
use Rattle.bridge_core.specs.Packets.{IsUntaken}
use Rattle.bridge_core.proofs.session.Core.come.Goals as goal

pub returns-in_err-composite-clause-err : goal.returns-in_err-composite-clause-err
returns-in_err-composite-clause-err c =
    let gives = err_from_is_err_and c.from_residual.result c.from_residual.ensures.1 in
    rw (gives.1, gives.2) (IsUntaken.bad_body c.in_err-composite.ensures.err refl)

pub returns-in_err-add-clause-err : goal.returns-in_err-add-clause-err
returns-in_err-add-clause-err c =
    let exit = c.from_residual-in_err-add in
    let gives = err_from_is_err_and exit.result exit.ensures.1 in
    rw (gives.1, gives.2) IsUntaken.no_memory
