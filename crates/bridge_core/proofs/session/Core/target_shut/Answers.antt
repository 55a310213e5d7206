use Rattle.std.proofs.Common.{subst, sym}
use Rattle.std.proofs.lemmas.Result.{err_from_is_err_and}
use Rattle.bridge_core.specs.Calls.{RefusesEnd}
use Rattle.bridge_core.specs.Cores.{CoreState, IsReady}
use Rattle.bridge_core.proofs.ClientLaws.{floods_end, ready_end}
use Rattle.bridge_core.proofs.session.Core.target_shut.Goals as goal

pub returns-in_err-end-clause-err : goal.returns-in_err-end-clause-err
returns-in_err-end-clause-err c =
    let gives = err_from_is_err_and c.from_residual.result c.from_residual.ensures.1 in
    rw (gives.1, gives.2) RefusesEnd.no_memory

pub returns-clause-ready : goal.returns-clause-ready
returns-clause-ready c =
    let ready = subst (λ (core : CoreState). IsReady core) (sym c.self.view_is) c.requires in
    ready_end c.make_room.result _ c.end.new.self ready c.in_ok-end.ensures c.make_room.ensures.ok

pub returns-clause-err : goal.returns-clause-err
returns-clause-err c =
    rw (← c.self.view_is)
    (floods_end c.make_room.result _ c.end.new.self c.in_ok-end.ensures c.make_room.ensures.err)
