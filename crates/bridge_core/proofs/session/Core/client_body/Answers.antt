use Rattle.std.proofs.Common.{refl, subst, sym}
use Rattle.std.proofs.lemmas.Result.{err_from_is_err_and}
use Rattle.bridge_core.specs.Calls.{Refuses}
use Rattle.bridge_core.specs.Cores.{CoreState, IsReady}
use Rattle.bridge_core.proofs.ClientLaws.{floods_request, ready_request, takes_request}
use Rattle.bridge_core.proofs.session.Core.client_body.Goals as goal

pub returns-in_err-hear-in-Ok-Request-clause-err : goal.returns-in_err-hear-in-Ok-Request-clause-err
returns-in_err-hear-in-Ok-Request-clause-err c =
    let gives = err_from_is_err_and c.from_residual.result c.from_residual.ensures.1 in
    rw (gives.1, gives.2) Refuses.no_memory

pub returns-in_ok-hear-in-Ok-Request-clause-ok : goal.returns-in_ok-hear-in-Ok-Request-clause-ok
returns-in_ok-hear-in-Ok-Request-clause-ok c =
    let reads = rw c.in-Ok-Request.field-0-is at c.in-Ok-Request.ensures in
    rw (← c.self.view_is)
    (takes_request c.make_room.result _ c.hear.new.self c.args.body.now c.in-Ok-Request.request reads
    (sym c.if-is_closing.ensures) c.in_ok-hear-in-Ok-Request.ensures)

pub returns-in_ok-hear-in-Ok-Request-clause-ready : goal.returns-in_ok-hear-in-Ok-Request-clause-ready
returns-in_ok-hear-in-Ok-Request-clause-ready c =
    let ready = subst (λ (core : CoreState). IsReady core) (sym c.self.view_is) c.requires in
    ready_request c.make_room.result _ c.hear.new.self c.in-Ok-Request.request ready (sym c.if-is_closing.ensures)
    c.in_ok-hear-in-Ok-Request.ensures c.make_room.ensures.ok

pub returns-in_ok-hear-in-Ok-Request-clause-err : goal.returns-in_ok-hear-in-Ok-Request-clause-err
returns-in_ok-hear-in-Ok-Request-clause-err c =
    let reads = rw c.in-Ok-Request.field-0-is at c.in-Ok-Request.ensures in
    rw (← c.self.view_is)
    (floods_request c.make_room.result _ c.hear.new.self c.args.body.now c.args.at c.in-Ok-Request.request reads
    (sym c.if-is_closing.ensures) c.in_ok-hear-in-Ok-Request.ensures c.make_room.ensures.err)

pub returns-in-Err-NoMemory-clause-err : goal.returns-in-Err-NoMemory-clause-err
returns-in-Err-NoMemory-clause-err c = Refuses.no_memory

pub returns-in-Err-NotJson-clause-err : goal.returns-in-Err-NotJson-clause-err
returns-in-Err-NotJson-clause-err c = Refuses.not_json (rw c.in-Err-NotJson.field-0-is at c.in-Err-NotJson.ensures) refl

pub returns-in-Err-NotAMessage-clause-err : goal.returns-in-Err-NotAMessage-clause-err
returns-in-Err-NotAMessage-clause-err c =
    Refuses.not_a_message (rw c.in-Err-NotAMessage.field-0-is at c.in-Err-NotAMessage.ensures) refl
