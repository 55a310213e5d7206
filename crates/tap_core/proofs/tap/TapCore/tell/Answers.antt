use Rattle.std.proofs.Common.{sym}
use Rattle.std.proofs.lemmas.Result.{err_from_is_err_and}
use Rattle.tap_core.specs.Taking.{EndsBy}
use Rattle.tap_core.proofs.TakeLaws.{event_floods}
use Rattle.tap_core.proofs.tap.TapCore.tell.Goals as goal

pub returns-then-not-has_room-clause-err : goal.returns-then-not-has_room-clause-err
returns-then-not-has_room-clause-err c = λ asks at unheard.
    event_floods asks c.args.self.now unheard at c.args.id c.args.set c.args.command c.args.body.now
    (sym c.if-not-has_room.ensures)

pub returns-in_err-bytes-clause-err : goal.returns-in_err-bytes-clause-err
returns-in_err-bytes-clause-err c =
    let gives = err_from_is_err_and c.from_residual.result c.from_residual.ensures.1 in
    rw (gives.1, gives.2) (λ asks at unheard. EndsBy.no_memory)

pub returns-in_err-add_packet-clause-err : goal.returns-in_err-add_packet-clause-err
returns-in_err-add_packet-clause-err c =
    let exit = c.from_residual-in_err-add_packet in
    let gives = err_from_is_err_and exit.result exit.ensures.1 in
    rw (gives.1, gives.2) (λ asks at unheard. EndsBy.no_memory)
