use Rattle.std.proofs.Common.{sym}
use Rattle.std.proofs.lemmas.Result.{err_from_is_err_and}
use Rattle.tap_core.specs.Taking.{EndsBy}
use Rattle.tap_core.proofs.TakeLaws.{reply_floods, reply_goes}
use Rattle.tap_core.proofs.tap.TapCore.give_back.Goals as goal

pub returns-then-not-has_room-clause-err : goal.returns-then-not-has_room-clause-err
returns-then-not-has_room-clause-err c = λ asks at unheard packet.
    reply_floods asks packet c.args.self.now unheard at c.args.error c.args.id c.args.leaves c.args.body.now
    (sym c.if-not-has_room.ensures)

pub returns-in_err-bytes-clause-err : goal.returns-in_err-bytes-clause-err
returns-in_err-bytes-clause-err c =
    let gives = err_from_is_err_and c.from_residual.result c.from_residual.ensures.1 in
    rw (gives.1, gives.2) (λ asks at unheard packet. EndsBy.no_memory)

pub returns-in_err-add_packet-clause-err : goal.returns-in_err-add_packet-clause-err
returns-in_err-add_packet-clause-err c =
    let exit = c.from_residual-in_err-add_packet in
    let gives = err_from_is_err_and exit.result exit.ensures.1 in
    rw (gives.1, gives.2) (λ asks at unheard packet. EndsBy.no_memory)

pub returns-clause-ok : goal.returns-clause-ok
returns-clause-ok c = λ asks at unheard packet.
    reply_goes asks packet _ c.args.self.now unheard at c.args.error c.args.id c.args.leaves _ c.args.body.now _ _
    c.self.view_is (sym c.if-not-has_room.ensures) c.in_ok-bytes.ensures c.in_ok-add_packet.ensures.ok
    c.is_left-self-inside.ensures
