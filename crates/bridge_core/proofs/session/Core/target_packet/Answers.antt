use Rattle.std.proofs.lemmas.Result.{err_from_is_err_and}
use Rattle.bridge_core.proofs.PacketLaws.{floods_on, goes_on_ready, takes_on}
use Rattle.bridge_core.proofs.session.Core.target_packet.Goals as goal

pub returns-in_err-take_command-in-Command-clause-err : goal.returns-in_err-take_command-in-Command-clause-err
returns-in_err-take_command-in-Command-clause-err c =
    let gives = err_from_is_err_and c.from_residual.result c.from_residual.ensures.1 in
    rw (gives.1, gives.2, c.in-Command.is) c.in_err-take_command-in-Command.ensures.err

pub returns-in_ok-take_command-in-Command-clause-ok : goal.returns-in_ok-take_command-in-Command-clause-ok
returns-in_ok-take_command-in-Command-clause-ok c =
    rw c.in-Command.is (takes_on c.make_room.result _ _ _ _ c.in_ok-take_command-in-Command.ensures.ok)

pub returns-in_ok-take_command-in-Command-clause-ready : goal.returns-in_ok-take_command-in-Command-clause-ready
returns-in_ok-take_command-in-Command-clause-ready c =
    goes_on_ready c.make_room.result _ _ _ _ c.in_ok-take_command-in-Command.ensures.ok c.make_room.ensures.ok

pub returns-in_ok-take_command-in-Command-clause-err : goal.returns-in_ok-take_command-in-Command-clause-err
returns-in_ok-take_command-in-Command-clause-err c =
    rw c.in-Command.is
    (floods_on c.make_room.result _ _ _ _ c.in_ok-take_command-in-Command.ensures.ok c.make_room.ensures.err)

pub returns-in_err-take_reply-in-Reply-clause-err : goal.returns-in_err-take_reply-in-Reply-clause-err
returns-in_err-take_reply-in-Reply-clause-err c =
    let exit = c.from_residual-in_err-take_reply-in-Reply in
    let gives = err_from_is_err_and exit.result exit.ensures.1 in
    rw (gives.1, gives.2, c.in-Reply.is) c.in_err-take_reply-in-Reply.ensures.err

pub returns-in_ok-take_reply-in-Reply-clause-ok : goal.returns-in_ok-take_reply-in-Reply-clause-ok
returns-in_ok-take_reply-in-Reply-clause-ok c =
    rw c.in-Reply.is (takes_on c.make_room-in-Reply.result _ _ _ _ c.in_ok-take_reply-in-Reply.ensures.ok)

pub returns-in_ok-take_reply-in-Reply-clause-ready : goal.returns-in_ok-take_reply-in-Reply-clause-ready
returns-in_ok-take_reply-in-Reply-clause-ready c =
    goes_on_ready c.make_room-in-Reply.result _ _ _ _ c.in_ok-take_reply-in-Reply.ensures.ok
    c.make_room-in-Reply.ensures.ok

pub returns-in_ok-take_reply-in-Reply-clause-err : goal.returns-in_ok-take_reply-in-Reply-clause-err
returns-in_ok-take_reply-in-Reply-clause-err c =
    rw c.in-Reply.is
    (floods_on c.make_room-in-Reply.result _ _ _ _ c.in_ok-take_reply-in-Reply.ensures.ok
    c.make_room-in-Reply.ensures.err)
