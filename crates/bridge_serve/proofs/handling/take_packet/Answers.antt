use Rattle.std.proofs.lemmas.Result.{err_from_is_err_and}
use Rattle.bridge_serve.proofs.Taking.{fewer_behind, goes_as, handles_last, handles_on, is_reading, may_tell, mispacks}
use Rattle.bridge_serve.proofs.Taking.{next_of, none_left, refuses_packet, stays, taken_none, taken_up_on, takes_packet}
use Rattle.bridge_serve.proofs.handling.take_packet.Goals as goal

pub returns-in_err-packet-clause-err : goal.returns-in_err-packet-clause-err
returns-in_err-packet-clause-err g c =
    let reading = is_reading c.requires.ready c.requires.taken_up in
    let gives = err_from_is_err_and c.from_residual.result c.from_residual.ensures.1 in
    rw (gives.1, gives.2) (mispacks _ reading c.in_err-packet.ensures.err)

pub returns-in_default-clause-ok : goal.returns-in_default-clause-ok
returns-in_default-clause-ok g c =
    let unheard = c.args.inputs.now in
    let none = taken_none unheard.target _ c.in_ok-packet.ensures.ok c.in_default.is in
    goes_as (none_left unheard none c.next_packet.follows.holds-at-none) (stays _ _ _ c.requires.ready)

pub returns-in_default-clause-no_packet : goal.returns-in_default-clause-no_packet
returns-in_default-clause-no_packet g c is_last =
    let unheard = c.args.inputs.now in
    let none = taken_none unheard.target _ c.in_ok-packet.ensures.ok c.in_default.is in
    rw (none_left unheard none c.next_packet.follows.holds-at-none) none

pub hear_packet-requires : goal.hear_packet-requires
hear_packet-requires g c = may_tell _ _ c.args.inputs.now c.requires.ready c.requires.taken_up.not_ended

pub returns-in_err-hear_packet-clause-err : goal.returns-in_err-hear_packet-clause-err
returns-in_err-hear_packet-clause-err g c =
    let reading = is_reading c.requires.ready c.requires.taken_up in
    let next = next_of c.args.inputs.now c.in_ok-packet.ensures.ok c.in-Some.is c.next_packet.follows.holds-at-none in
    let exit = c.from_residual-in_err-hear_packet in
    let gives = err_from_is_err_and exit.result exit.ensures.1 in
    rw (gives.1, gives.2)
    (handles_last (takes_packet reading next) (refuses_packet reading next) c.in_err-hear_packet.ensures.err)

pub returns-clause-ok : goal.returns-clause-ok
returns-clause-ok g c =
    let reading = is_reading c.requires.ready c.requires.taken_up in
    let next = next_of c.args.inputs.now c.in_ok-packet.ensures.ok c.in-Some.is c.next_packet.follows.holds-at-none in
    handles_on (takes_packet reading next) c.in_ok-hear_packet.ensures.ok

pub returns-clause-taken_up : goal.returns-clause-taken_up
returns-clause-taken_up g c =
    let next = next_of c.args.inputs.now c.in_ok-packet.ensures.ok c.in-Some.is c.next_packet.follows.holds-at-none in
    taken_up_on c.requires.taken_up next c.in_ok-hear_packet.ensures.ok

pub returns-clause-more : goal.returns-clause-more
returns-clause-more g c is_more =
    fewer_behind (next_of c.args.inputs.now c.in_ok-packet.ensures.ok c.in-Some.is c.next_packet.follows.holds-at-none)
