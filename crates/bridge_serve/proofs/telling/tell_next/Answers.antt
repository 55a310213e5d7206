use Rattle.bridge_serve.proofs.Moves.{bytes_for, breaks, finds_stops, open_for, rests, sends_on}
use Rattle.bridge_serve.proofs.Steps.{sent_so}
use Rattle.bridge_serve.proofs.telling.tell_next.Goals as goal

pub send-requires-clause-is_open : goal.send-requires-clause-is_open
send-requires-clause-is_open g c =
    let out = c.in-Ok-Some.out in
    open_for _ _ _ out.side out.bytes c.requires (rw c.in-Ok-Some.field-0-is at c.in-Ok-Some.ensures.sends)

pub send-requires-clause-some_bytes : goal.send-requires-clause-some_bytes
send-requires-clause-some_bytes g c =
    let out = c.in-Ok-Some.out in
    rw c.as_slice.ensures (bytes_for _ _ out.side out.bytes (rw c.in-Ok-Some.field-0-is at c.in-Ok-Some.ensures.sends))

pub returns-in-Ok-clause-ok : goal.returns-in-Ok-clause-ok
returns-in-Ok-clause-ok g c =
    let out = c.in-Ok-Some.out in
    let due = rw c.in-Ok-Some.field-0-is at c.in-Ok-Some.ensures.sends in
    let sent = rw c.as_slice.ensures at c.in-Ok.ensures.ok in
    sends_on _ _ _ _ out.side out.bytes c.requires c.in-Ok-Some.ensures.ready due sent

pub returns-in-Ok-clause-more : goal.returns-in-Ok-clause-more
returns-in-Ok-clause-more g c is_more =
    let due = rw c.in-Ok-Some.field-0-is at c.in-Ok-Some.ensures.sends in
    (sent_so c.requires.ready due).less

pub returns-in-Ok-Some-clause-err : goal.returns-in-Ok-Some-clause-err
returns-in-Ok-Some-clause-err g c =
    let out = c.in-Ok-Some.out in
    let due = rw c.in-Ok-Some.field-0-is at c.in-Ok-Some.ensures.sends in
    let failed = rw c.as_slice.ensures at c.in-Err-send.ensures.err in
    rw (c.link_ending.ensures, c.unsent.ensures, c.phase-before.ensures)
    (breaks _ _ _ c.out.new.self out.side out.bytes c.requires due failed)

pub returns-in-Ok-None-clause-ok : goal.returns-in-Ok-None-clause-ok
returns-in-Ok-None-clause-ok g c =
    rests _ _ _ c.requires c.in-Ok-None.ensures.ready (rw c.in-Ok-None.field-0-is at c.in-Ok-None.ensures.rest)

pub returns-clause-err : goal.returns-clause-err
returns-clause-err g c = finds_stops _ _ _ c.in-Err.ending c.requires c.in-Err.ensures.over
