use Rattle.bridge_serve.proofs.Words.{word_open, word_bytes_some, fewer_words, says_one, falls_silent, none_left}
use Rattle.bridge_serve.proofs.Words.{forgets}
use Rattle.bridge_serve.proofs.saying.say_next.Goals as goal

pub send-requires-clause-is_open : goal.send-requires-clause-is_open
send-requires-clause-is_open g c =
    word_open (rw c.in-Ok-Some.field-0-is at c.in-Ok-Some.ensures.says) _ c.requires.open

pub send-requires-clause-some_bytes : goal.send-requires-clause-some_bytes
send-requires-clause-some_bytes g c =
    rw c.as_slice.ensures
    (word_bytes_some (rw c.in-Ok-Some.field-0-is at c.in-Ok-Some.ensures.says))

pub returns-in-Ok-clause-more : goal.returns-in-Ok-clause-more
returns-in-Ok-clause-more g c is_more =
    let says = rw c.in-Ok-Some.field-0-is at c.in-Ok-Some.ensures.says in
    let sent = rw c.as_slice.ensures at c.in-Ok.ensures.ok in
    says_one says _ _ c.requires.caused c.requires.open sent

pub returns-in-Ok-clause-fewer : goal.returns-in-Ok-clause-fewer
returns-in-Ok-clause-fewer g c is_more =
    fewer_words (rw c.in-Ok-Some.field-0-is at c.in-Ok-Some.ensures.says)

pub returns-in-Ok-Some-clause-silent : goal.returns-in-Ok-Some-clause-silent
returns-in-Ok-Some-clause-silent g c is_last =
    let says = rw c.in-Ok-Some.field-0-is at c.in-Ok-Some.ensures.says in
    let failed = rw c.as_slice.ensures at c.in-Err-send.ensures.err in
    falls_silent says _ _ c.requires.caused failed

pub returns-in-Ok-None-clause-silent : goal.returns-in-Ok-None-clause-silent
returns-in-Ok-None-clause-silent g c is_last = none_left _ _ _ _ c.requires.caused (rw c.in-Ok-None.field-0-is at c.in-Ok-None.ensures.none)

pub returns-clause-err : goal.returns-clause-err
returns-clause-err g c = forgets _ _ _
