use Rattle.std.proofs.Common.{sym, ap, ◌∙◌, ◌+◌}
use Rattle.session_facts.proofs.ThreadLaws.{numbered_at, numbered_next}
use Rattle.session_facts.proofs.threads.ThreadNumbers.number.Goals as goal

pub returns-in-None : goal.returns-in-None
returns-in-None c = rw (← c.self.view_is)
    (ap (λ n. n + 1) c.len-next.ensures.len
    ∙ sym (numbered_next c.self.inside.threads.keys c.args.thread (sym c.in-None.ensures.index)))

pub returns-in-Some : goal.returns-in-Some
returns-in-Some c = rw (← c.self.view_is)
    (sym (numbered_at c.self.inside.threads.keys c.args.thread c.in-Some.place (sym c.in-Some.ensures.index)))
