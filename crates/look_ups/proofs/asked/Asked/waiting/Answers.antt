use Rattle.std.proofs.Common.{Option, Some, None, cond, sym, ap, ◌∙◌}
use Rattle.jdwp_commands.specs.declared.asked.Replied.{Replied}
use Rattle.machine_model.specs.State.{is_none}
use Rattle.look_ups.specs.Asking.{want_of}
use Rattle.look_ups.proofs.AskedLemmas.{waiting_there}
use Rattle.look_ups.proofs.asked.Asked.waiting.Goals as goal

pub returns-in-None-reply : goal.returns-in-None-reply
returns-in-None-reply c = rw (← c.self.view_is)
    (sym (waiting_there c.self.inside.entries.entries c.args.key.now c.in-Some.tried.now c.self.invariant
    (sym c.in-Some.ensures.value)
    ∙ ap (λ (reply : Option Replied).
    cond (is_none reply) (Some (want_of c.in-Some.tried.now.reason c.args.key.now)) None)
    c.in-None-reply.is))

pub returns-in-Some-reply : goal.returns-in-Some-reply
returns-in-Some-reply c = rw (← c.self.view_is)
    (sym (waiting_there c.self.inside.entries.entries c.args.key.now c.in-Some.tried.now c.self.invariant
    (sym c.in-Some.ensures.value)
    ∙ ap (λ (reply : Option Replied).
    cond (is_none reply) (Some (want_of c.in-Some.tried.now.reason c.args.key.now)) None)
    c.in-Some-reply.is))
