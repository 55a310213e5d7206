use Rattle.std.proofs.Common.{sym, ap, ◌∙◌}
use Rattle.machine_model.specs.Plans.{found_at}
use Rattle.look_ups.proofs.AskedLemmas.{found_there}
use Rattle.look_ups.proofs.asked.Asked.find.Goals as goal

pub returns-in-None-reply : goal.returns-in-None-reply
returns-in-None-reply c = rw (← c.self.view_is)
    (sym (found_there c.self.inside.entries.entries c.args.key.now c.in-Some.place c.in-Some.tried.now
    (sym c.in-Some.ensures.index) (sym c.in-Some.ensures.value) ∙ ap (found_at c.in-Some.place) c.in-None-reply.is))

pub returns-in-Some-reply : goal.returns-in-Some-reply
returns-in-Some-reply c = rw (← c.self.view_is)
    (sym (found_there c.self.inside.entries.entries c.args.key.now c.in-Some.place c.in-Some.tried.now
    (sym c.in-Some.ensures.index) (sym c.in-Some.ensures.value) ∙ ap (found_at c.in-Some.place) c.in-Some-reply.is))
