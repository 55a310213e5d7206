use Rattle.std.proofs.Common.{Bool, sym, ap, ◌∙◌}
use Rattle.machine_model.specs.Due.{can_read, pick}
use Rattle.machine_model.specs.State.{Machine}
use Rattle.bridge_core.proofs.TalkLaws.{begins_none, begins_some}
use Rattle.bridge_core.proofs.machine.Machine.begin.Goals as goal

pub returns-in-None : goal.returns-in-None
returns-in-None c = λ id_pending. rw (← c.self.view_is)
    (begins_none id_pending _ c.take_next.new.waiting.items
    (ap (λ (m : Machine). m.hand) c.self.view_is ∙ c.requires.none) (ap can_read c.self.view_is ∙ c.requires.read)
    (ap (λ (gone : Bool). pick gone c.self.inside.waiting.items) (sym c.is_gone.ensures) ∙ c.in-None.ensures.none)
    c.in-None.ensures.same)

pub returns-in_ok-talk-in-Some : goal.returns-in_ok-talk-in-Some
returns-in_ok-talk-in-Some c = λ id_pending. rw (← c.self.view_is)
    (begins_some id_pending _ c.in-Some.item c.take_next.new.waiting.items c.start.new.state
    c.in_ok-talk-in-Some.talk c.hold.new.hand
    (ap (λ (m : Machine). m.hand) c.self.view_is ∙ c.requires.none) (ap can_read c.self.view_is ∙ c.requires.read)
    (ap (λ (gone : Bool). pick gone c.self.inside.waiting.items) (sym c.is_gone.ensures) ∙ c.in-Some.ensures.some)
    c.in_ok-talk-in-Some.ensures.taken c.in_ok-talk-in-Some.ensures.begun c.hold.ensures)
