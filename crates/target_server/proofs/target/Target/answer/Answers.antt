use Rattle.std.proofs.Common.{ap, subst, sym, ◌∙◌}
use Rattle.target_server.specs.Hearing.{TargetState, Answers}
use Rattle.target_server.proofs.Feeding.{on_ok}
use Rattle.target_server.proofs.target.Target.answer.Goals as goal

pub returns-then-is_greeted : goal.returns-then-is_greeted
returns-then-is_greeted c =
    Answers.is_greeted (ap (λ (t : TargetState). t.joint.flight.greeted) (sym c.self.view_is)
    ∙ sym c.if-is_greeted.ensures)

pub returns-then-not-is_greeted : goal.returns-then-not-is_greeted
returns-then-not-is_greeted c =
    Answers.waits_on (ap (λ (t : TargetState). t.heard.greeted) (sym c.self.view_is)
    ∙ sym c.if-not-is_greeted.ensures)

pub returns : goal.returns
returns c =
    on_ok c.greet.result
    (λ greets. subst (λ (t : TargetState). Answers t (record {
      joint = c.greet.new.self;
      heard = c.self.inside.cutter;
      trouble = c.self.inside.trouble;
    })) c.self.view_is (Answers.greets (sym c.if-not-is_greeted.ensures) greets))
    c.greet.ensures
