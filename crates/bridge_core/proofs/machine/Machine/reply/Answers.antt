use Rattle.std.proofs.Common.{sym, ap, ◌∙◌}
use Rattle.machine_model.specs.State.{Machine, is_gone}
use Rattle.bridge_core.proofs.TalkLaws.{replies_effect, replies_question}
use Rattle.bridge_core.proofs.machine.Machine.reply.Goals as goal

pub returns-in-Question : goal.returns-in-Question
returns-in-Question c =
    replies_question c.answer.result c.args.self.now c.answer.new.self c.args.place c.args.asked
    c.in-Question.question c.args.replied (ap (λ (m : Machine). is_gone m.state.phase) (sym c.self.view_is)
    ∙ sym c.if-is_gone.ensures) c.in-Question.is c.answer.ensures

pub returns : goal.returns
returns c =
    replies_effect c.done.result c.args.self.now c.done.new.self c.args.place c.args.asked c.in-Effect.field-0
    c.args.replied (ap (λ (m : Machine). is_gone m.state.phase) (sym c.self.view_is) ∙ sym c.if-is_gone.ensures)
    c.in-Effect.is (λ hand of flight. c.done.ensures hand of flight)
