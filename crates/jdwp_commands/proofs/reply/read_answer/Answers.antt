use Rattle.std.proofs.Common.{◌≡◌, ap, subst, ◌∙◌, arith}
use Rattle.jdwp_commands.specs.Answers.{answer_at, spell_answer, IsAnswerTo}
use Rattle.jdwp_commands.specs.Bodies.{IsRead}
use Rattle.jdwp_commands.proofs.AnswerLaws.{answer_takes, answer_is_read}
use Rattle.jdwp_commands.proofs.BodyLaws.{of_read}
use Rattle.jdwp_commands.proofs.reply.read_answer.Goals as goal

pub returns-clause-found : goal.returns-clause-found
returns-clause-found c =
    of_read (λ a. IsAnswerTo c.args.sizes c.args.asked.now a × (c.args.body.now ≡ spell_answer c.args.sizes a))
    (answer_at c.args.sizes c.args.asked.now c.args.body.now) c.read.result
    (λ a e. let t = answer_takes c.args.sizes c.args.asked.now c.args.body.now a (λ i. omega (arith, c.type_inv.body i))
    e in (t.answers, t.spelled)) c.read.ensures

pub returns-clause-only : goal.returns-clause-only
returns-clause-only c =
    λ a answers range e. subst (λ f. IsRead f c.read.result)
    (ap (answer_at c.args.sizes c.args.asked.now) e ∙ answer_is_read c.args.sizes c.args.asked.now a answers range)
    c.read.ensures
