use Rattle.std.proofs.Common.{Some, option_map, sym, ap, ◌∙◌}
use Rattle.jdwp_commands.specs.declared.answer.Answer.TheVariants as answers
use Rattle.jdwp_commands.specs.declared.question.Question.TheVariants as questions
use Rattle.machine_model.specs.Facts.{above_in, fact_of}
use Rattle.machine_model.specs.Plans.{answer_in, has}
use Rattle.look_ups.specs.Needs.{need_with, seen_by}
use Rattle.look_ups.proofs.NeedLaws.{fact_asked}
use Rattle.look_ups.proofs.classes.above_need.Goals as goal

pub returns-in-Has : goal.returns-in-Has
returns-in-Has c =
    ap has c.above_in.ensures
    ∙ fact_asked (seen_by c.args.sight) (questions.Superclass c.args.class) above_in
    (fact_of (questions.Superclass c.args.class) (answer_in c.in-Has.replied.now))
    (ap (option_map (λ above. Some (answers.Superclass above))) (sym c.known_above.ensures ∙ c.in_default.is))
    (ap (need_with (λ replied. fact_of (questions.Superclass c.args.class) (answer_in replied.now))) (sym c.in-Has.is)
    ∙ c.in_ok-replied.ensures)
