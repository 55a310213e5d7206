use Rattle.jdwp_commands.proofs.AnswerLaws.{answer_is_read, answer_takes}
use Rattle.jdwp_commands.proofs.laws.answers_are_read_as_they_are_spelled.Goals as goal

pub returns-clause-found : goal.returns-clause-found
returns-clause-found c =
    λ sizes asked body answer bytes is. let t = answer_takes sizes asked body answer bytes is in (t.answers, t.spelled)

pub returns-clause-back : goal.returns-clause-back
returns-clause-back c = λ sizes asked answer answers range. answer_is_read sizes asked answer answers range
