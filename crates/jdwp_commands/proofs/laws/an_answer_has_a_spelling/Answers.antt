use Rattle.jdwp_commands.specs.Answers.{limit_of}
use Rattle.jdwp_commands.proofs.AnswerLaws.{fits_same}
use Rattle.jdwp_commands.proofs.laws.an_answer_has_a_spelling.Goals as goal

pub returns : goal.returns
returns c = λ sizes asked answer answers. fits_same (limit_of asked) sizes answer answers.fits
