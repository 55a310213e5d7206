use Rattle.tap_model.proofs.FitLaws.{fits, is_so}
use Rattle.tap_model.proofs.laws.fit_questions_have_a_spelling.Goals as goal

pub returns : goal.returns
returns c = λ sizes question. (fits sizes question, is_so sizes question)
