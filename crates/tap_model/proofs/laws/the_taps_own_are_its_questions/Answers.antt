use Rattle.tap_model.proofs.QuestionLaws.{are_own}
use Rattle.tap_model.proofs.laws.the_taps_own_are_its_questions.Goals as goal

pub returns : goal.returns
returns c = λ limits asks log messages turns s t. are_own t
