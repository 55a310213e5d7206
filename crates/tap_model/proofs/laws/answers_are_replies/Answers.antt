use Rattle.tap_model.proofs.QuestionLaws.{are_replies}
use Rattle.tap_model.proofs.laws.answers_are_replies.Goals as goal

pub returns : goal.returns
returns c = λ limits asks log messages turns s t. are_replies t
