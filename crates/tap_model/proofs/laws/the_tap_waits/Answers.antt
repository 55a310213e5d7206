use Rattle.tap_model.proofs.QuestionLaws.{is_quiet}
use Rattle.tap_model.proofs.laws.the_tap_waits.Goals as goal

pub returns : goal.returns
returns c = λ limits asks log messages turns s t. is_quiet t
