use Rattle.tap_model.proofs.EndLaws.{are_causes}
use Rattle.tap_model.proofs.laws.endings_have_their_causes.Goals as goal

pub returns : goal.returns
returns c = λ limits asks turns s. are_causes limits asks turns s
