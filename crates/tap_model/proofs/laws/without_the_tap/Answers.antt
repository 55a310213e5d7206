use Rattle.tap_model.proofs.TheirLaws.{are_theirs}
use Rattle.tap_model.proofs.laws.without_the_tap.Goals as goal

pub returns : goal.returns
returns c = λ limits asks log messages turns s t. are_theirs t
