use Rattle.tap_model.proofs.GreetLaws.{are_greeted}
use Rattle.tap_model.proofs.laws.each_side_is_greeted_first.Goals as goal

pub returns : goal.returns
returns c = λ limits asks log messages turns s t. are_greeted t
