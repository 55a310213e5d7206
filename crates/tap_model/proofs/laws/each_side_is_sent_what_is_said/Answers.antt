use Rattle.tap_model.proofs.OwnLaws.{are_sent}
use Rattle.tap_model.proofs.laws.each_side_is_sent_what_is_said.Goals as goal

pub returns : goal.returns
returns c = λ limits asks log messages turns s t. are_sent t
