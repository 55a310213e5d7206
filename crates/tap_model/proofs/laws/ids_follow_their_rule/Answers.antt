use Rattle.tap_model.proofs.OwnLaws.{are_numbered}
use Rattle.tap_model.proofs.laws.ids_follow_their_rule.Goals as goal

pub returns : goal.returns
returns c = λ limits asks log messages turns s t. are_numbered t
