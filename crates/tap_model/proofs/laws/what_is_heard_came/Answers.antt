use Rattle.tap_model.proofs.ReadLaws.{are_read}
use Rattle.tap_model.proofs.laws.what_is_heard_came.Goals as goal

pub returns : goal.returns
returns c = λ limits asks log messages turns s t. are_read t
