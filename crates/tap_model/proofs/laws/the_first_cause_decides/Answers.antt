use Rattle.tap_model.proofs.EndLaws.{is_decided}
use Rattle.tap_model.proofs.laws.the_first_cause_decides.Goals as goal

pub returns : goal.returns
returns c = λ limits asks turns s. is_decided limits asks turns s
