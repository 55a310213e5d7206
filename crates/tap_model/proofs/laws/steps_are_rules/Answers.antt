use Rattle.tap_model.proofs.RuleLaws.{step_by}
use Rattle.tap_model.proofs.laws.steps_are_rules.Goals as goal

pub returns : goal.returns
returns c = λ asks s. step_by asks s
