use Rattle.tap_model.proofs.CountLaws.{fitting_ascends}
use Rattle.tap_model.proofs.laws.fit_questions_stand_in_order.Goals as goal

pub returns : goal.returns
returns c = λ sizes asks. fitting_ascends sizes 0 asks
