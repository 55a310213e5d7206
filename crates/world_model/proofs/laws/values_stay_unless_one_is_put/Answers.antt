use Rattle.world_model.proofs.KeptLaws.{values}
use Rattle.world_model.proofs.laws.values_stay_unless_one_is_put.Goals as goal

pub returns : goal.returns
returns c = λ w now effect replied h no. values w effect no now replied h
