use Rattle.world_model.proofs.KeptLaws.{programs}
use Rattle.world_model.proofs.laws.the_program_stays.Goals as goal

pub returns : goal.returns
returns c = λ w now effect replied h. programs w effect now replied h
