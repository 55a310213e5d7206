use Rattle.world_model.proofs.ListedLaws.{listed}
use Rattle.world_model.proofs.laws.a_listed_class_has_the_signature_that_is_listed.Goals as goal

pub returns : goal.returns
returns c = λ w s alive. listed w s alive
