use Rattle.world_model.proofs.KeptLaws.{replies_of_dead, dead_stays}
use Rattle.world_model.proofs.laws.a_target_that_has_ended_says_so.Goals as goal

pub returns-clause-asked : goal.returns-clause-asked
returns-clause-asked c = replies_of_dead

pub returns-clause-told : goal.returns-clause-told
returns-clause-told c = dead_stays
