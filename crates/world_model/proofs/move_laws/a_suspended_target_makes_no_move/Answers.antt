use Rattle.world_model.proofs.MoveLaws.{ended_stays, held_stays}
use Rattle.world_model.proofs.move_laws.a_suspended_target_makes_no_move.Goals as goal

pub returns-clause-ended : goal.returns-clause-ended
returns-clause-ended c = ended_stays

pub returns-clause-held : goal.returns-clause-held
returns-clause-held c = held_stays
