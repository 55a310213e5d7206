use Rattle.world_model.proofs.MoveLaws.{suspends_so}
use Rattle.world_model.proofs.move_laws.a_move_suspends_as_its_events_say.Goals as goal

pub returns : goal.returns
returns c = λ w now next told h. suspends_so w now next told h
