use Rattle.world_model.proofs.MoveSound.{moves_sound}
use Rattle.world_model.proofs.move_laws.a_sound_world_stays_sound_as_it_moves.Goals as goal

pub returns : goal.returns
returns c = λ w now next told s h. moves_sound w now next told s h
