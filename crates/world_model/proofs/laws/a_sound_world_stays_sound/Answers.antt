use Rattle.world_model.proofs.SoundLaws.{sound}
use Rattle.world_model.proofs.laws.a_sound_world_stays_sound.Goals as goal

pub returns : goal.returns
returns c = λ w now effect replied s h. sound w effect s now replied h
