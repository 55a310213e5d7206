use Rattle.target_server.proofs.JointLaws.{goes_sound}
use Rattle.target_server.proofs.laws.a_sound_target_stays_sound.Goals as goal

pub returns : goal.returns
returns c = λ old new goes sound. goes_sound old new goes sound
