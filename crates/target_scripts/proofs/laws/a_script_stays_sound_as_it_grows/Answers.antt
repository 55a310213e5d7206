use Rattle.target_scripts.proofs.SoundLaws.{begun_sound, grown_sound}
use Rattle.target_scripts.proofs.laws.a_script_stays_sound_as_it_grows.Goals as goal

pub returns-clause-begun : goal.returns-clause-begun
returns-clause-begun c = begun_sound

pub returns-clause-grown : goal.returns-clause-grown
returns-clause-grown c = grown_sound
