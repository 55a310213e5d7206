use Rattle.script_worlds.proofs.GrowingLaws.{whole_is_sound}
use Rattle.script_worlds.proofs.laws.a_world_whose_chains_end_is_sound.Goals as goal

pub returns : goal.returns
returns c = whole_is_sound
