use Rattle.judged_worlds.proofs.HitLaws.{judges_hits}
use Rattle.judged_worlds.proofs.laws.what_hits_come_to_is_so_in_the_world.Goals as goal

pub returns : goal.returns
returns c = judges_hits
