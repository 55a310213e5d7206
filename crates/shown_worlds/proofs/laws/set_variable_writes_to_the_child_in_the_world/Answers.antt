use Rattle.shown_worlds.proofs.WriteLaws.{shows_writes}
use Rattle.shown_worlds.proofs.laws.set_variable_writes_to_the_child_in_the_world.Goals as goal

pub returns : goal.returns
returns c = shows_writes
