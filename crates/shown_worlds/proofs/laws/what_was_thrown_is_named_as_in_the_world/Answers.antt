use Rattle.shown_worlds.proofs.ThreadLaws.{shows_thrown}
use Rattle.shown_worlds.proofs.laws.what_was_thrown_is_named_as_in_the_world.Goals as goal

pub returns : goal.returns
returns c = shows_thrown
