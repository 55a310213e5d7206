use Rattle.shown_worlds.proofs.ThreadLaws.{shows_threads}
use Rattle.shown_worlds.proofs.laws.threads_are_those_of_the_world.Goals as goal

pub returns : goal.returns
returns c = shows_threads
