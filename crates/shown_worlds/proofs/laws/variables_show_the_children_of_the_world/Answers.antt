use Rattle.shown_worlds.proofs.ChildrenLaws.{shows_children}
use Rattle.shown_worlds.proofs.laws.variables_show_the_children_of_the_world.Goals as goal

pub returns : goal.returns
returns c = shows_children
