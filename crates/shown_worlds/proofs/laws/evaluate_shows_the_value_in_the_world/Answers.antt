use Rattle.shown_worlds.proofs.ExpressionLaws.{shows_values}
use Rattle.shown_worlds.proofs.laws.evaluate_shows_the_value_in_the_world.Goals as goal

pub returns : goal.returns
returns c = shows_values
