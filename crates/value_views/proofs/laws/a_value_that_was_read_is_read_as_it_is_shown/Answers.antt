use Rattle.value_views.proofs.ReadAgain.{read_again}
use Rattle.value_views.proofs.laws.a_value_that_was_read_is_read_as_it_is_shown.Goals as goal

pub returns : goal.returns
returns c = read_again
