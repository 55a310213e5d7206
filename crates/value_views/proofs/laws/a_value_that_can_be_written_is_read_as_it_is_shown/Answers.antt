use Rattle.value_views.proofs.ReadAgain.{shown_read}
use Rattle.value_views.proofs.laws.a_value_that_can_be_written_is_read_as_it_is_shown.Goals as goal

pub returns : goal.returns
returns c = shown_read
