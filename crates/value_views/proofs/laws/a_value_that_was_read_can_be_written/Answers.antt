use Rattle.value_views.proofs.ReadAgain.{read_written}
use Rattle.value_views.proofs.laws.a_value_that_was_read_can_be_written.Goals as goal

pub returns : goal.returns
returns c = read_written
