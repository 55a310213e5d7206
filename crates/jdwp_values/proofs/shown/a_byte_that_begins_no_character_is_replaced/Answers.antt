use Rattle.jdwp_values.proofs.LossyLaws.{replaces}
use Rattle.jdwp_values.proofs.shown.a_byte_that_begins_no_character_is_replaced.Goals as goal

pub returns : goal.returns
returns c = replaces
