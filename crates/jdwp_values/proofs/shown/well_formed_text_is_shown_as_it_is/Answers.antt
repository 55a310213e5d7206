use Rattle.jdwp_values.proofs.LossyLaws.{itself, shows}
use Rattle.jdwp_values.proofs.shown.well_formed_text_is_shown_as_it_is.Goals as goal

pub returns-clause-alone : goal.returns-clause-alone
returns-clause-alone c = itself

pub returns-clause-in_front : goal.returns-clause-in_front
returns-clause-in_front c = shows
