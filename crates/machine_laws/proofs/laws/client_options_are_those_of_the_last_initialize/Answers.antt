use Rattle.machine_laws.proofs.NotingLaws.{are_noted}
use Rattle.machine_laws.proofs.laws.client_options_are_those_of_the_last_initialize.Goals as goal

pub returns : goal.returns
returns c = are_noted
