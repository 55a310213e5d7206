-- What is noted of a request is what its response sets.
use Rattle.machine_laws.proofs.SettingLaws.{are_set}
use Rattle.machine_laws.proofs.laws.breakpoints_are_those_that_the_client_set_last.Goals as goal

pub returns : goal.returns
returns c = are_set
