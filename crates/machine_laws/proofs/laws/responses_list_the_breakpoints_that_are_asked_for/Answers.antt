-- A request lists what its row was made of, and only what was listed can be installed.
use Rattle.machine_laws.proofs.ListingLaws.{lists_asked}
use Rattle.machine_laws.proofs.laws.responses_list_the_breakpoints_that_are_asked_for.Goals as goal

pub returns : goal.returns
returns c = lists_asked
