use Rattle.dump_client.proofs.PhaseLaws.{begins, goes_on, paused}
use Rattle.dump_client.proofs.laws.values_are_asked_for_in_a_pause.Goals as goal

pub returns-clause-begins : goal.returns-clause-begins
returns-clause-begins c = begins

pub returns-clause-paused : goal.returns-clause-paused
returns-clause-paused c = paused

pub returns-clause-goes_on : goal.returns-clause-goes_on
returns-clause-goes_on c = goes_on
