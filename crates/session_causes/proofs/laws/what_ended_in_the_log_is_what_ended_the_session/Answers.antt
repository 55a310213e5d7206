use Rattle.session_causes.proofs.Outside.{failed_is_lost, shut_is_left}
use Rattle.session_causes.proofs.laws.what_ended_in_the_log_is_what_ended_the_session.Goals as goal

pub returns-clause-shut : goal.returns-clause-shut
returns-clause-shut c = λ limits log messages turns ending left has. shut_is_left left has

pub returns-clause-failed : goal.returns-clause-failed
returns-clause-failed c = λ limits log messages turns ending side left has. failed_is_lost side left has
