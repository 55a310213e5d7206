use Rattle.clean_sessions.proofs.EndingLaws.{ends_well, status_well}
use Rattle.clean_sessions.proofs.laws.a_clean_session_is_done.Goals as goal

pub returns-clause-ending : goal.returns-clause-ending
returns-clause-ending c = λ limits log messages turns ending left clean. ends_well left clean

pub returns-clause-status : goal.returns-clause-status
returns-clause-status c = λ limits log messages turns ending left clean. status_well (ends_well left clean)
