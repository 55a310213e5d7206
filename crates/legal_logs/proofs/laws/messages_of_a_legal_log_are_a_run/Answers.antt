use Rattle.legal_logs.proofs.RunLaws.{is_run, is_run_then}
use Rattle.legal_logs.proofs.laws.messages_of_a_legal_log_are_a_run.Goals as goal

pub returns-clause-going : goal.returns-clause-going
returns-clause-going c = λ limits log messages turns s reading. is_run reading

pub returns-clause-ended : goal.returns-clause-ended
returns-clause-ended c = λ limits log messages turns e ended. is_run_then ended
