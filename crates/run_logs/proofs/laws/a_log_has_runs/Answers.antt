use Rattle.run_logs.proofs.RunLaws.{runs_there}
use Rattle.run_logs.proofs.laws.a_log_has_runs.Goals as goal

pub returns : goal.returns
returns c = λ entries few. runs_there entries few
