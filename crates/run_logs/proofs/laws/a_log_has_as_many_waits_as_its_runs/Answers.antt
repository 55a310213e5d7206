use Rattle.run_logs.proofs.RunLaws.{quiets_counted}
use Rattle.run_logs.proofs.laws.a_log_has_as_many_waits_as_its_runs.Goals as goal

pub returns : goal.returns
returns c = λ runs are. quiets_counted runs are.each
