use Rattle.run_logs.proofs.RunLaws.{runs_are_one}
use Rattle.run_logs.proofs.laws.runs_of_a_log_are_one.Goals as goal

pub returns : goal.returns
returns c = λ a b e p q. runs_are_one a b e p q
