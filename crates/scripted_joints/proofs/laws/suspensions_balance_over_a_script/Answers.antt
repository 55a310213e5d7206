use Rattle.scripted_joints.proofs.SessionLaws.{session_balances}
use Rattle.scripted_joints.proofs.laws.suspensions_balance_over_a_script.Goals as goal

pub returns : goal.returns
returns c = session_balances
