use Rattle.joint_model.proofs.BalanceLaws.{balances}
use Rattle.joint_model.proofs.laws.suspensions_balance.Goals as goal

pub returns : goal.returns
returns c = balances
