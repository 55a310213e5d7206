use Rattle.bridge_runs.proofs.ScriptLaws.{generated_limits}
use Rattle.bridge_runs.proofs.generate.served_number.Goals as goal

pub served_of-requires : goal.served_of-requires
served_of-requires c = generated_limits _ _ c.in_ok-script.ensures

pub returns : goal.returns
returns c = rw c.in_ok-script.ensures at c.served_of.ensures
