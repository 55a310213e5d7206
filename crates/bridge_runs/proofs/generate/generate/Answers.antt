use Rattle.bridge_runs.specs.Command.{Generates}
use Rattle.bridge_runs.proofs.generate.generate.Goals as goal

pub returns-in-Ok : goal.returns-in-Ok
returns-in-Ok g c = Generates.generates c.in-Ok.ensures c.keep.ensures

pub returns-in-Err : goal.returns-in-Err
returns-in-Err g c = Generates.forgets
