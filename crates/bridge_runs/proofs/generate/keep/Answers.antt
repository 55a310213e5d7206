use Rattle.bridge_runs.specs.Command.{IsSummedUp}
use Rattle.bridge_runs.proofs.generate.keep.Goals as goal

pub returns-in-Ok-print_log : goal.returns-in-Ok-print_log
returns-in-Ok-print_log g c =
    IsSummedUp.is_kept (rw c.in-Ok.ensures at (rw c.in-Ok-print_log.ensures at (rw c.as_slice.ensures at c.write.ensures)))

pub returns-in-Ok : goal.returns-in-Ok
returns-in-Ok g c = IsSummedUp.forgets

pub returns : goal.returns
returns g c = IsSummedUp.forgets
