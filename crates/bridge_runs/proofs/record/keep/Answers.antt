use Rattle.bridge_runs.specs.Recording.{IsKeptIn}
use Rattle.bridge_runs.proofs.record.keep.Goals as goal

pub returns-in-Ok : goal.returns-in-Ok
returns-in-Ok g c =
    IsKeptIn.is_kept c.log_of-log.ensures (rw c.in-Ok.ensures at (rw c.as_slice.ensures at c.write.ensures))

pub returns-in-Err : goal.returns-in-Err
returns-in-Err g c = IsKeptIn.forgets
