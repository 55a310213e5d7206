use Rattle.bridge_runs.specs.Writing.{IsWritten}
use Rattle.bridge_runs.proofs.writing.write.Goals as goal

pub returns-in-Ok : goal.returns-in-Ok
returns-in-Ok g c = IsWritten.is_written c.write.ensures.asks c.in-Ok.ensures.writes

pub returns-in-Err-NoMemory : goal.returns-in-Err-NoMemory
returns-in-Err-NoMemory g c = IsWritten.forgets c.in-Err-NoMemory.ensures.writes.0

pub returns-in-Err-Failed : goal.returns-in-Err-Failed
returns-in-Err-Failed g c =
    IsWritten.is_not_written c.write.ensures.asks
    (rw c.in-Err-Failed.field-0-is at c.in-Err-Failed.ensures.writes)
