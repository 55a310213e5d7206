use Rattle.std.proofs.Common.{Err}
use Rattle.run_outcomes.specs.FileRuns.{ReadsText}
use Rattle.run_outcomes.proofs.file_runs.read_text.Goals as goal

pub returns-in-Ok : goal.returns-in-Ok
returns-in-Ok g c = ReadsText.is_read (record {
  asks = c.in-Ok.ensures.asks;
  files = c.in-Ok.ensures.files;
  reads = c.in-Ok.ensures.reads;
})

pub returns-in-Err-Failed : goal.returns-in-Err-Failed
returns-in-Err-Failed g c = ReadsText.is_not_read (record {
  asks = c.in-Err-Failed.ensures.asks;
  files = c.in-Err-Failed.ensures.files;
  reads = rw c.in-Err-Failed.field-0-is at c.in-Err-Failed.ensures.reads;
})

pub returns-in-Err-TooLong : goal.returns-in-Err-TooLong
returns-in-Err-TooLong g c = ReadsText.is_too_long (record {
  asks = c.in-Err-TooLong.ensures.asks;
  files = c.in-Err-TooLong.ensures.files;
  reads = rw c.in-Err-TooLong.field-0-is at c.in-Err-TooLong.ensures.reads;
})

pub returns-in-Err-NoMemory : goal.returns-in-Err-NoMemory
returns-in-Err-NoMemory g c = ReadsText.forgets {answer = Err c.in-Err-NoMemory.field-0} (record {
  asks = c.in-Err-NoMemory.ensures.asks;
  files = c.in-Err-NoMemory.ensures.files;
  reads = c.in-Err-NoMemory.ensures.reads;
})
