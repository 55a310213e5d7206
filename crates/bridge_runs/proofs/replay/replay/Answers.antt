use Rattle.run_outcomes.specs.FileRuns.{OfFile}
use Rattle.run_outcomes.proofs.FileLaws.{printed_of, read_usable, text_read, troubled_file}
use Rattle.bridge_runs.proofs.replay.replay.Goals as goal

pub returns-in-Ok-read_log : goal.returns-in-Ok-read_log
returns-in-Ok-read_log g c =
    OfFile.has_log (text_read _ _ _ _ c.in-Ok.ensures) (rw c.as_slice.ensures at c.in-Ok-read_log.ensures)
    (printed_of _ _ _ c.served_again.ensures c.show.ensures)

pub returns-in-Ok : goal.returns-in-Ok
returns-in-Ok g c =
    rw c.troubled.ensures (troubled_file _ _ _ _ _ _ _ (text_read _ _ _ _ c.in-Ok.ensures)
    (rw c.as_slice.ensures at c.in-Err-read_log.ensures))

pub returns : goal.returns
returns g c = OfFile.has_no_text c.in-Err.ensures

-- a log that was read has limits that a session can be served under
pub served_again-requires : goal.served_again-requires
served_again-requires g c = read_usable _ _ c.in-Ok-read_log.ensures
