use Rattle.run_outcomes.specs.FileRuns.{OfFile}
use Rattle.run_outcomes.proofs.FileLaws.{printed_of, text_read, troubled_file}
use Rattle.bridge_runs.proofs.ScriptLaws.{read_limits}
use Rattle.bridge_runs.proofs.script.play.Goals as goal

-- a script that was read has limits that a session can be served under
pub served_of-requires : goal.served_of-requires
served_of-requires g c = read_limits _ _ c.in-Ok-read_script.ensures

pub returns-in-Ok-read_script : goal.returns-in-Ok-read_script
returns-in-Ok-read_script g c =
    OfFile.has_log (text_read _ _ _ _ c.in-Ok.ensures) (rw c.as_slice.ensures at c.in-Ok-read_script.ensures)
    (printed_of _ _ _ c.served_of.ensures c.show.ensures)

pub returns-in-Ok : goal.returns-in-Ok
returns-in-Ok g c =
    rw c.troubled.ensures (troubled_file _ _ _ _ _ _ _ (text_read _ _ _ _ c.in-Ok.ensures)
    (rw c.as_slice.ensures at c.in-Err-read_script.ensures))

pub returns : goal.returns
returns g c = OfFile.has_no_text c.in-Err.ensures
