-- A session that is recorded: what it does over the wires, and what becomes of the file of its log.
use Rattle.std.specs.Prelude.{ℕ, ◌≡◌, List, Some}
use Rattle.bridge_runs.specs.Writing.{IsWritten}
use Rattle.bridge_serve.specs.Serving.{Keeps}
use Rattle.command_words.specs.declared.words.Addresses.{Addresses}
use Rattle.recorded_sessions.specs.Records.{IsRecord}
use Rattle.recorded_sessions.specs.declared.recording.Recorded.{Recorded}
use Rattle.run_outcomes.specs.FileRuns.{limits_of, usual_limits}
use Rattle.run_outcomes.specs.Lines.{status_of_ending}
use Rattle.run_outcomes.specs.declared.printing.Outcome.{Outcome}
use Rattle.run_outcomes.specs.declared.printing.Outcome.TheVariants.{Ended, NotOpened}
use Rattle.script_text.specs.Texts.{log_text}
use Rattle.script_text.specs.declared.log.SessionLog.{SessionLog}
use Rattle.session_endings.specs.declared.ending.Ending.TheVariants.{NoMemory}
use Rattle.wire_core.specs.Files.{Store}
use Rattle.wire_core.specs.Outside.{Connects, FailsToConnect, Outside}

-- the log of what was recorded under the standard limits
pub record IsLogOf (r : Recorded) (log : SessionLog) : Type 0 where
  pub limits_are : limits_of log ≡ usual_limits
  pub runs_are : log.runs ≡ r.runs
  pub ending_told : log.ending ≡ Some (status_of_ending r.ending)

-- the log of what was recorded is written, or there is no memory for its text
pub data IsKeptIn (name : List ℕ) (r : Recorded) (old : Store) : Store → Outcome → Type 0 where
  is_kept : {log : SessionLog} {new : Store} {outcome : Outcome} → IsLogOf r log
      → IsWritten (Ended r.ending) name (log_text log) old new outcome → IsKeptIn name r old new outcome
  forgets : IsKeptIn name r old old (Ended NoMemory)

-- The links are not opened; or a session is served over wires that were opened under these addresses, and what was recorded
-- of it is kept under this name. Where memory runs out the files stay.
pub data Records (addresses : Addresses) (name : List ℕ) (old new : Outside) (s : Store) : Store → Outcome → Type 0 where
  fails_to_open : FailsToConnect old new addresses.listen addresses.target → Records addresses name old new s s NotOpened
  forgets : {opened : Outside} → Connects old opened addresses.listen addresses.target
      → Keeps usual_limits.turns opened new → Records addresses name old new s s (Ended NoMemory)
  records : {opened : Outside} {r : Recorded} {s' : Store} {outcome : Outcome}
      → Connects old opened addresses.listen addresses.target → Keeps usual_limits.turns opened new
      → IsRecord usual_limits opened new r → IsKeptIn name r s s' outcome → Records addresses name old new s s' outcome
