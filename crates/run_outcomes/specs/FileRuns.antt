-- Runs that read a file, serve a session of what it says, and print the log of that session.
use Rattle.std.specs.Prelude.{ℕ, ◌≡◌, List, [], Some, Result, Ok, Err}
use Rattle.run_logs.specs.Runs.{entries_of}
use Rattle.run_logs.specs.declared.run.Run.{Run}
use Rattle.run_outcomes.specs.Lines.{status_of_ending}
use Rattle.run_outcomes.specs.declared.printing.Outcome.{Outcome}
use Rattle.run_outcomes.specs.declared.printing.Outcome.TheVariants.{NotUsed, TooLong, BadLine, Logged, Ended}
use Rattle.script_text.specs.Texts.{log_text}
use Rattle.script_text.specs.declared.log.ScriptFault.{ScriptFault}
use Rattle.script_text.specs.declared.log.ScriptTrouble.{ScriptTrouble}
use Rattle.script_text.specs.declared.log.ScriptTrouble.TheVariants.{At, NoMemory as no_memory}
use Rattle.script_text.specs.declared.log.SessionLog.{SessionLog}
use Rattle.session_model.specs.Session.{IsSession}
use Rattle.session_endings.specs.declared.ending.Ending.{Ending}
use Rattle.session_endings.specs.declared.ending.Ending.TheVariants.{NoMemory}
use Rattle.session_endings.specs.declared.ending.Limits.{Limits}
use Rattle.wire_core.specs.Files.{Asks, Reads, Store}
use Rattle.wire_core.specs.Outside.{Outside}
use Rattle.wire_core.specs.declared.files.FileRefusal.{FileRefusal}
use Rattle.wire_core.specs.declared.files.FileRefusal.TheVariants.{Failed, TooLong as too_long_file}
use Rattle.wire_core.specs.declared.memory.NoMemory.{NoMemory as Refused}

-- the limits of a session that serves an editor
abbrev pub usual_limits : Limits
usual_limits = record { turns = 1099511627776; quiet = 43200000; waiting = 65536 }

-- the limits of a log
abbrev pub limits_of : SessionLog → Limits
limits_of log = record { turns = log.turns; quiet = log.quiet; waiting = log.waiting }

-- the bytes that a file may have at most
abbrev pub most_bytes : ℕ
most_bytes = 67108864

-- the file of this name was asked for, and no other; this was answered; and the files stay
pub record IsRead (old new : Store) (name : List ℕ) (answer : Result (List ℕ) FileRefusal) : Type 0 where
  pub asks : Asks old new name
  pub files : new.files ≡ old.files
  pub reads : Reads old new name most_bytes answer

-- the text of a file, or the outcome of a run that has none
pub data ReadsText (name : List ℕ) (old new : Store) : Result (List ℕ) Outcome → Type 0 where
  is_read : {text : List ℕ} → IsRead old new name (Ok text) → ReadsText name old new (Ok text)
  is_not_read : IsRead old new name (Err Failed) → ReadsText name old new (Err NotUsed)
  is_too_long : IsRead old new name (Err too_long_file) → ReadsText name old new (Err TooLong)
  forgets : {answer : Result (List ℕ) FileRefusal} → IsRead old new name answer
      → ReadsText name old new (Err (Ended NoMemory))

-- the outcome of a text that has a faulty line, or that memory ran out for
abbrev pub troubled : ScriptTrouble → Outcome
troubled (At line kind) = BadLine line kind
troubled no_memory = Ended NoMemory

-- A session was served over wires whose log was empty. This is their log, with the limits of the session and the status
-- of its ending, which was not want of memory.
pub record IsLogged (log : SessionLog) : Type 0 where
  pub old : Outside
  pub new : Outside
  pub ending : Ending
  pub session : IsSession old new (limits_of log) ending
  pub nothing_before : old.log ≡ Some []
  pub whole_log : new.log ≡ Some (entries_of log.runs)
  pub ending_told : log.ending ≡ Some (status_of_ending ending)
  pub remembers : ¬ (ending ≡ NoMemory)

-- a log of these runs, with these limits and the status of this ending, which is not want of memory
pub record KeepsLog (limits : Limits) (ending : Ending) (runs : List Run) (log : SessionLog) : Type 0 where
  pub limits_are : limits_of log ≡ limits
  pub runs_are : log.runs ≡ runs
  pub ending_told : log.ending ≡ Some (status_of_ending ending)
  pub remembers : ¬ (ending ≡ NoMemory)

-- the outcome of a run that made a log, or found no memory for it
pub data ShowsLog : Result SessionLog Refused → Outcome → Type 0 where
  shows : {log : SessionLog} → ShowsLog (Ok log) (Logged (log_text log))
  forgets : {made : Result SessionLog Refused} → ShowsLog made (Ended NoMemory)

-- a log that is such a one is printed, or memory ran out
pub data IsPrinted (IsSuch : SessionLog → Type 0) : Outcome → Type 0 where
  printed : {log : SessionLog} → IsSuch log → IsPrinted IsSuch (Logged (log_text log))
  forgotten : IsPrinted IsSuch (Ended NoMemory)

-- What becomes of a file that is read in this way: it has no text; the text has a faulty line; or what the text is has a
-- log, which is printed. Want of memory may come at any time.
pub data OfFile {A : Type 0} (reading : List ℕ → Result A ScriptTrouble) (IsSuch : A → SessionLog → Type 0)
    (name : List ℕ) (old new : Store) : Outcome → Type 0 where
  has_no_text : {outcome : Outcome} → ReadsText name old new (Err outcome) → OfFile reading IsSuch name old new outcome
  is_bad : {text : List ℕ} {line : ℕ} {kind : ScriptFault} → IsRead old new name (Ok text)
      → reading text ≡ Err (At line kind) → OfFile reading IsSuch name old new (BadLine line kind)
  forgets_text : {text : List ℕ} → IsRead old new name (Ok text) → OfFile reading IsSuch name old new (Ended NoMemory)
  has_log : {text : List ℕ} {a : A} {outcome : Outcome} → IsRead old new name (Ok text) → reading text ≡ Ok a
      → IsPrinted (IsSuch a) outcome → OfFile reading IsSuch name old new outcome
