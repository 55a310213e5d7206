-- What becomes of a file that is read.
use Rattle.std.proofs.Common.{◌≡◌, ◌∙◌, ℕ, List, [], Some, Result, Ok, Err, IfOk, ap, subst, sym}
use Rattle.run_logs.specs.Runs.{entries_of}
use Rattle.run_logs.specs.declared.run.Run.{Run}
use Rattle.script_text.specs.Orderly.{IsOrderly}
use Rattle.script_text.specs.Reading.{IsRead as IsTextRead, reading_of}
use Rattle.script_text.proofs.OrderLaws.{keeps_order}
use Rattle.script_text.specs.declared.log.ScriptTrouble.{ScriptTrouble}
use Rattle.script_text.specs.declared.log.ScriptTrouble.TheVariants.{At, NoMemory}
use Rattle.script_text.specs.declared.log.SessionLog.{SessionLog}
use Rattle.session_model.specs.Session.{IsSession}
use Rattle.session_endings.specs.Limits.{AreLimits}
use Rattle.session_endings.specs.declared.ending.Ending.{Ending}
use Rattle.session_endings.specs.declared.ending.Limits.{Limits}
use Rattle.wire_core.specs.Files.{Store}
use Rattle.wire_core.specs.Outside.{Outside}
use Rattle.wire_core.specs.declared.memory.NoMemory.{NoMemory as Refused}
use Rattle.run_outcomes.specs.FileRuns.{IsLogged, IsPrinted, IsRead, KeepsLog, OfFile, ReadsText, ShowsLog}
use Rattle.run_outcomes.specs.FileRuns.{limits_of, troubled}
use Rattle.run_outcomes.specs.declared.printing.Outcome.{Outcome}

-- a file that has a text was read
pub text_read : (name text : List ℕ) (old new : Store) → ReadsText name old new (Ok text) → IsRead old new name (Ok text)
text_read name text old new (ReadsText.is_read read) = read

-- the log that was made is printed, or memory ran out
pub printed_of : (IsSuch : SessionLog → Type 0) (made : Result SessionLog Refused) (outcome : Outcome)
    → IfOk made IsSuch → ShowsLog made outcome → IsPrinted IsSuch outcome
printed_of IsSuch (Ok log) outcome such ShowsLog.shows = IsPrinted.printed such
printed_of IsSuch made outcome such ShowsLog.forgets = IsPrinted.forgotten

-- the text is not read as what it should be
pub troubled_file : {A : Type 0} (reading : List ℕ → Result A ScriptTrouble) (IsSuch : A → SessionLog → Type 0)
    (name text : List ℕ) (old new : Store) (trouble : ScriptTrouble) → IsRead old new name (Ok text)
    → IsTextRead (Err trouble) (reading text) → OfFile reading IsSuch name old new (troubled trouble)
troubled_file reading IsSuch name text old new (At line kind) read is = OfFile.is_bad read is
troubled_file reading IsSuch name text old new NoMemory read is = OfFile.forgets_text read

-- the log that is kept of a session is one of it
pub logged_of : (old new : Outside) (limits : Limits) (ending : Ending) (runs : List Run) (log : SessionLog)
    → IsSession old new limits ending → old.log ≡ Some [] → new.log ≡ Some (entries_of runs)
    → KeepsLog limits ending runs log → IsLogged log
logged_of old new limits ending runs log session before whole kept = record {
  old = old;
  new = new;
  ending = ending;
  session = subst (λ (l : Limits). IsSession old new l ending) (sym kept.limits_are) session;
  nothing_before = before;
  whole_log = whole ∙ ap (λ (rs : List Run). Some (entries_of rs)) (sym kept.runs_are);
  ending_told = kept.ending_told;
  remembers = kept.remembers;
}

-- the limits of a log that keeps the order are ones that a session can be run with
pub limits_usable : (log : SessionLog) → IsOrderly log → AreLimits (limits_of log)
limits_usable log orderly = record {
  some_turns = orderly.limits.turns_are.some;
  few_turns = orderly.limits.turns_are.most;
  some_quiet = orderly.limits.quiet_is.some;
  some_waiting = orderly.limits.waiting_is.some;
}

-- so are those of a log that was read
pub read_usable : (text : List ℕ) (log : SessionLog) → reading_of text ≡ Ok log → AreLimits (limits_of log)
read_usable text log is = limits_usable log (keeps_order text log is)
