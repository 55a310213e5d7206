-- A run of the program: what its words make it do, what it prints, and the status that it ends with.
use Rattle.std.specs.Prelude.{ℕ, ◌≡◌, List, length, take}
use Rattle.file_wires.specs.Course.{both_open, came, course}
use Rattle.run_logs.specs.Runs.{entries_of}
use Rattle.run_outcomes.specs.FileRuns.{IsLogged, OfFile, limits_of, usual_limits}
use Rattle.run_outcomes.specs.Lines.{Prints, status_of, text_of}
use Rattle.file_wires.specs.PlayedWires.{IsLogOf}
use Rattle.command_words.specs.Words.{AreRefused, Names}
use Rattle.run_outcomes.specs.declared.printing.Outcome.{Outcome}
use Rattle.run_outcomes.specs.declared.printing.Outcome.TheVariants.{Misused, NotOpened, Summed, Ended}
use Rattle.command_words.specs.declared.words.Addresses.{Addresses}
use Rattle.command_words.specs.declared.words.ScriptNumber.{ScriptNumber}
use Rattle.command_words.specs.declared.words.Task.TheVariants.{Serve, Script, Replay, Generate, Record, Dump}
use Rattle.bridge_runs.specs.Dumping.{Dumps}
use Rattle.bridge_runs.specs.Recording.{Records}
use Rattle.bridge_runs.specs.Writing.{IsWritten}
use Rattle.bridge_serve.specs.Serving.{Blames, Idles, Keeps}
use Rattle.generated_scripts.specs.Generated.{generated}
use Rattle.script_files.specs.Reading.{script_of}
use Rattle.script_rows.specs.declared.script.Script.{Script as TheScript}
use Rattle.script_text.specs.Reading.{reading_of}
use Rattle.script_text.specs.Texts.{log_text}
use Rattle.script_text.specs.declared.log.SessionLog.{SessionLog}
use Rattle.wire_core.specs.Files.{Store}
use Rattle.wire_core.specs.Output.{Printed}
use Rattle.wire_core.specs.Outside.{Outside, Connects, FailsToConnect}
use Rattle.wire_core.specs.declared.outside.Entry.{Entry}
use Rattle.session_model.specs.Session.{IsSession}
use Rattle.session_summaries.specs.Lines.{summary_text}
use Rattle.session_summaries.specs.Summaries.{summary_of}
use Rattle.session_endings.specs.declared.ending.Ending.{Ending}
use Rattle.session_endings.specs.declared.ending.Ending.TheVariants.{NoMemory}
use Rattle.session_endings.specs.declared.ending.Limits.{Limits}

-- a session was served over wires that were opened under these addresses
pub record Serves (addresses : Addresses) (old new : Outside) (ending : Ending) : Type 0 where
  pub opened : Outside
  pub connects : Connects old opened addresses.listen addresses.target
  pub session : IsSession opened new usual_limits ending
  pub keeps : Keeps usual_limits.turns opened new
  pub blames : Blames opened new ending
  pub idles : Idles usual_limits opened new ending

-- the log of a session that was served under these limits, over wires that gave what came in these entries, in order,
-- up to its ending
pub record IsServedUnder (limits : Limits) (entries : List Entry) (log : SessionLog) : Type 0 where
  pub logged : IsLogged log
  pub limits_are : limits_of log ≡ limits
  pub in_order : came (entries_of log.runs) ≡ take (length (came (entries_of log.runs))) (course both_open entries)

-- the log of a session that was served under the limits of this log, over wires that gave what came in it
abbrev pub IsServedAgain : SessionLog → SessionLog → Type 0
IsServedAgain told log = IsServedUnder (limits_of told) (entries_of told.runs) log

-- what becomes of the file with a session log
abbrev pub Replays : List ℕ → Store → Store → Outcome → Type 0
Replays name old new outcome = OfFile reading_of IsServedAgain name old new outcome

-- the limits of a script
abbrev pub script_limits : TheScript → Limits
script_limits script = record { turns = script.turns; quiet = script.quiet; waiting = script.waiting }

-- the log of a session that was served under these limits, over wires that play this script
pub record IsPlayedUnder (limits : Limits) (script : TheScript) (log : SessionLog) : Type 0 where
  pub logged : IsLogged log
  pub limits_are : limits_of log ≡ limits
  pub of_script : IsLogOf script (entries_of log.runs)

-- the log of a session that was served under the limits of this script, over wires that play it
abbrev pub IsServedOf : TheScript → SessionLog → Type 0
IsServedOf script log = IsPlayedUnder (script_limits script) script log

-- what becomes of the file with a script
abbrev pub Plays : List ℕ → Store → Store → Outcome → Type 0
Plays name old new outcome = OfFile script_of IsServedOf name old new outcome

-- a log is written, and the outcome has its summary; or there is no memory for the text of either, and the files stay
pub data IsSummedUp (name : List ℕ) (log : SessionLog) (old : Store) : Store → Outcome → Type 0 where
  is_kept : {new : Store} {outcome : Outcome}
      → IsWritten (Summed (summary_text (summary_of (entries_of log.runs)))) name (log_text log) old new outcome
      → IsSummedUp name log old new outcome
  forgets : IsSummedUp name log old old (Ended NoMemory)

-- The log of a session of the script of a number is kept in the file of this name, and summed up. Where memory runs out
-- the files stay.
pub data Generates (number : ℕ) (name : List ℕ) (old : Store) : Store → Outcome → Type 0 where
  generates : {log : SessionLog} {new : Store} {outcome : Outcome} → IsServedOf (generated number) log
      → IsSummedUp name log old new outcome → Generates number name old new outcome
  forgets : Generates number name old old (Ended NoMemory)

-- What the words make of the wires and the files, and the outcome: where they are refused nothing is done; else a
-- session is served, or the links are not opened; or a script is played; or a session log is replayed; or a session of
-- a number is summed up; or a session is recorded; or the stacks of all threads are taken. Want of memory may come before
-- anything is done.
pub data Does : List (List ℕ) → Outside → Outside → Store → Store → Outcome → Type 0 where
  misused : {words : List (List ℕ)} {o : Outside} {s : Store} → AreRefused words → Does words o o s s Misused
  forgets : {words : List (List ℕ)} {o : Outside} {s : Store} → Does words o o s s (Ended NoMemory)
  fails_to_open : {words : List (List ℕ)} {addresses : Addresses} {old new : Outside} {s : Store}
      → Names words (Serve addresses)
      → FailsToConnect old new addresses.listen addresses.target → Does words old new s s NotOpened
  serves : {words : List (List ℕ)} {addresses : Addresses} {old new : Outside} {s : Store} {ending : Ending}
      → Names words (Serve addresses) → Serves addresses old new ending → Does words old new s s (Ended ending)
  plays : {words : List (List ℕ)} {name : List ℕ} {o : Outside} {old new : Store} {outcome : Outcome}
      → Names words (Script name) → Plays name old new outcome → Does words o o old new outcome
  replays : {words : List (List ℕ)} {name : List ℕ} {o : Outside} {old new : Store} {outcome : Outcome}
      → Names words (Replay name) → Replays name old new outcome → Does words o o old new outcome
  generates : {words : List (List ℕ)} (number : ScriptNumber) {name : List ℕ} {o : Outside} {old new : Store}
      {outcome : Outcome} → Names words (Generate number name) → Generates number.number name old new outcome
      → Does words o o old new outcome
  records : {words : List (List ℕ)} {addresses : Addresses} {name : List ℕ} {old new : Outside} {s s' : Store}
      {outcome : Outcome} → Names words (Record addresses name) → Records addresses name old new s s' outcome
      → Does words old new s s' outcome
  dumps : {words : List (List ℕ)} {target : List ℕ} {old new : Outside} {s : Store} {outcome : Outcome}
      → Names words (Dump target) → Dumps target old new outcome → Does words old new s s outcome

-- what a run finds and what it leaves: its wires, its files, and what is printed
pub record Surroundings : Type 0 where
  pub wires : Outside
  pub files : Store
  pub printed : Printed

-- a run of the program: what it did over its wires and files, what it printed of that, and its status
pub record Runs (words : List (List ℕ)) (old new : Surroundings) (status : ℕ) : Type 0 where
  pub outcome : Outcome
  pub does : Does words old.wires new.wires old.files new.files outcome
  pub prints : Prints old.printed new.printed (text_of outcome) (status_of outcome) status
