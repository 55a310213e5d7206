-- The stacks of all threads of a target: what is done over the wires for them, and the outcome.
use Rattle.std.specs.Prelude.{ℕ, ◌≡◌, List, Result, Ok, Err}
use Rattle.run_outcomes.specs.FileRuns.{usual_limits}
use Rattle.run_outcomes.specs.declared.printing.Outcome.{Outcome}
use Rattle.run_outcomes.specs.declared.printing.Outcome.TheVariants.{Dumped, Ended, NotOpened, TargetGone}
use Rattle.thread_dump.specs.Dumps.{IsDump}
use Rattle.thread_dump.specs.declared.dumping.DumpEnd.{DumpEnd}
use Rattle.thread_dump.specs.declared.dumping.DumpEnd.TheVariants.{Ended as ended, TargetGone as target_gone}
use Rattle.wire_core.specs.Outside.{Counts, FailsToReach, Outside, Reaches}

-- what a run comes to that has this text of all stacks, or none
abbrev pub outcome_of : Result (List ℕ) DumpEnd → Outcome
outcome_of (Ok text) = Dumped text
outcome_of (Err target_gone) = TargetGone
outcome_of (Err (ended ending)) = Ended ending

-- The target is not reached; or it is, alone, under this address, and a session is served whose client asks for the stacks
-- of all threads: its text is the outcome, or why there is none. No other name is asked for.
pub data Dumps (target : List ℕ) (old new : Outside) : Outcome → Type 0 where
  fails_to_reach : FailsToReach old new target → Dumps target old new NotOpened
  dumps : {opened : Outside} (dumped : Result (List ℕ) DumpEnd) → Reaches old opened target
      → IsDump usual_limits opened new dumped → Counts opened new → new.asked ≡ opened.asked
      → Dumps target old new (outcome_of dumped)
