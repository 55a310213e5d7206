-- Which logs have a text that is read. A log of one of them is printed so; of another, no text is read as it.
use Rattle.std.specs.Prelude.{◌≡◌, ℕ, ◌<◌, ◌≤◌, List, [], ◌∷◌, length, Option, Some, None}
use Rattle.hex.specs.Hex.{IsBytes}
use Rattle.run_logs.specs.Runs.{AreRuns}
use Rattle.run_logs.specs.declared.run.Run.{Run}
use Rattle.run_logs.specs.declared.run.Run.TheVariants.{One, Quiets}
use Rattle.wire_core.specs.declared.outside.Entry.{Entry}
use Rattle.wire_core.specs.declared.outside.Entry.TheVariants.{In, Out, Shut, Failed, Quiet}
use Rattle.script_text.specs.declared.log.SessionLog.{SessionLog}
use Rattle.script_text.specs.declared.order.Closed.{Closed}
use Rattle.script_text.specs.Order.{entered, none_closed}
use Rattle.script_text.specs.Rows.{most_turns, most_quiet, most_waiting}

-- one or more bytes
pub record HasBytes (bytes : List ℕ) : Type 0 where
  pub some : 0 < length bytes
  pub are : IsBytes bytes

-- what came or went out is one or more bytes
abbrev pub IsSpelled : Entry → Type 0
IsSpelled (In side bytes) = HasBytes bytes
IsSpelled (Out side bytes) = HasBytes bytes
IsSpelled (Shut side) = Unit {0}
IsSpelled (Failed side) = Unit {0}
IsSpelled Quiet = Unit {0}

-- behind an entry that may stand where these sides are closed, the others may stand; waits may stand anywhere
abbrev pub KeepsOrder : Closed → List Run → Type 0
KeepsOrder closed [] = Unit {0}
KeepsOrder closed (One entry ∷ runs) =
    IsSpelled entry × ((next : Closed) × (entered closed entry ≡ Some next) × KeepsOrder next runs)
KeepsOrder closed (Quiets n ∷ runs) = KeepsOrder closed runs

-- a number from 1 to this one
pub record IsWithin (highest n : ℕ) : Type 0 where
  pub some : 0 < n
  pub most : n ≤ highest

-- the limits are ones that a line can tell
pub record HaveLine (turns quiet waiting : ℕ) : Type 0 where
  pub turns_are : IsWithin most_turns turns
  pub quiet_is : IsWithin most_quiet quiet
  pub waiting_is : IsWithin most_waiting waiting

-- the status of a program, where it is told
abbrev pub IsStatus : Option ℕ → Type 0
IsStatus (Some status) = status < 256
IsStatus None = Unit {0}

-- The limits can be told; waits that follow each other are one run; a side ends or fails at most once, and nothing
-- comes from it afterwards.
pub record IsOrderly (log : SessionLog) : Type 0 where
  pub limits : HaveLine log.turns log.quiet log.waiting
  pub runs : AreRuns log.runs
  pub order : KeepsOrder none_closed log.runs
  pub ending : IsStatus log.ending

-- the limits are those of version 1
pub record HasUsualLimits (log : SessionLog) : Type 0 where
  pub turns : log.turns ≡ 1099511627776
  pub quiet : log.quiet ≡ 43200000
  pub waiting : log.waiting ≡ 65536
