-- A log as runs: its entries in order, waits in vain counted where they stand one behind the other.
use Rattle.std.specs.Prelude.{ℕ, ◌+◌, ◌^◌, ◌<◌, ◌≤◌, ◌≡◌, Bool, true, false, ◌&&◌, if◌then◌else◌}
use Rattle.std.specs.Prelude.{List, [], ◌∷◌, ◌++◌, replicate, Option, Some, None, is_some}
use Rattle.wire_core.specs.declared.outside.Entry.{Entry}
use Rattle.wire_core.specs.declared.outside.Entry.TheVariants.{In, Out, Shut, Failed, Quiet}
use Rattle.run_logs.specs.declared.run.Run.{Run}
use Rattle.run_logs.specs.declared.run.Run.TheVariants.{One, Quiets}

-- the entries that a run stands for; of many waits they are never formed one by one, so nothing unfolds this unasked
unfoldable pub entries_in : Run → List Entry
entries_in (One entry) = entry ∷ []
entries_in (Quiets n) = replicate n Quiet

-- the entries of runs, in order
abbrev pub entries_of : List Run → List Entry
entries_of [] = []
entries_of (run ∷ runs) = entries_in run ++ entries_of runs

-- whether an entry is a wait in vain
abbrev pub is_quiet : Entry → Bool
is_quiet (In side bytes) = false
is_quiet (Out side bytes) = false
is_quiet (Shut side) = false
is_quiet (Failed side) = false
is_quiet Quiet = true

-- how many waits in vain an entry is
abbrev pub quiets_as : Entry → ℕ
quiets_as entry = if is_quiet entry then 1 else 0

-- how many waits in vain are among entries
abbrev pub quiets_among : List Entry → ℕ
quiets_among [] = 0
quiets_among (entry ∷ entries) = quiets_as entry + quiets_among entries

-- how many waits a run is of
abbrev pub quiets_in : Run → ℕ
quiets_in (One entry) = 0
quiets_in (Quiets n) = n

-- how many waits runs are of, in all
abbrev pub quiets_of : List Run → ℕ
quiets_of [] = 0
quiets_of (run ∷ runs) = quiets_in run + quiets_of runs

-- the most waits that a log has
abbrev pub most_quiets : ℕ
most_quiets = 2 ^ 62

-- an entry that is no wait stands alone, and a run of waits has at least one
abbrev pub IsRun : Run → Type 0
IsRun (One (In side bytes)) = Unit {0}
IsRun (One (Out side bytes)) = Unit {0}
IsRun (One (Shut side)) = Unit {0}
IsRun (One (Failed side)) = Unit {0}
IsRun (One Quiet) = ⊥
IsRun (Quiets n) = 0 < n

-- each is a run
abbrev pub EachIsRun : List Run → Type 0
EachIsRun [] = Unit {0}
EachIsRun (run ∷ runs) = IsRun run × EachIsRun runs

-- no run of waits comes first
abbrev pub BeginsApart : List Run → Type 0
BeginsApart [] = Unit {0}
BeginsApart (One entry ∷ runs) = Unit {0}
BeginsApart (Quiets n ∷ runs) = ⊥

-- no two runs of waits stand side by side
abbrev pub AreApart : List Run → Type 0
AreApart [] = Unit {0}
AreApart (One entry ∷ runs) = AreApart runs
AreApart (Quiets n ∷ runs) = BeginsApart runs × AreApart runs

-- runs as a log has them: each log of entries has one list of them, where it has no more waits than a log may have
pub record AreRuns (runs : List Run) : Type 0 where
  pub each : EachIsRun runs
  pub apart : AreApart runs
  pub few : quiets_of runs ≤ most_quiets

-- whether entries end with a wait; where there are none, as is said of what stands before them
abbrev pub ends_in_quiet : Bool → List Entry → Bool
ends_in_quiet before [] = before
ends_in_quiet before (entry ∷ entries) = ends_in_quiet (is_quiet entry) entries

-- how many waits a run is of, where it is of waits
abbrev pub count_of : Run → Option ℕ
count_of (One entry) = None
count_of (Quiets n) = Some n

-- how many the last run is of, where it is of waits; where there are none, what is said of the one before them
abbrev pub last_count : Option ℕ → List Run → Option ℕ
last_count before [] = before
last_count before (run ∷ runs) = last_count (count_of run) runs

-- an entry takes no place behind runs where it is a wait behind waits
abbrev pub places : Entry → List Run → ℕ
places entry runs = if is_quiet entry && is_some (last_count None runs) then 0 else 1

-- an entry can be added to a log: any one that is no wait, and a wait where there are fewer than a log may have
abbrev pub CanTake : Entry → List Entry → Type 0
CanTake (In side bytes) entries = Unit {0}
CanTake (Out side bytes) entries = Unit {0}
CanTake (Shut side) entries = Unit {0}
CanTake (Failed side) entries = Unit {0}
CanTake Quiet entries = quiets_among entries < most_quiets

-- an entry is a wait in vain that stands behind another
abbrev pub FollowsQuiet : Entry → List Entry → Type 0
FollowsQuiet entry entries = (entry ≡ Quiet) × (ends_in_quiet false entries ≡ true)

-- these are the runs of a log, of so many waits in all, and they stand in a vector of this length and capacity
pub record IsCounted (runs : List Run) (quiets len capacity : ℕ) : Type 0 where
  pub are : AreRuns runs
  pub counted : quiets ≡ quiets_of runs
  pub held : len ≤ capacity

-- the runs of a log with an entry more
pub record Takes (old new : List Run) (entry : Entry) : Type 0 where
  pub entries : entries_of new ≡ entries_of old ++ entry ∷ []
  pub are : AreRuns new
  pub quiets : quiets_of new ≡ quiets_of old + quiets_as entry
