-- What is left of the runs of a session log that is replayed, and what comes of it next.
use Rattle.std.specs.Prelude.{ℕ, ◌≡◌, ◌+◌, ◌-◌, List, [], ◌∷◌, ◌++◌, drop, replicate}
use Rattle.run_logs.specs.Runs.{entries_of}
use Rattle.run_logs.specs.declared.run.Run.{Run}
use Rattle.run_logs.specs.declared.run.Run.TheVariants.{One, Quiets}
use Rattle.wire_core.specs.Outside.{entry_of}
use Rattle.wire_core.specs.declared.links.Links.{Links}
use Rattle.wire_core.specs.declared.outside.Happening.{Happening}
use Rattle.wire_core.specs.declared.outside.Happening.TheVariants.{Bytes, Shut as came_end, Failed as came_failure}
use Rattle.wire_core.specs.declared.outside.Happening.TheVariants.{Quiet as came_nothing}
use Rattle.wire_core.specs.declared.outside.Entry.{Entry}
use Rattle.wire_core.specs.declared.outside.Entry.TheVariants.{In, Out, Shut, Failed, Quiet}
use Rattle.file_wires.specs.Course.{Sides, closing, course}
use Rattle.file_wires.specs.declared.replaying.Place.{Place}

-- What is left of a run of which so many bytes, or waits in vain, came already. Of many waits it is never formed one by
-- one, so nothing unfolds this unasked.
unfoldable pub left_of : ℕ → Run → List Entry
left_of done (One (In side bytes)) = In side (drop done bytes) ∷ []
left_of done (One (Out side bytes)) = Out side bytes ∷ []
left_of done (One (Shut side)) = Shut side ∷ []
left_of done (One (Failed side)) = Failed side ∷ []
left_of done (One Quiet) = replicate (1 - done) Quiet
left_of done (Quiets n) = replicate (n - done) Quiet

-- what is left of runs, of the first of which so much came
abbrev pub left_in : ℕ → List Run → List Entry
left_in done [] = []
left_in done (run ∷ runs) = left_of done run ++ entries_of runs

-- what is left of runs at a place
abbrev pub left_at : Place → List Run → List Entry
left_at place runs = left_in place.done (drop place.run runs)

-- which sides are open by these links
abbrev pub open_by : Links → Sides
open_by links = record { client = links.client.is_open; target = links.target.is_open }

-- which sides are open behind what came
abbrev pub sides_behind : Happening → Sides → Sides
sides_behind (Bytes side n) sides = sides
sides_behind (came_end side) sides = closing side sides
sides_behind (came_failure side) sides = closing side sides
sides_behind came_nothing sides = sides

-- what came is the first of what is still to come, and this is left behind it
abbrev pub Comes : Links → List ℕ → Happening → List Entry → List Entry → Type 0
Comes links buffer happening left behind =
    course (open_by links) left
    ≡ entry_of buffer happening ∷ course (sides_behind happening (open_by links)) behind

-- nothing comes of what is left of a run, whatever stands behind it
abbrev pub Passes : Links → ℕ → Run → Type 0
Passes links done run =
    (rest : List Entry) → course (open_by links) (left_of done run ++ rest) ≡ course (open_by links) rest

-- what is left of a run behind what came of it
abbrev pub left_behind : Happening → ℕ → Run → List Entry
left_behind (Bytes side n) done run = left_of (done + n) run
left_behind (came_end side) done run = []
left_behind (came_failure side) done run = []
left_behind came_nothing done run = left_of (done + 1) run

-- what comes is the first of what is left of a run, whatever stands behind it
abbrev pub Gives : Links → List ℕ → Happening → ℕ → Run → Type 0
Gives links buffer happening done run =
    (rest : List Entry)
    → Comes links buffer happening (left_of done run ++ rest) (left_behind happening done run ++ rest)

-- how many bytes, or waits, came
abbrev pub taken : Happening → ℕ
taken (Bytes side n) = n
taken (came_end side) = 0
taken (came_failure side) = 0
taken came_nothing = 1

-- the place behind what came from a run: behind the bytes or the wait, or before the next run
abbrev pub IsBehind : Place → Happening → Place → Type 0
IsBehind old (Bytes side n) new = (new.run ≡ old.run) × (new.done ≡ old.done + n)
IsBehind old (came_end side) new = (new.run ≡ old.run + 1) × (new.done ≡ 0)
IsBehind old (came_failure side) new = (new.run ≡ old.run + 1) × (new.done ≡ 0)
IsBehind old came_nothing new = (new.run ≡ old.run) × (new.done ≡ old.done + 1)
