-- What comes of the outside where a session log is replayed: what came in it, in order.
use Rattle.std.specs.Prelude.{ℕ, zero, suc, Bool, true, false, if◌then◌else◌, List, [], ◌∷◌, ◌++◌, length, take, drop, filter}
use Rattle.wire_core.specs.declared.outside.Side.{Side}
use Rattle.wire_core.specs.declared.outside.Side.TheVariants.{Client, Target}
use Rattle.wire_core.specs.declared.outside.Entry.{Entry}
use Rattle.wire_core.specs.declared.outside.Entry.TheVariants.{In, Out, Shut, Failed, Quiet}

-- whether an entry came, and did not go out
abbrev pub is_coming : Entry → Bool
is_coming (In side bytes) = true
is_coming (Out side bytes) = false
is_coming (Shut side) = true
is_coming (Failed side) = true
is_coming Quiet = true

-- what came, in order
abbrev pub came : List Entry → List Entry
came log = filter is_coming log

-- bytes of a side as they come, at most 65,536 at a time, in at most so many pieces
abbrev pub pieces : ℕ → Side → List ℕ → List Entry
pieces zero side bytes = []
pieces (suc n) side [] = []
pieces (suc n) side (b ∷ bs) = In side (take 65536 (b ∷ bs)) ∷ pieces n side (drop 65536 (b ∷ bs))

-- which sides are open
pub record Sides : Type 0 where
  pub client : Bool
  pub target : Bool

abbrev pub both_open : Sides
both_open = record { client = true; target = true }

abbrev pub is_open : Side → Sides → Bool
is_open Client sides = sides.client
is_open Target sides = sides.target

-- a side is closed
abbrev pub closing : Side → Sides → Sides
closing Client sides = record { client = false; target = sides.target }
closing Target sides = record { client = sides.client; target = false }

-- at the end of the log the sides end that are open, the client first
abbrev pub ends : Sides → List Entry
ends sides =
    (if sides.client then Shut Client ∷ [] else []) ++ (if sides.target then Shut Target ∷ [] else [])

-- what comes of these entries where these sides are open: nothing of a side that is closed
abbrev pub course : Sides → List Entry → List Entry
course sides [] = ends sides
course sides (In side bytes ∷ log) =
    (if is_open side sides then pieces (length bytes) side bytes else []) ++ course sides log
course sides (Out side bytes ∷ log) = course sides log
course sides (Shut side ∷ log) =
    if is_open side sides then Shut side ∷ course (closing side sides) log else course sides log
course sides (Failed side ∷ log) =
    if is_open side sides then Failed side ∷ course (closing side sides) log else course sides log
course sides (Quiet ∷ log) = Quiet ∷ course sides log
