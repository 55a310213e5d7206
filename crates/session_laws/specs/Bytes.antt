-- The bytes of each side in a log.
use Rattle.std.specs.Prelude.{ℕ, ◌≡◌, ◌∷◌, ◌++◌, List, []}
use Rattle.std.specs.List.{flat_map}
use Rattle.session_model.specs.Names.{Client, Entry, Failed, In, Out, Quiet, Shut, Side, Target}

-- the bytes, where the second side is the first
abbrev pub of_side : Side → Side → List ℕ → List ℕ
of_side Client Client bytes = bytes
of_side Client Target bytes = []
of_side Target Client bytes = []
of_side Target Target bytes = bytes

-- the bytes that come from a side by an entry
abbrev pub came_by : Side → Entry → List ℕ
came_by side (In from bytes) = of_side side from bytes
came_by side (Out to bytes) = []
came_by side (Shut closed) = []
came_by side (Failed lost) = []
came_by side Quiet = []

-- all bytes that came from a side, joined
abbrev pub came_from : Side → List Entry → List ℕ
came_from side log = flat_map (came_by side) log

-- the bytes that go to a side by an entry
abbrev pub went_by : Side → Entry → List ℕ
went_by side (In from bytes) = []
went_by side (Out to bytes) = of_side side to bytes
went_by side (Shut closed) = []
went_by side (Failed lost) = []
went_by side Quiet = []

-- all bytes that went to a side, joined
abbrev pub went_to : Side → List Entry → List ℕ
went_to side log = flat_map (went_by side) log

-- the side's link failed
abbrev pub HasLost : Side → List Entry → Type 0
HasLost side log = (before : List Entry) × (after : List Entry) × (log ≡ before ++ Failed side ∷ after)
