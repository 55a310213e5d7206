-- What a recorder takes a side for.
use Rattle.std.specs.Prelude.{ℕ, ◌+◌, Bool, true, false, not}
use Rattle.wire_core.specs.Outside.{Link, raised}
use Rattle.wire_core.specs.declared.outside.Side.{Side}
use Rattle.wire_core.specs.declared.outside.Side.TheVariants.{Client, Target}
use Rattle.wire_core.specs.declared.outside.Happening.{Happening}
use Rattle.wire_core.specs.declared.outside.Happening.TheVariants.{Bytes, Shut, Failed, Quiet}
use Rattle.session_recorder.specs.declared.side_state.SideState.{SideState}
use Rattle.session_recorder.specs.declared.side_state.SideState.TheVariants.{Open, Closed, Lost}

-- the side is open
abbrev pub opens : SideState → Bool
opens Open = true
opens Closed = false
opens Lost = false

-- there was no memory for what the side gave or was sent
abbrev pub is_lost : SideState → Bool
is_lost Open = false
is_lost Closed = false
is_lost Lost = true

-- how many failures of the side have to be logged where memory is refused
abbrev pub room_for : SideState → ℕ
room_for Open = 1
room_for Closed = 1
room_for Lost = 0

-- a side's link is as it is taken for; of a lost one nothing is known
abbrev pub fits : SideState → Link → Bool
fits Open l = l.is_open
fits Closed l = not l.is_open
fits Lost l = true

-- the faults of a side: one more where it was lost
abbrev pub faults_with : SideState → ℕ → ℕ
faults_with Open n = n
faults_with Closed n = n
faults_with Lost n = raised n

-- a side that ended, failed or did not open; one that was lost stays so
abbrev pub closed : SideState → SideState
closed Open = Closed
closed Closed = Closed
closed Lost = Lost

-- what a side is taken for behind a happening
abbrev pub state_after : Side → Happening → SideState → SideState
state_after side (Bytes s n) state = state
state_after Client (Shut Client) state = closed state
state_after Client (Shut Target) state = state
state_after Target (Shut Client) state = state
state_after Target (Shut Target) state = closed state
state_after Client (Failed Client) state = closed state
state_after Client (Failed Target) state = state
state_after Target (Failed Client) state = state
state_after Target (Failed Target) state = closed state
state_after side Quiet state = state
