-- What one call makes of the bytes that a stream has left, or holds, where these are known.
use Rattle.std.specs.Prelude.{ℕ, ◌≡◌, ◌<◌, ◌≤◌, ◌+◌, ◌⊎◌, List, length, take, Option, Some, None}
use Rattle.std.specs.Io.KnownBytes.{Appends, Consumes, Keeps}
use Rattle.wire_core.specs.declared.outside.Side.{Side}
use Rattle.wire_core.specs.declared.outside.Side.TheVariants.{Client, Target}
use Rattle.wire_core.specs.declared.outside.Happening.{Happening}
use Rattle.wire_core.specs.declared.outside.Happening.TheVariants.{Bytes as came, Shut, Failed, Quiet}
use Rattle.wire_core.specs.Outside.{Link, Outside, SameWaits, WasEmpty, other_side}
use Rattle.wire_edge.specs.declared.streams.Polled.{Polled}
use Rattle.wire_edge.specs.declared.streams.Polled.TheVariants.{Bytes, Ended, Broken, Nothing}

-- what asking makes of the bytes that are left: those at the front of the buffer are all that were read
abbrev pub Polls : Option (List ℕ) → Option (List ℕ) → List ℕ → Polled → Type 0
Polls old new buffer (Bytes n) = (0 < n) × (n ≤ length buffer) × Consumes old new (take n buffer)
Polls old new buffer Ended = Keeps old new
Polls old new buffer Broken = Keeps old new
Polls old new buffer Nothing = Keeps old new

-- a stream is there, and takes all these bytes, where it is known what it holds
abbrev pub TakesAll : {S : Type 0} → (S → Option (List ℕ)) → Option S → Option S → List ℕ → Type 0
TakesAll contents None new bytes = ⊥
TakesAll contents (Some old) None bytes = ⊥
TakesAll contents (Some old) (Some new) bytes = Appends (contents old) (contents new) bytes

-- what comes of a side that was asked, where it had something
abbrev pub heard_of : Side → Polled → Option Happening
heard_of side (Bytes n) = Some (came side n)
heard_of side Ended = Some (Shut side)
heard_of side Broken = Some (Failed side)
heard_of side Nothing = None

-- something came of this side
abbrev pub IsOf : Side → Happening → Type 0
IsOf side (came s n) = s ≡ side
IsOf side (Shut s) = s ≡ side
IsOf side (Failed s) = s ≡ side
IsOf side Quiet = ⊥

-- what asking makes of a side's link: it stays open or closed, and only the count of empty reads may rise
pub record KeepsLink (old new : Link) : Type 0 where
  pub is_open : new.is_open ≡ old.is_open
  pub faults : new.faults ≡ old.faults
  pub empties : old.empties ≤ new.empties

-- sides were asked
pub record Asks (old new : Outside) : Type 0 where
  pub client : KeepsLink old.client new.client
  pub target : KeepsLink old.target new.target
  pub waits : SameWaits old new
  pub open_faults : new.open_faults ≡ old.open_faults
  pub asked : new.asked ≡ old.asked

-- both sides were asked and had nothing
abbrev pub AreEmpty : Outside → Outside → Type 0
AreEmpty old new = WasEmpty Client old new × WasEmpty Target old new

-- something comes of another side than the one whose turn it is only where that one was asked and had nothing
abbrev pub InTurn : Side → Outside → Outside → Happening → Type 0
InTurn turn old new happening = IsOf turn happening ⊎ WasEmpty turn old new

-- the same where both sides are asked; nothing comes only where both had nothing
abbrev pub AsksInTurn : Side → Outside → Outside → Option Happening → Type 0
AsksInTurn turn old new None = AreEmpty old new
AsksInTurn turn old new (Some happening) = InTurn turn old new happening

-- where nothing comes, both sides had nothing
abbrev pub IsQuiet : Outside → Outside → Happening → Type 0
IsQuiet old new (came side n) = Unit {0}
IsQuiet old new (Shut side) = Unit {0}
IsQuiet old new (Failed side) = Unit {0}
IsQuiet old new Quiet = AreEmpty old new

-- this side is asked next: the one that something did not come from
abbrev pub GivesTurn : Side → Happening → Type 0
GivesTurn turn (came s n) = s ≡ other_side turn
GivesTurn turn (Shut s) = s ≡ other_side turn
GivesTurn turn (Failed s) = s ≡ other_side turn
GivesTurn turn Quiet = Unit {0}

-- the bytes that came took their room
abbrev pub TakesRoom : ℕ → ℕ → Polled → Type 0
TakesRoom old new (Bytes n) = new + n ≡ old
TakesRoom old new Ended = new ≡ old
TakesRoom old new Broken = new ≡ old
TakesRoom old new Nothing = new ≡ old
