-- The outside of a session: what its two byte streams tell of themselves, and what one call changes.
use Rattle.std.specs.Prelude.{ℕ, ◌≡◌, ◌<◌, ◌≤◌, ◌+◌, ◌==◌, Bool, true, false, if◌then◌else◌, ◌⊎◌, List, [], ◌∷◌, ◌++◌}
use Rattle.std.specs.Prelude.{length, take, Option, option_map}
use Rattle.wire_core.specs.declared.outside.Side.{Side}
use Rattle.wire_core.specs.declared.outside.Side.TheVariants.{Client, Target}
use Rattle.wire_core.specs.declared.outside.Happening.{Happening}
use Rattle.wire_core.specs.declared.outside.Happening.TheVariants.{Bytes, Shut as ends, Failed as fails}
use Rattle.wire_core.specs.declared.outside.Happening.TheVariants.{Quiet as nothing}
use Rattle.wire_core.specs.declared.outside.Entry.{Entry}
use Rattle.wire_core.specs.declared.outside.Entry.TheVariants.{In, Out, Shut, Failed, Quiet}

-- one side's link: its faults and its empty reads so far, and whether it is open
pub record Link : Type 0 where
  pub faults : ℕ
  pub empties : ℕ
  pub is_open : Bool

-- what both links tell: the log, where one is kept, how often they were waited for, the faults of opening them, and the
-- names that were asked for
pub record Outside : Type 0 where
  pub log : Option (List Entry)
  pub waits : ℕ
  pub client : Link
  pub target : Link
  pub open_faults : ℕ
  pub asked : List (List ℕ)

-- a side's link
abbrev pub link_of : Side → Outside → Link
link_of Client o = o.client
link_of Target o = o.target

-- the other side
abbrev pub other_side : Side → Side
other_side Client = Target
other_side Target = Client

-- the side is open
abbrev pub IsOpen : Side → Outside → Type 0
IsOpen side o = (link_of side o).is_open ≡ true

-- one of the sides is open
abbrev pub HasOpen : Outside → Type 0
HasOpen o = IsOpen Client o ⊎ IsOpen Target o

-- the last value of a count
abbrev pub last_count : ℕ
last_count = 18446744073709551615

-- one more, or the last value
abbrev pub raised : ℕ → ℕ
raised n = if n == last_count then last_count else n + 1

-- a count rose in a call; one that stands at its last value can't rise
abbrev pub Rose : ℕ → ℕ → Type 0
Rose old new = (old < new) ⊎ (new ≡ last_count)

-- the log, where one is kept, has these entries more
abbrev pub Adds : Outside → Outside → List Entry → Type 0
Adds old new entries = new.log ≡ option_map (λ before. before ++ entries) old.log

-- no count fell
pub record Counts (old new : Outside) : Type 0 where
  pub client_faults : old.client.faults ≤ new.client.faults
  pub target_faults : old.target.faults ≤ new.target.faults
  pub client_empties : old.client.empties ≤ new.client.empties
  pub target_empties : old.target.empties ≤ new.target.empties
  pub open_faults : old.open_faults ≤ new.open_faults

-- nothing was waited for
abbrev pub SameWaits : Outside → Outside → Type 0
SameWaits old new = new.waits ≡ old.waits

-- both links opened, under the names asked for; nothing is logged
pub record Connects (old new : Outside) (listen target : List ℕ) : Type 0 where
  pub log : Adds old new []
  pub waits : SameWaits old new
  pub counts : Counts old new
  pub asked : new.asked ≡ listen ∷ target ∷ []
  pub client_open : IsOpen Client new
  pub target_open : IsOpen Target new

-- a link was not opened, and the count of such faults rose
pub record FailsToConnect (old new : Outside) (listen target : List ℕ) : Type 0 where
  pub log : Adds old new []
  pub waits : SameWaits old new
  pub counts : Counts old new
  pub asked : new.asked ≡ listen ∷ target ∷ []
  pub rose : Rose old.open_faults new.open_faults

-- the target's link alone opened, under the name asked for, and the client's counts as shut; nothing is logged
pub record Reaches (old new : Outside) (target : List ℕ) : Type 0 where
  pub log : Adds old new []
  pub waits : SameWaits old new
  pub counts : Counts old new
  pub asked : new.asked ≡ target ∷ []
  pub client_closed : new.client.is_open ≡ false
  pub target_open : IsOpen Target new

-- the target's link was not opened, and the count of such faults rose
pub record FailsToReach (old new : Outside) (target : List ℕ) : Type 0 where
  pub log : Adds old new []
  pub waits : SameWaits old new
  pub counts : Counts old new
  pub asked : new.asked ≡ target ∷ []
  pub rose : Rose old.open_faults new.open_faults

-- which side is open stays as it is
abbrev pub KeepsOpen : Side → Outside → Outside → Type 0
KeepsOpen side old new = (link_of side new).is_open ≡ (link_of side old).is_open

-- a side was open and is closed now; the other stays as it is
pub record Closes (side : Side) (old new : Outside) : Type 0 where
  pub was_open : IsOpen side old
  pub closed : (link_of side new).is_open ≡ false
  pub other : KeepsOpen (other_side side) old new

-- both sides stay open or closed
pub record StaysOpen (old new : Outside) : Type 0 where
  pub client : KeepsOpen Client old new
  pub target : KeepsOpen Target old new

-- an open side was asked and had nothing
abbrev pub WasEmpty : Side → Outside → Outside → Type 0
WasEmpty side old new = IsOpen side old → Rose (link_of side old).empties (link_of side new).empties

-- what each happening says of the two links
abbrev pub Happens : Outside → Outside → List ℕ → Happening → Type 0
Happens old new buffer (Bytes side n) = (0 < n) × (n ≤ length buffer) × IsOpen side old × StaysOpen old new
Happens old new buffer (ends side) = Closes side old new
Happens old new buffer (fails side) = Closes side old new × Rose (link_of side old).faults (link_of side new).faults
Happens old new buffer nothing = StaysOpen old new × WasEmpty Client old new × WasEmpty Target old new

-- the entry of a happening
abbrev pub entry_of : List ℕ → Happening → Entry
entry_of buffer (Bytes side n) = In side (take n buffer)
entry_of buffer (ends side) = Shut side
entry_of buffer (fails side) = Failed side
entry_of buffer nothing = Quiet

-- a call that waits heard this happening, logged it, and counted the wait
pub record Hears (old new : Outside) (buffer : List ℕ) (happening : Happening) : Type 0 where
  pub log : Adds old new (entry_of buffer happening ∷ [])
  pub waits : new.waits ≡ raised old.waits
  pub counts : Counts old new
  pub asked : new.asked ≡ old.asked
  pub happens : Happens old new buffer happening

-- all bytes were sent to the side
pub record Sends (old new : Outside) (side : Side) (bytes : List ℕ) : Type 0 where
  pub log : Adds old new (Out side bytes ∷ [])
  pub waits : SameWaits old new
  pub counts : Counts old new
  pub asked : new.asked ≡ old.asked
  pub stays : StaysOpen old new

-- the entries of a send that failed after some of its bytes
abbrev pub broken_send : Side → List ℕ → List Entry
broken_send side [] = Failed side ∷ []
broken_send side (b ∷ bytes) = Out side (b ∷ bytes) ∷ Failed side ∷ []

-- the side's link failed after a proper prefix of the bytes, and is closed
pub record FailsToSend (old new : Outside) (side : Side) (bytes : List ℕ) : Type 0 where
  pub kept : ℕ
  pub proper : kept < length bytes
  pub log : Adds old new (broken_send side (take kept bytes))
  pub waits : SameWaits old new
  pub counts : Counts old new
  pub asked : new.asked ≡ old.asked
  pub closes : Closes side old new
  pub rose : Rose (link_of side old).faults (link_of side new).faults
