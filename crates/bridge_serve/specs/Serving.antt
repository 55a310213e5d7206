-- What a call says of the outside beside the session that it served, also where no log is kept.
use Rattle.std.specs.Prelude.{ℕ, ◌≡◌, ◌+◌, ◌≤◌, ◌⊎◌, false}
use Rattle.bridge_serve.specs.Names.{Client, ClientLink, Ending, Idle, Left, Limits, Side, Target, TargetLink}
use Rattle.wire_core.specs.Outside.{Counts, IsOpen, Outside, Rose, last_count, link_of}

-- the side is closed
abbrev pub IsClosed : Side → Outside → Type 0
IsClosed side o = (link_of side o).is_open ≡ false

-- No count fell, at most so many waits were made, no other name was asked for, and a side that was closed is closed. The
-- last says something only of the calls inside a session, since both sides are open where it begins.
pub record Keeps (most : ℕ) (old new : Outside) : Type 0 where
  pub counts : Counts old new
  pub waits : new.waits ≤ old.waits + most
  pub asked : new.asked ≡ old.asked
  pub client_closed : IsClosed Client old → IsClosed Client new
  pub target_closed : IsClosed Target old → IsClosed Target new

-- A fault of a link comes only where its count rose, and that side is closed; a client that has left is closed too.
pub record Blames (old new : Outside) (ending : Ending) : Type 0 where
  pub client : ending ≡ ClientLink → Rose old.client.faults new.client.faults
  pub target : ending ≡ TargetLink → Rose old.target.faults new.target.faults
  pub client_lost : ending ≡ ClientLink → IsClosed Client new
  pub target_lost : ending ≡ TargetLink → IsClosed Target new
  pub client_left : ending ≡ Left → IsClosed Client new

-- a count rose so often, or stands at its last value
abbrev pub RoseBy : ℕ → ℕ → ℕ → Type 0
RoseBy n old new = (old + n ≤ new) ⊎ (last_count ≤ new)

-- each side that is still open was asked so often and had nothing, whatever else came in between
pub record WasQuiet (n : ℕ) (old new : Outside) : Type 0 where
  pub client : IsOpen Client new → RoseBy n old.client.empties new.client.empties
  pub target : IsOpen Target new → RoseBy n old.target.empties new.target.empties

-- where the session ended so, each side that is still open was asked in vain as often as the limit says
abbrev pub Idles : Limits → Outside → Outside → Ending → Type 0
Idles limits old new ending = ending ≡ Idle → WasQuiet limits.quiet old new
