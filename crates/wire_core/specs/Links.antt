-- Links that count: what each call makes of a side's counts, exactly.
use Rattle.std.specs.Prelude.{ℕ, ◌≡◌, ◌+◌, ◌<◌, ◌≤◌, Bool, true, false, if◌then◌else◌, List, Option}
use Rattle.wire_core.specs.declared.outside.Side.{Side}
use Rattle.wire_core.specs.declared.outside.Side.TheVariants.{Client, Target}
use Rattle.wire_core.specs.declared.outside.Happening.{Happening}
use Rattle.wire_core.specs.declared.outside.Happening.TheVariants.{Bytes, Shut, Failed, Quiet}
use Rattle.wire_core.specs.declared.outside.Entry.{Entry}
use Rattle.wire_core.specs.declared.links.Link.{Link as Counter}
use Rattle.wire_core.specs.declared.links.Links.{Links}
use Rattle.wire_core.specs.Outside.{Link, Outside}
pub use Rattle.wire_core.specs.Outside.{raised}

-- a link of which nothing was asked yet
abbrev pub fresh_link : Bool → Link
fresh_link is_open = record { faults = 0; empties = 0; is_open = is_open }

-- a link that was opened
abbrev pub open_link : Link → Link
open_link l = record { faults = l.faults; empties = l.empties; is_open = true }

-- a link whose stream has ended
abbrev pub shut_link : Link → Link
shut_link l = record { faults = l.faults; empties = l.empties; is_open = false }

-- a link that failed
abbrev pub failed_link : Link → Link
failed_link l = record { faults = raised l.faults; empties = l.empties; is_open = false }

-- a link that was asked and had nothing
abbrev pub empty_link : Link → Link
empty_link l = record { faults = l.faults; empties = raised l.empties; is_open = l.is_open }

-- what a happening makes of a side's link; nothing is heard only where both sides had nothing
abbrev pub link_after : Side → Happening → Link → Link
link_after side (Bytes s n) l = l
link_after Client (Shut Client) l = shut_link l
link_after Client (Shut Target) l = l
link_after Target (Shut Client) l = l
link_after Target (Shut Target) l = shut_link l
link_after Client (Failed Client) l = failed_link l
link_after Client (Failed Target) l = l
link_after Target (Failed Client) l = l
link_after Target (Failed Target) l = failed_link l
link_after side Quiet l = empty_link l

-- what it makes of a side's link that a side was asked and had nothing
abbrev pub link_asked : Side → Side → Link → Link
link_asked Client Client l = empty_link l
link_asked Client Target l = l
link_asked Target Client l = l
link_asked Target Target l = empty_link l

-- bytes that came fit the buffer
abbrev pub IsWithin : ℕ → Happening → Type 0
IsWithin room (Bytes side n) = n ≤ room
IsWithin room (Shut side) = Unit {0}
IsWithin room (Failed side) = Unit {0}
IsWithin room Quiet = Unit {0}

-- nothing but the log and the count of waits may have changed
pub record Keeps (old new : Outside) : Type 0 where
  pub client : new.client ≡ old.client
  pub target : new.target ≡ old.target
  pub open_faults : new.open_faults ≡ old.open_faults
  pub asked : new.asked ≡ old.asked

-- a happening changed the counts and the side that it names, and nothing else but the log and the count of waits
pub record Counts (old new : Outside) (happening : Happening) : Type 0 where
  pub client : new.client ≡ link_after Client happening old.client
  pub target : new.target ≡ link_after Target happening old.target
  pub open_faults : new.open_faults ≡ old.open_faults
  pub asked : new.asked ≡ old.asked

-- what a counter tells of its link
abbrev pub told : Counter → Link
told c = record { faults = c.faults; empties = c.empties; is_open = c.is_open }

-- what links that count tell, beside a log, the waits, the faults of opening them, and the names that were asked for
abbrev pub outside_with : Option (List Entry) → ℕ → Links → ℕ → List (List ℕ) → Outside
outside_with log waits links open_faults asked =
    record {
      log = log;
      waits = waits;
      client = told links.client;
      target = told links.target;
      open_faults = open_faults;
      asked = asked;
    }

-- whether a side is open
abbrev pub is_open_in : Links → Side → Bool
is_open_in links Client = links.client.is_open
is_open_in links Target = links.target.is_open

-- the client where it is open, else the target
abbrev pub first_open : Links → Side
first_open links = if links.client.is_open then Client else Target

-- links of which nothing was asked yet
abbrev pub IsFresh : Links → Bool → Type 0
IsFresh links is_open = (told links.client ≡ fresh_link is_open) × (told links.target ≡ fresh_link is_open)

-- some bytes, as many as fit, or an end or a failure, of an open side; or nothing
abbrev pub IsPossible : Links → ℕ → Happening → Type 0
IsPossible links room (Bytes side n) = (0 < n) × (n ≤ room) × (is_open_in links side ≡ true)
IsPossible links room (Shut side) = is_open_in links side ≡ true
IsPossible links room (Failed side) = is_open_in links side ≡ true
IsPossible links room Quiet = Unit {0}

-- how many sides are open
abbrev pub open_count : Links → ℕ
open_count links =
    (if links.client.is_open then 1 else 0) +
    (if links.target.is_open then 1 else 0)

-- an end or a failure of an open side leaves one less open
abbrev pub CountsOpen : Happening → Links → Links → Type 0
CountsOpen (Bytes side n) old new = open_count new ≡ open_count old
CountsOpen (Shut side) old new = is_open_in old side ≡ true → open_count new + 1 ≡ open_count old
CountsOpen (Failed side) old new = is_open_in old side ≡ true → open_count new + 1 ≡ open_count old
CountsOpen Quiet old new = open_count new ≡ open_count old
