-- What the bridge does in a session of a script, and what a session is known by.
use Rattle.std.specs.Prelude.{◌≡◌, ℕ, Bool, List, [], ◌∷◌, map, Option, None, Some}
use Rattle.wire_core.specs.declared.outside.Side.{Side}
use Rattle.wire_core.specs.declared.outside.Entry.{Entry}
use Rattle.wire_core.specs.declared.outside.Entry.TheVariants.{In, Out, Shut, Failed, Quiet}
use Rattle.script_rows.specs.declared.script.Script.{Script}
use Rattle.script_wires.specs.Played.{Played}
use Rattle.script_wires.specs.Playing.{Playing}

-- What the bridge does: it hears what comes next, it sends these bytes to a side, or it reaches the target alone.
pub data Doing : Type 0 where
  hears : Doing
  sends : Side → List ℕ → Doing
  reaches : Doing

-- what it did in a session so far, the latest first
abbrev pub doings : {script : Script} {alone : Bool} {log : List Entry} {now : Playing} → Played script alone log now
    → List Doing
doings {script} Played.begins = []
doings {script} (Played.reaches played closes) = Doing.reaches ∷ doings played
doings {script} (Played.hears played comes) = Doing.hears ∷ doings played
doings {script} (Played.sends side bytes played sent) = Doing.sends side bytes ∷ doings played

-- two sessions are one: they have the same log, and stand at the same place
pub record IsOne (log other : List Entry) (now last : Playing) : Type 0 where
  pub logs : log ≡ other
  pub places : now ≡ last

-- the bytes that an entry of a log sends, and to which side; nothing where it is heard
abbrev pub sent_in : Entry → Option (Side × List ℕ)
sent_in (In side bytes) = None
sent_in (Out side bytes) = Some (side, bytes)
sent_in (Shut side) = None
sent_in (Failed side) = None
sent_in Quiet = None

-- where a log sends, and which bytes
abbrev pub sends_of : List Entry → List (Option (Side × List ℕ))
sends_of log = map sent_in log
