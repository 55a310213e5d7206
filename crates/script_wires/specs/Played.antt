-- The logs of a script: what comes is what its schedule gives, whatever the bridge sends.
use Rattle.std.specs.Prelude.{◌≡◌, ℕ, Bool, false, true, List, [], ◌∷◌, ◌++◌, Some, None}
use Rattle.wire_core.specs.declared.outside.Side.{Side}
use Rattle.wire_core.specs.declared.outside.Side.TheVariants.{Client, Target}
use Rattle.wire_core.specs.declared.outside.Entry.{Entry}
use Rattle.wire_core.specs.declared.outside.Entry.TheVariants.{Out}
use Rattle.target_server.specs.declared.trouble.TargetTrouble.{TargetTrouble}
use Rattle.target_server.specs.Hearing.{TargetState, Feeds, FeedsUpTo}
use Rattle.script_rows.specs.declared.script.Script.{Script}
use Rattle.script_wires.specs.Playing.{Playing, beginning, closed}
use Rattle.script_wires.specs.Schedules.{Comes}

-- What the target makes of bytes that the bridge sends it: it takes them, or all up to a trouble. After one it takes no
-- more.
pub data Takes (old : TargetState) (bytes : List ℕ) (new : TargetState) : Type 0 where
  all : Feeds old bytes new → Takes old bytes new
  some : (trouble : TargetTrouble) → old.trouble ≡ None → FeedsUpTo old bytes trouble new → Takes old bytes new
  none : (trouble : TargetTrouble) → old.trouble ≡ Some trouble → new ≡ old → Takes old bytes new

-- the target takes bytes, and nothing else changes
pub record TakesIn (old : Playing) (bytes : List ℕ) (new : Playing) : Type 0 where
  pub takes : Takes old.target bytes new.target
  pub others : new ≡ record old { target = new.target }

-- the bridge sends bytes to a side
abbrev pub SendsTo : Side → Playing → List ℕ → Playing → Type 0
SendsTo Client old bytes new = new ≡ old
SendsTo Target old bytes new = TakesIn old bytes new

-- Whether the target alone was reached, the log of a session so far, and where the session stands. Where the target alone
-- is reached, the client's side is shut with no entry.
pub data Played (script : Script) : Bool → List Entry → Playing → Type 0 where
  begins : Played script false [] (beginning script)
  reaches : {log : List Entry} {old new : Playing} → Played script false log old → new ≡ closed Client old
      → Played script true log new
  hears : {alone : Bool} {log : List Entry} {old new : Playing} {entry : Entry} → Played script alone log old
      → Comes old entry new → Played script alone (log ++ entry ∷ []) new
  sends : {alone : Bool} {log : List Entry} {old new : Playing} (side : Side) (bytes : List ℕ)
      → Played script alone log old → SendsTo side old bytes new → Played script alone (log ++ Out side bytes ∷ []) new
