-- What the lines of a schedule do. At each, the bridge hears of at most one thing.
use Rattle.std.specs.Prelude.{◌≡◌, ℕ, ◌<◌, Bool, true, false, if◌then◌else◌, List, [], ◌∷◌, length, slice_get}
use Rattle.std.specs.Prelude.{Option, Some, None}
use Rattle.wire_core.specs.declared.outside.Side.{Side}
use Rattle.wire_core.specs.declared.outside.Side.TheVariants.{Client, Target}
use Rattle.wire_core.specs.declared.outside.Entry.{Entry}
use Rattle.wire_core.specs.declared.outside.Entry.TheVariants.{Shut as ends}
use Rattle.target_server.specs.Joints.{Serves, Advances, next_move}
use Rattle.script_rows.specs.declared.script.Turn.{Turn}
use Rattle.script_rows.specs.declared.script.Turn.TheVariants as lines
use Rattle.script_wires.specs.Playing.{Playing, is_open, last_side, coming, piece, come, heard, with_joint, with_lines}
use Rattle.script_wires.specs.Playing.{asked, closed_by}

-- The target ----------------------------------------------------------------------------------------------------------

-- the target serves the command at this place of those that wait
pub record ServesAt (place : ℕ) (old new : Playing) : Type 0 where
  pub serves : Serves old.target.joint place new.target.joint
  pub others : new ≡ with_joint new.target.joint old

-- no command is at this place
abbrev pub HasNone : ℕ → Playing → Type 0
HasNone place p = slice_get p.target.joint.unserved place ≡ None

-- the target's program makes its next move
pub record MovesOn (old new : Playing) : Type 0 where
  pub advances : Advances old.target.joint new.target.joint
  pub others : new ≡ with_joint new.target.joint old

-- none can be made
abbrev pub IsHeld : Playing → Type 0
IsHeld p = next_move p.target.joint.world p.target.joint.program ≡ None

-- a command is served where there is one
pub data ServesIf (place : ℕ) (old new : Playing) : Type 0 where
  serves : ServesAt place old new → ServesIf place old new
  has_none : HasNone place old → new ≡ old → ServesIf place old new

-- a move is made where one can be
pub data MovesIf (old new : Playing) : Type 0 where
  moves : MovesOn old new → MovesIf old new
  is_held : IsHeld old → new ≡ old → MovesIf old new

-- the target serves its oldest command; where none waits it makes its next move, if moves are asked for
pub data Works (moving : Bool) (old new : Playing) : Type 0 where
  serves : ServesAt 0 old new → Works moving old new
  moves : HasNone 0 old → moving ≡ true → MovesOn old new → Works moving old new

-- it can do neither
pub record IsIdle (moving : Bool) (p : Playing) : Type 0 where
  pub none_waits : HasNone 0 p
  pub is_held : moving ≡ true → IsHeld p

-- Lines ---------------------------------------------------------------------------------------------------------------

-- the bridge gets the first bytes that are on their way from a side, or waits in vain
pub record Gives (side : Side) (most : ℕ) (old : Playing) (said : Option Entry) (new : Playing) : Type 0 where
  pub hears : said ≡ Some (heard side (piece most side old))
  pub rest : new ≡ come side (length (piece most side old)) old

-- the same of the client, while it is there; where its side has ended, the line is passed over
pub data GivesIfOpen (most : ℕ) (old : Playing) (said : Option Entry) (new : Playing) : Type 0 where
  gives : old.client_open ≡ true → Gives Client most old said new → GivesIfOpen most old said new
  passes : old.client_open ≡ false → said ≡ None → new ≡ old → GivesIfOpen most old said new

-- bytes come that are on their way, the client's first
pub data GivesFirst (old : Playing) (said : Option Entry) (new : Playing) : Type 0 where
  of_client : 0 < length (coming Client old) → Gives Client 65536 old said new → GivesFirst old said new
  of_target : coming Client old ≡ [] → 0 < length (coming Target old) → Gives Target 65536 old said new
      → GivesFirst old said new

-- none are on their way
pub record IsStill (p : Playing) : Type 0 where
  pub client : coming Client p ≡ []
  pub target : coming Target p ≡ []

-- The first of these that can be done: bytes come, or the target works. Where nothing can be done, the line is done.
pub data Settles (moving : Bool) (rest : List Turn) (old : Playing) (said : Option Entry) (new : Playing) : Type 0 where
  gives : GivesFirst old said new → Settles moving rest old said new
  works : IsStill old → said ≡ None → Works moving old new → Settles moving rest old said new
  is_done : IsStill old → IsIdle moving old → said ≡ None → new ≡ with_lines rest old → Settles moving rest old said new

-- what a line does, with these lines behind it
abbrev pub DoesLine : Turn → List Turn → Playing → Option Entry → Playing → Type 0
DoesLine (lines.Ask command arguments) rest old said new =
    (said ≡ None) × (new ≡ asked command arguments (with_lines rest old))
DoesLine (lines.Client most) rest old said new = GivesIfOpen most (with_lines rest old) said new
DoesLine (lines.Target most) rest old said new = Gives Target most (with_lines rest old) said new
DoesLine (lines.Serve place) rest old said new = (said ≡ None) × ServesIf place (with_lines rest old) new
DoesLine lines.Move rest old said new = (said ≡ None) × MovesIf (with_lines rest old) new
DoesLine lines.Settle rest old said new = Settles true rest old said new
DoesLine lines.Deliver rest old said new = Settles false rest old said new
DoesLine (lines.Shut side) rest old said new =
    (said ≡ (if is_open side old then Some (ends side) else None)) × (new ≡ with_lines rest old)

-- what the first line does; where none is left, the client's stream ends, and then the target's
abbrev pub Does : List Turn → Playing → Option Entry → Playing → Type 0
Does [] old said new = (said ≡ Some (ends (last_side old))) × (new ≡ old)
Does (line ∷ rest) old said new = DoesLine line rest old said new

abbrev pub Steps : Playing → Option Entry → Playing → Type 0
Steps old said new = Does old.schedule old said new

-- Over lines ----------------------------------------------------------------------------------------------------------

-- lines are done of which the bridge hears nothing
pub data GoesOn : Playing → Playing → Type 0 where
  none : {p : Playing} → GoesOn p p
  one_more : {old middle new : Playing} → GoesOn old middle → Steps middle None new → GoesOn old new

-- and then one of which it hears
pub record Reaches (old : Playing) (entry : Entry) (new : Playing) : Type 0 where
  pub before : Playing
  pub goes_on : GoesOn old before
  pub steps : Steps before (Some entry) new

-- the bridge hears this next; a side may end with it
pub record Comes (old : Playing) (entry : Entry) (new : Playing) : Type 0 where
  pub behind : Playing
  pub reaches : Reaches old entry behind
  pub closes : new ≡ closed_by entry behind
