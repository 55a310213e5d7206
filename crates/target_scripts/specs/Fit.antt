-- What the parts of a script are to a target: the world that it begins in, the moves of its program and its start.
use Rattle.std.specs.Prelude.{◌≡◌, ℕ, ◌<◌, ◌≤◌, ◌^◌, true, false, List, [], ◌∷◌, Option, Some, None, Ok}
use Rattle.jdwp_events.specs.declared.composite.Composite.{Composite}
use Rattle.jdwp_events.specs.declared.kind.Policy.TheVariants.{EventThread}
use Rattle.script_rows.specs.declared.script.Begin.{Begin}
use Rattle.script_rows.specs.declared.script.Script.{Script}
use Rattle.script_worlds.specs.Given.{is_thread}
use Rattle.script_worlds.specs.Growing.{IsGrowing}
use Rattle.world_model.specs.declared.moves.Move.{Move}
use Rattle.world_model.specs.declared.world.World.{World}
use Rattle.world_model.specs.Moving.{moved}
use Rattle.world_model.specs.Sound.{IsSound}
use Rattle.target_scripts.specs.declared.building.Building.{Building}

-- each move can be made where all moves before it were made, and leaves the world sound
abbrev pub AreMade : World → List Move → Type 0
AreMade w [] = Unit {0}
AreMade w (next ∷ rest) =
    (made : World × Option Composite) × (moved w next ≡ Ok made) × IsSound made.0 × AreMade made.0 rest

-- a start names a thread of the world, and suspends all threads or none (JDWP, Event command set, Composite, VMStart)
abbrev pub HasBegun : World → Option Begin → Type 0
HasBegun w None = Unit {0}
HasBegun w (Some begin) = (is_thread w begin.thread ≡ true) × (begin.policy ≡ EventThread → ⊥)

-- limits under which a session can be served: each is at least 1, and there are at most 2^40 happenings
pub record CanServe (turns quiet waiting : ℕ) : Type 0 where
  pub some_turns : 0 < turns
  pub few_turns : turns ≤ 2 ^ 40
  pub some_quiet : 0 < quiet
  pub some_waiting : 0 < waiting

-- The world is sound and its target has not ended; no request stands and nothing is suspended; each move can be made,
-- and leaves it sound; the start names a thread, and isn't told under EVENT_THREAD; and a session can be served under
-- the limits.
pub record IsFit (s : Script) : Type 0 where
  pub sound : IsSound s.world
  pub requests : s.world.requests ≡ []
  pub free : s.world.count ≡ 0
  pub alive : s.world.dead ≡ false
  pub moves : AreMade s.world s.program
  pub begin : HasBegun s.world s.begin
  pub limits : CanServe s.turns s.quiet s.waiting

-- Line by line -------------------------------------------------------------------------------------------------------

-- moves lead from one world to another
abbrev pub Leads : World → List Move → World → Type 0
Leads w [] now = w ≡ now
Leads w (next ∷ rest) now =
    (made : World × Option Composite) × (moved w next ≡ Ok made) × Leads made.0 rest now

-- A script so far: its world is sound but for chains of classes, its moves could be made and lead to the world as it is
-- now, and no move stands before the rows of the world.
pub record IsSoundSoFar (b : Building) : Type 0 where
  pub world : IsGrowing b.script.world
  pub begin : HasBegun b.script.world b.script.begin
  pub moves : Leads b.script.world b.script.program b.running
  pub first : b.last < 13 → b.script.program ≡ []
  pub limits : CanServe b.script.turns b.script.quiet b.script.waiting
