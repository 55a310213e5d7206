-- What becomes of a target call by call, and of its joint move by move.
use Rattle.std.specs.Prelude.{◌≡◌, ℕ, true, List, ◌∷◌, slice_get, Option, Some, None, Err}
use Rattle.jdwp_values.specs.declared.id.ThreadId.{ThreadId}
use Rattle.jdwp_events.specs.declared.kind.Policy.{Policy}
use Rattle.jdwp_commands.specs.declared.asked.Asked.TheVariants as commands
use Rattle.jdwp_commands.specs.declared.asked.Replied.{Replied}
use Rattle.jdwp_commands.specs.declared.effect.Effect.{Effect}
use Rattle.jdwp_packets.specs.Receiving.{nothing_received}
use Rattle.world_model.specs.declared.moves.Move.{Move}
use Rattle.world_model.specs.declared.moves.MoveTrouble.TheVariants.{BadMove}
use Rattle.world_model.specs.declared.world.World.{World}
use Rattle.world_model.specs.Effects.{applied}
use Rattle.world_model.specs.Kept.{puts_values}
use Rattle.world_model.specs.Moving.{moved}
use Rattle.target_server.specs.declared.commands.Command.{Command}
use Rattle.target_server.specs.declared.trouble.TargetTrouble.{TargetTrouble}
use Rattle.target_server.specs.Hearing.{TargetState, Feeds, FeedsUpTo}
use Rattle.target_server.specs.Joints.{Joint, joint_of, Serves, Advances, left, Moves}

-- a joint goes to another by moves
pub data Goes : Joint → Joint → Type 0 where
  stays : {j : Joint} → Goes j j
  goes : {old middle new : Joint} → Goes old middle → Moves middle new → Goes old new

-- What a call that had memory makes of a target. One that answers false, or a trouble again, makes nothing of it.
pub data Calls (old : TargetState) : TargetState → Type 0 where
  feeds : {new : TargetState} (piece : List ℕ) → Feeds old piece new → Calls old new
  feeds_up_to : {new : TargetState} (piece : List ℕ) (trouble : TargetTrouble) → FeedsUpTo old piece trouble new
      → Calls old new
  serves : {joint : Joint} (place : ℕ) → Serves old.joint place joint → Calls old (record old { joint = joint })
  advances : {joint : Joint} → Advances old.joint joint → Calls old (record old { joint = joint })
  sends : (n : ℕ) → Calls old (record old { joint = left n old.joint })

-- a target to which nothing was fed
abbrev pub fresh : World → List Move → Option (ThreadId × Policy) → TargetState
fresh world program begin =
    record { joint = joint_of world program begin; heard = nothing_received; trouble = None }

-- calls, one after the other, in any order
pub data Course (begin : TargetState) : TargetState → Type 0 where
  begins : Course begin begin
  calls : {old new : TargetState} → Course begin old → Calls old new → Course begin new

-- a command that puts a value was served (JDWP, Detailed Command Information, commands SetValues)
pub record PutsOne (old new : Joint) : Type 0 where
  pub command : Command
  pub place : ℕ
  pub waited : slice_get old.unserved place ≡ Some command
  pub effect : Effect
  pub asked : command.asked ≡ commands.Effect effect
  pub puts : puts_values effect ≡ true
  pub replied : Replied
  pub done : applied old.world effect ≡ Some (new.world, replied)

-- the first move can't be made in this world
pub record IsStuck (w : World) (program : List Move) : Type 0 where
  pub next : Move
  pub rest : List Move
  pub parts : program ≡ next ∷ rest
  pub bad : moved w next ≡ Err BadMove
