-- A target and what lies between it and its debugger, and the moves that it can make: it is greeted, it gets a command,
-- it serves one, its program makes a move, and bytes go out. Commands are served in any order. What it makes of them,
-- and of its program's moves, is said of its world (crate world_model).
use Rattle.std.specs.Prelude.{◌≡◌, ℕ, ◌<◌, ◌^◌, Bool, true, false, not, ◌&&◌, if◌then◌else◌, List, [], ◌∷◌, ◌++◌, remove, drop}
use Rattle.std.specs.Prelude.{slice_get, Option, Some, None, option_map, Result, Ok, Err}
use Rattle.jdwp_values.specs.declared.id.ThreadId.{ThreadId}
use Rattle.jdwp_events.specs.declared.composite.Composite.{Composite}
use Rattle.jdwp_events.specs.declared.event.Event.TheVariants as events
use Rattle.jdwp_events.specs.declared.kind.Policy.{Policy}
use Rattle.jdwp_events.specs.declared.kind.Policy.TheVariants as policies
use Rattle.jdwp_commands.specs.declared.asked.Asked.{Asked}
use Rattle.jdwp_commands.specs.declared.asked.Asked.TheVariants as commands
use Rattle.jdwp_commands.specs.declared.asked.Replied.{Replied}
use Rattle.world_model.specs.declared.moves.Move.{Move}
use Rattle.world_model.specs.declared.moves.MoveTrouble.{MoveTrouble}
use Rattle.world_model.specs.declared.world.World.{World}
use Rattle.world_model.specs.Effects.{applied}
use Rattle.world_model.specs.Moving.{count_behind, moved}
use Rattle.world_model.specs.Replies.{reply_of}
use Rattle.target_server.specs.declared.commands.Command.{Command}
use Rattle.target_server.specs.Flights.{Flight, nothing_sent, shaken, released, gone, replied, CanReply, told_if}
use Rattle.target_server.specs.Flights.{CanTellIf}

-- A world; the moves of its program that are left; the thread and the policy of its start, where that is to be told; the
-- commands that came and were not served, in order; and what is on its way to the debugger.
pub record Joint : Type 0 where
  pub world : World
  pub program : List Move
  pub begin : Option (ThreadId × Policy)
  pub unserved : List Command
  pub flight : Flight

-- a joint at its beginning
abbrev pub joint_of : World → List Move → Option (ThreadId × Policy) → Joint
joint_of world program begin =
    record { world = world; program = program; begin = begin; unserved = []; flight = nothing_sent }

-- The handshake ------------------------------------------------------------------------------------------------------

-- the start of a target (JDWP, Event command set, Composite, VMStart)
abbrev pub start_event : ThreadId × Policy → Composite
start_event begin = record { policy = begin.1; events = events.VMStart 0 begin.0 ∷ [] }

-- it is told where it is to be and the target has not ended
abbrev pub start_of : Bool → Option (ThreadId × Policy) → Option Composite
start_of true begin = None
start_of false begin = option_map start_event begin

-- the target sends its handshake and then its start, which suspends as its policy says (JDWP, JDWP Start Up)
abbrev pub greeted_with : Option Composite → Joint → Joint
greeted_with start j = record j {
  world = record j.world { count = count_behind j.world.count start };
  begin = None;
  flight = released (told_if j.world.sizes start (shaken j.flight));
}

-- the debugger's handshake came; suspensions stay fewer than 2 ^ 64
pub record Greets (old new : Joint) : Type 0 where
  pub first : old.flight.greeted ≡ false
  pub spelled : CanTellIf old.world.sizes (start_of old.world.dead old.begin)
  pub same : new ≡ greeted_with (start_of old.world.dead old.begin) old
  pub few : new.world.count < 2 ^ 64

-- Commands -----------------------------------------------------------------------------------------------------------

-- a command came
abbrev pub received : Command → Joint → Joint
received command j = record j { unserved = j.unserved ++ command ∷ [] }

-- what a world makes of a command, and replies
unfoldable pub answered : World → Asked → Option (World × Replied)
answered w (commands.Question question) = Some (w, reply_of w question)
answered w (commands.Effect effect) = applied w effect

-- the end of a target is told unasked, and suspends nothing (JDWP, Event command set, Composite, VMDeath)
abbrev pub end_event : Composite
end_event = record { policy = policies.NoThread; events = events.VMDeath 0 ∷ [] }

-- it is told where a target has ended that had not before
abbrev pub end_of : Bool → Bool → Option Composite
end_of before now = if now && not before then Some end_event else None

-- a command is done: its reply goes on its way, and behind it the target's end, where that was asked for (JDWP,
-- VirtualMachine command set, Exit)
abbrev pub done : World → World → Command → Replied → Flight → Flight
done w now command reply f =
    told_if now.sizes (end_of w.dead now.dead) (replied now.sizes command.id reply f)

-- the command at this place of those that wait is served
pub record Serves (old : Joint) (place : ℕ) (new : Joint) : Type 0 where
  pub command : Command
  pub waited : slice_get old.unserved place ≡ Some command
  pub reply : Replied
  pub answers : answered old.world command.asked ≡ Some (new.world, reply)
  pub spelled : CanReply new.world.sizes reply
  pub flight : new.flight ≡ done old.world new.world command reply old.flight
  pub others : new
      ≡ record old { world = new.world; unserved = remove old.unserved place; flight = new.flight }

-- The program --------------------------------------------------------------------------------------------------------

-- what is made, where something can be
abbrev pub if_made : Result (World × Option Composite) MoveTrouble → Option (World × Option Composite)
if_made (Ok made) = Some made
if_made (Err trouble) = None

-- The next move of the program, with the events that tell of it. None is made by a target that has ended, while all
-- threads are suspended, at the program's end, and where the move can't be made in this world.
abbrev pub next_move : World → List Move → Option (World × Option Composite)
next_move w [] = None
next_move w (next ∷ rest) = if_made (moved w next)

-- a move was made: the events that tell of it go on their way
abbrev pub moved_on : World × Option Composite → Joint → Joint
moved_on made j = record j {
  world = made.0;
  program = drop 1 j.program;
  flight = told_if made.0.sizes made.1 j.flight;
}

-- the program makes its next move
pub record Advances (old new : Joint) : Type 0 where
  pub made : World × Option Composite
  pub can : next_move old.world old.program ≡ Some made
  pub spelled : CanTellIf made.0.sizes made.1
  pub same : new ≡ moved_on made old

-- The moves of a joint -----------------------------------------------------------------------------------------------

-- so many bytes went out
abbrev pub left : ℕ → Joint → Joint
left n j = record j { flight = gone n j.flight }

-- one move of a target and its debugger
pub data Moves (old : Joint) : Joint → Type 0 where
  greets : {new : Joint} → Greets old new → Moves old new
  receives : (command : Command) → old.flight.greeted ≡ true → Moves old (received command old)
  serves : {new : Joint} (place : ℕ) → Serves old place new → Moves old new
  advances : {new : Joint} → Advances old new → Moves old new
  leaves : (n : ℕ) → Moves old (left n old)
