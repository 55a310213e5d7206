-- A target that obeys JDWP, apart from its debugger: its world, the commands that it hasn't served, and what it has
-- sent; and the bytes of that, as a scripted target sends them.
use Rattle.std.specs.Prelude.{◌≡◌, ℕ, true, false, List, [], ◌∷◌, ◌++◌, remove, slice_get, Some, Option, None}
use Rattle.std.specs.List.{AllByRecursion}
use Rattle.jdwp_values.specs.declared.sizes.IdSizes.{IdSizes}
use Rattle.jdwp_events.specs.declared.composite.Composite.{Composite}
use Rattle.jdwp_commands.specs.declared.asked.Replied.{Replied}
use Rattle.jdwp_packets.specs.Packets.{Packet, handshake, packet_bytes}
use Rattle.joint_model.specs.Obeying.{Emits, Runs, Serves}
use Rattle.target_server.specs.declared.commands.Command.{Command}
use Rattle.target_server.specs.Flights.{CanReply, CanTell, Flight, packet_of_events, packet_of_reply}
use Rattle.target_server.specs.Joints.{Joint}
use Rattle.world_model.specs.declared.world.World.{World}

-- What is sent, with the id of its packet: a reply has that of its command (JDWP, JDWP Packets).
pub data Sent : Type 0 where
  a_reply : (id : ℕ) → Replied → Sent
  some_events : (id : ℕ) → Composite → Sent

-- what is said by it, whatever the number of its packet
pub data Said : Type 0 where
  of_reply : Replied → Said
  of_events : Composite → Said

abbrev pub said_of : Sent → Said
said_of (a_reply id replied) = Said.of_reply replied
said_of (some_events id composite) = Said.of_events composite

-- what is said by events, if there are any
abbrev pub said_by : Option Composite → List Said
said_by None = []
said_by (Some composite) = Said.of_events composite ∷ []

-- A world, the commands that came and were not served, and all that was sent, each in order.
pub record Side : Type 0 where
  pub world : World
  pub unserved : List Command
  pub sent : List Sent

-- one thing that a target which obeys JDWP may do: a command comes, one is served, at any place of those that wait, the
-- program runs, or events go out
pub data Does (old : Side) : Side → Type 0 where
  gets : (command : Command) → Does old (record old { unserved = old.unserved ++ command ∷ [] })
  serves : {now : World} {reply : Replied} (place : ℕ) (command : Command)
      → slice_get old.unserved place ≡ Some command → Serves old.world command.asked reply now
      → Does old (record {
        world = now;
        unserved = remove old.unserved place;
        sent = old.sent ++ a_reply command.id reply ∷ [];
      })
  runs : {now : World} → Runs old.world now → Does old (record old { world = now })
  emits : {composite : Composite} {now : World} (id : ℕ) → Emits old.world composite now
      → Does old (record old { world = now; sent = old.sent ++ some_events id composite ∷ [] })

-- a course of such
pub data Obeys : Side → Side → Type 0 where
  stays : {side : Side} → Obeys side side
  does : {old middle new : Side} → Obeys old middle → Does middle new → Obeys old new

-- Bytes ---------------------------------------------------------------------------------------------------------------

-- the packet of what is sent
abbrev pub packet_sent : IdSizes → Sent → Packet
packet_sent sizes (a_reply id reply) = packet_of_reply sizes id reply
packet_sent sizes (some_events id composite) = packet_of_events sizes id composite

-- it has a spelling, which a packet has room for
abbrev pub CanSend : IdSizes → Sent → Type 0
CanSend sizes (a_reply id reply) = CanReply sizes reply
CanSend sizes (some_events id composite) = CanTell sizes composite

-- the bytes of all that is sent
abbrev pub bytes_sent : IdSizes → List Sent → List ℕ
bytes_sent sizes [] = []
bytes_sent sizes (one ∷ sent) = packet_bytes (packet_sent sizes one) ++ bytes_sent sizes sent

-- These bytes went out, and with those on their way they are the handshake and the packets of what was sent. Before the
-- handshake those packets wait, and none goes out (JDWP, JDWP Start Up).
pub data AreSent (sizes : IdSizes) (sent : List Sent) (out : List ℕ) (f : Flight) : Type 0 where
  wait : f.greeted ≡ false → out ++ f.bytes ≡ [] → f.held ≡ bytes_sent sizes sent → AreSent sizes sent out f
  go : f.greeted ≡ true → f.held ≡ [] → out ++ f.bytes ≡ handshake ++ bytes_sent sizes sent
      → AreSent sizes sent out f

-- A scripted target beside a target that obeys JDWP, and the bytes that went out: the two have one world, the same
-- commands are unserved, and the bytes are those of what was sent.
pub record IsBeside (out : List ℕ) (j : Joint) (side : Side) : Type 0 where
  pub world : j.world ≡ side.world
  pub unserved : j.unserved ≡ side.unserved
  pub spelled : AllByRecursion (CanSend j.world.sizes) side.sent
  pub bytes : AreSent j.world.sizes side.sent out j.flight
