-- What a target hears: its debugger's handshake, and then packets, each a command; and why it takes nothing more (JDWP,
-- JDWP Start Up; JDWP, JDWP Packets).
use Rattle.std.specs.Prelude.{◌≡◌, ℕ, ◌+◌, true, false, List, length, Option, Some, None, Result, Ok, Err}
use Rattle.wire_core.specs.Streams.{Front, waits, whole, faulty}
use Rattle.jdwp_values.specs.declared.sizes.IdSizes.{IdSizes}
use Rattle.jdwp_commands.specs.declared.asked.Asked.{Asked}
use Rattle.jdwp_commands.specs.declared.fault.BodyFault.{BodyFault}
use Rattle.jdwp_commands.specs.Commands.{command_at}
use Rattle.jdwp_packets.specs.declared.fault.PacketFault.{PacketFault}
use Rattle.jdwp_packets.specs.Packets.{Packet, command_packet, reply_packet}
use Rattle.jdwp_packets.specs.Receiving.{Received, received_front, left_behind}
use Rattle.jdwp_packets.specs.Receiving.{received as fed_with}
use Rattle.target_server.specs.declared.commands.Command.{Command}
use Rattle.target_server.specs.declared.trouble.TargetTrouble.{TargetTrouble}
use Rattle.target_server.specs.declared.trouble.TargetTrouble.TheVariants.{NoMemory, Packet as BadPacket, NotACommand}
use Rattle.target_server.specs.declared.trouble.TargetTrouble.TheVariants.{Body as BadBody}
use Rattle.target_server.specs.Joints.{Joint, received, Greets}

-- A target, what was fed to it and not taken, and why it takes nothing more.
pub record TargetState : Type 0 where
  pub joint : Joint
  pub heard : Received
  pub trouble : Option TargetTrouble

-- how far a stream came
abbrev pub heard_end : Received → ℕ
heard_end heard = heard.stream.at + length heard.stream.pending

-- the next piece of that stream came
abbrev pub fed : TargetState → List ℕ → TargetState
fed t piece = record t { heard = fed_with t.heard piece }

-- What comes next -----------------------------------------------------------------------------------------------------

-- the command of a packet, or why it has none
abbrev pub command_or : ℕ → ℕ → Result Asked BodyFault → Result Command TargetTrouble
command_or id at (Ok asked) = Ok (record { id = id; asked = asked })
command_or id at (Err fault) = Err (BadBody at fault)

-- the command of a packet at an offset of the stream; a reply is none
abbrev pub command_of : IdSizes → ℕ → Packet → Result Command TargetTrouble
command_of sizes at (command_packet id set number body) = command_or id at (command_at sizes set number body)
command_of sizes at (reply_packet id error body) = Err (NotACommand at)

-- it is there
abbrev pub if_read : Result Command TargetTrouble → Result (Option Command) TargetTrouble
if_read (Ok command) = Ok (Some command)
if_read (Err trouble) = Err trouble

-- the command at the front of a stream, by what stands there
abbrev pub next_by : IdSizes → ℕ → Front Packet PacketFault → Result (Option Command) TargetTrouble
next_by sizes at waits = Ok None
next_by sizes at (whole packet n) = if_read (command_of sizes at packet)
next_by sizes at (faulty fault behind) = Err (BadPacket (record { fault = fault; at = at + behind }))

-- the command that comes next in a stream, nothing while none is whole, or why nothing more is taken
abbrev pub next_in : IdSizes → Received → Result (Option Command) TargetTrouble
next_in sizes heard = next_by sizes heard.stream.at (received_front heard.greeted heard.stream.pending)

-- the same of a target
abbrev pub next_of : TargetState → Result (Option Command) TargetTrouble
next_of t = next_in t.joint.world.sizes t.heard

-- what stood at the front is taken
abbrev pub passed : TargetState → TargetState
passed t = record t { heard = left_behind t.heard }

-- the target takes no more
abbrev pub stopped : TargetTrouble → TargetState → TargetState
stopped trouble t = record t { trouble = Some trouble }

-- it gets a command
abbrev pub gets : Command → TargetState → TargetState
gets command t = record t { joint = received command t.joint }

-- What is taken -------------------------------------------------------------------------------------------------------

-- the debugger's handshake is answered as soon as it is there
pub data Answers (t : TargetState) : TargetState → Type 0 where
  is_greeted : t.joint.flight.greeted ≡ true → Answers t t
  waits_on : t.heard.greeted ≡ false → Answers t t
  greets : {joint : Joint} → t.heard.greeted ≡ true → Greets t.joint joint → Answers t (record t { joint = joint })

-- one command is taken
pub record TakesOne (old new : TargetState) : Type 0 where
  pub command : Command
  pub next : next_of old ≡ Ok (Some command)
  pub same : new ≡ gets command (passed old)

-- some commands are taken, one after the other
pub data Takes : TargetState → TargetState → Type 0 where
  none : {t : TargetState} → Takes t t
  one_more : {old middle new : TargetState} → Takes old middle → TakesOne middle new → Takes old new

-- all that are whole are taken
pub record TakesAll (old new : TargetState) : Type 0 where
  pub takes : Takes old new
  pub waits : next_of new ≡ Ok None

-- all before one that is refused
pub record TakesUpTo (old : TargetState) (trouble : TargetTrouble) (new : TargetState) : Type 0 where
  pub last : TargetState
  pub takes : Takes old last
  pub refused : next_of last ≡ Err trouble
  pub same : new ≡ passed last

-- Feeding -------------------------------------------------------------------------------------------------------------

-- a piece of the debugger's stream came: its handshake is answered, and all commands that are whole are taken
pub record Hears (old : TargetState) (piece : List ℕ) (new : TargetState) : Type 0 where
  pub greeted : TargetState
  pub answers : Answers (fed old piece) greeted
  pub takes : TakesAll greeted new

-- a piece came in which something is refused: it and all behind it isn't taken
pub record HearsUpTo (old : TargetState) (piece : List ℕ) (trouble : TargetTrouble) (new : TargetState) : Type 0 where
  pub greeted : TargetState
  pub answers : Answers (fed old piece) greeted
  pub takes : TakesUpTo greeted trouble new

-- a piece was fed to a target that takes some
pub record Feeds (old : TargetState) (piece : List ℕ) (new : TargetState) : Type 0 where
  pub may : old.trouble ≡ None
  pub hears : Hears old piece new

-- the same, and from then on it takes no more
pub record FeedsUpTo (old : TargetState) (piece : List ℕ) (trouble : TargetTrouble) (new : TargetState) : Type 0 where
  pub last : TargetState
  pub hears : HearsUpTo old piece trouble last
  pub same : new ≡ stopped trouble last

-- Where memory is refused, nothing is said.
abbrev pub IfSaid : (TargetTrouble → Type 0) → TargetTrouble → Type 0
IfSaid says NoMemory = Unit {0}
IfSaid says (BadPacket trouble) = says (BadPacket trouble)
IfSaid says (NotACommand at) = says (NotACommand at)
IfSaid says (BadBody at fault) = says (BadBody at fault)

-- what a function answers is this, unless memory ran out
abbrev pub IsThis : {A : Type 0} → Result A TargetTrouble → Result A TargetTrouble → Type 0
IsThis this (Ok x) = this ≡ Ok x
IsThis this (Err trouble) = IfSaid (λ t. this ≡ Err t) trouble
