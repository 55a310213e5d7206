-- Which bytes say a message: what goes out, and what comes in.
use Rattle.std.specs.Prelude.{ℕ, ◌≡◌, ◌<◌, ◌+◌, ◌==◌, Bool, true, false, cond, List, Option, Some}
use Rattle.std.specs.Prelude.{Ok}
use Rattle.dap_frames.specs.Frames.{Frame, frame_bytes, frame_front}
use Rattle.dap_messages.specs.Reading.{reading_of}
use Rattle.dap_messages.specs.Telling.{told_text}
use Rattle.dap_messages.specs.declared.requests.Incoming.TheVariants.{Request as a_request}
use Rattle.jdwp_commands.specs.Answers.{answer_at}
use Rattle.jdwp_commands.specs.Commands.{number_of, spell_command}
use Rattle.jdwp_commands.specs.declared.asked.Asked.{Asked}
use Rattle.jdwp_events.specs.Composites.{composite_at}
use Rattle.jdwp_packets.specs.Packets.{Packet, command_packet, handshake, packet_bytes, reply_packet}
use Rattle.jdwp_values.specs.declared.sizes.IdSizes.{IdSizes}
use Rattle.machine_model.specs.Replying.{SizesFor, wire}
use Rattle.machine_model.specs.Runs.{Message}
use Rattle.machine_model.specs.State.{SizesRead}
use Rattle.pending_table.specs.Windows.{Window, id_of, pending_under, settled, with_sent}
use Rattle.session_model.specs.Names.{an_answer, an_error, Answer, Client, Composite, Replied, Request, Side}
use Rattle.session_model.specs.Names.{Target, TargetCommand, Told}
use Rattle.session_model.specs.States.{SessionState, StreamState, id_pending, past_packet, target_front}
use Rattle.wire_core.specs.Streams.{Front, past}

-- What goes out -------------------------------------------------------------------------------------------------------

-- What the client is told, with so many messages before it: messages are numbered 1, 2, 3, and so on, and each is one
-- frame (DAP overview, Base protocol; DAP specification, Base Protocol, ProtocolMessage, `seq`).
abbrev pub told_bytes : ℕ → Told → List ℕ
told_bytes n told = frame_bytes (told_text (n + 1) told)

-- one message more was told
abbrev pub one_told : StreamState → StreamState
one_told streams = record streams { told = streams.told + 1 }

-- The packet of a command, with so many commands before it: its id, its set and number, and its body (JDWP, JDWP
-- Packets, command packet).
abbrev pub nth_command : ℕ → IdSizes → Asked → List ℕ
nth_command n used asked =
    packet_bytes (command_packet (id_of n) (number_of asked).0 (number_of asked).1 (spell_command used asked))

-- one command more was sent
abbrev pub one_sent : StreamState → TargetCommand → StreamState
one_sent streams command = record streams { commands = with_sent (wire command) streams.commands }

-- What goes out, to which side, as which bytes. A command goes only where its id isn't that of another one that has no
-- reply yet.
pub data Speaks (s : SessionState) : Message → Side → List ℕ → StreamState → Type 0 where
  tells : {told : Told}
      → Speaks s (Message.tells told) Client (told_bytes s.streams.told told) (one_told s.streams)
  greets : Speaks s Message.greets Target handshake s.streams
  sends : {command : TargetCommand} {used : IdSizes} → id_pending s.streams.commands ≡ false
      → SizesFor s.machine.state.sizes used
      → Speaks s (Message.sends command) Target (nth_command s.streams.commands.next used (wire command))
      (one_sent s.streams command)

-- What comes in -------------------------------------------------------------------------------------------------------

-- What the reply packet to a command says: the error 0 stands for an answer; the body of another error is not looked at
-- (JDWP, JDWP Packets, reply packet).
pub data SaysReply (sizes : Option SizesRead) (command : TargetCommand) : ℕ → List ℕ → Replied → Type 0 where
  answers : {body : List ℕ} {answer : Answer} {used : IdSizes} → SizesFor sizes used
      → answer_at used (wire command) body ≡ Ok answer → SaysReply sizes command 0 body (an_answer answer)
  refuses : {error : ℕ} {body : List ℕ} → 0 < error → SaysReply sizes command error body (an_error error)

-- the set and number of a composite (JDWP, Event command set)
abbrev pub is_composite : ℕ → ℕ → Bool
is_composite set number = cond (set == 64) (number == 100) false

-- What a packet of the target's says, and the commands that have no reply then: a reply is to the command with its id;
-- a composite is read, or kept unread (JDWP, JDWP Packets; JDWP, Event command set, Composite).
pub data PacketSays (s : SessionState) : Packet → Message → Window → Type 0 where
  answers : {id error : ℕ} {body : List ℕ} {command : TargetCommand} {replied : Replied}
      → pending_under id s.streams.commands.sent ≡ Some (wire command)
      → SaysReply s.machine.state.sizes command error body replied
      → PacketSays s (reply_packet id error body) (Message.answers command replied) (settled id s.streams.commands)
  comes : {id set number : ℕ} {body : List ℕ} {composite : Composite} {used : IdSizes}
      → is_composite set number ≡ true → SizesFor s.machine.state.sizes used
      → composite_at used body ≡ Ok composite
      → PacketSays s (command_packet id set number body) (Message.comes s.streams.target.stream.at composite)
      s.streams.commands
  keeps : {id set number : ℕ} {body : List ℕ} → is_composite set number ≡ true
      → PacketSays s (command_packet id set number body) (Message.keeps s.streams.target.stream.at body)
      s.streams.commands

-- What comes in: a request is one whole frame at the front of the client's uncut bytes; the target's handshake is taken
-- up once it came, and before its packets; a packet is one whole at the front of the target's uncut bytes; the end of
-- its stream is taken up once it came; and a composite that was kept is read from its own bytes.
pub data Brings (s : SessionState) : Message → StreamState → Type 0 where
  hears : {request : Request} {frame : Frame} {n : ℕ} → frame_front s.streams.client.pending ≡ Front.whole frame n
      → reading_of frame.body ≡ Ok (a_request request)
      → Brings s (Message.hears request) (record s.streams { client = past s.streams.client n })
  greeted : s.streams.target.greeted ≡ true → Brings s Message.greeted s.streams
  packet : {message : Message} {commands : Window} {packet : Packet} {n : ℕ}
      → s.machine.state.greeting_heard ≡ true → target_front s.streams ≡ Front.whole packet n
      → PacketSays s packet message commands
      → Brings s message (record (past_packet s.streams n) { commands = commands })
  ends : s.streams.ended ≡ true → Brings s Message.ends (record s.streams { ended = false })
  reads : {at : ℕ} {body : List ℕ} {composite : Composite} {used : IdSizes} → SizesFor s.machine.state.sizes used
      → composite_at used body ≡ Ok composite → Brings s (Message.reads at body composite) s.streams
