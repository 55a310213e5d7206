-- The target's bytes, where what stands next in them is well formed.
use Rattle.std.specs.Prelude.{ℕ, ◌≡◌, Bool, true, List, Ok, Some, map}
use Rattle.jdwp_commands.specs.declared.asked.Asked.{Asked}
use Rattle.jdwp_events.specs.Composites.{composite_at}
use Rattle.jdwp_packets.specs.Packets.{Packet, command_packet, reply_packet}
use Rattle.jdwp_packets.specs.Receiving.{HandsOut, received_front}
use Rattle.jdwp_packets.specs.declared.fault.PacketFault.{PacketFault}
use Rattle.jdwp_values.specs.declared.sizes.IdSizes.{IdSizes}
use Rattle.machine_model.specs.Replying.{has_good_sizes, sizes_of, wire}
use Rattle.machine_model.specs.Runs.{Message, Run}
use Rattle.machine_model.specs.State.{Machine}
use Rattle.pending_table.specs.Windows.{pending_under}
use Rattle.session_laws.specs.Bytes.{came_from}
use Rattle.session_laws.specs.Replies.{ArePackets, under_id}
use Rattle.session_model.specs.Names.{an_answer, an_error, Composite, Entry, Replied, Target, TargetCommand}
use Rattle.session_model.specs.Saying.{SaysReply, is_composite}
use Rattle.wire_core.specs.Streams.{Front, Uncut}

-- What stands next in the target's bytes, behind its handshake and the packets of which these messages speak; and the
-- commands that have no reply yet, each behind its number (JDWP, JDWP Start Up; JDWP, JDWP Packets).
pub record StandsNext (log : List Entry) (messages : List Message) (unreplied : List (ℕ × Asked))
    (front : Front Packet PacketFault) : Type 0 where
  pub packets : List (ℕ × Packet)
  pub count : ℕ
  pub greeted : Bool
  pub stream : Uncut
  pub cut : HandsOut (came_from Target log) packets greeted stream
  pub said : ArePackets packets messages count unreplied
  pub is : received_front greeted stream.pending ≡ front

-- with the sizes of ids that the target has replied, if so, the body reads as a composite (JDWP, Event command set,
-- Composite)
abbrev pub ReadsAsComposite : List Message → List ℕ → Type 0
ReadsAsComposite messages body = (m : Machine) (used : IdSizes) → Run messages m
    → m.state.sizes ≡ Some (sizes_of used) → (composite : Composite) × (composite_at used body ≡ Ok composite)

-- sizes of ids that are replied are such as ids have, from 1 to 8 (JDWP, VirtualMachine command set, IDSizes)
abbrev pub has_sizes_of_ids : Replied → Bool
has_sizes_of_ids (an_answer answer) = has_good_sizes answer
has_sizes_of_ids (an_error code) = true

-- A reply with this id, this error and this body is to a command that has none yet. Unless it is an error, its body
-- reads as an answer to that (JDWP, JDWP Packets, reply packet).
pub record IsReply (messages : List Message) (unreplied : List (ℕ × Asked)) (id error : ℕ) (body : List ℕ)
    : Type 0 where
  pub command : TargetCommand
  pub pending : pending_under id (map under_id unreplied) ≡ Some (wire command)
  pub says : (m : Machine) → Run messages m → (replied : Replied)
      × SaysReply m.state.sizes command error body replied × (has_sizes_of_ids replied ≡ true)

-- What stands next is well formed: no whole packet and no byte that none has; a reply; or the command of a composite,
-- which is the only one that a target sends (JDWP, JDWP Packets; JDWP, Event command set, Composite).
abbrev pub IsWellFormed : List Message → List (ℕ × Asked) → Front Packet PacketFault → Type 0
IsWellFormed messages unreplied Front.waits = Unit {0}
IsWellFormed messages unreplied (Front.faulty fault distance) = ⊥
IsWellFormed messages unreplied (Front.whole (reply_packet id error body) n) =
    IsReply messages unreplied id error body
IsWellFormed messages unreplied (Front.whole (command_packet id set number body) n) =
    (is_composite set number ≡ true) × ReadsAsComposite messages body
