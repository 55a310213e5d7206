-- Where the bytes of a side, or a composite that was kept, have a fault.
use Rattle.std.specs.Prelude.{ℕ, ◌≡◌, ◌+◌, ◌*◌, ◌∷◌, ◌++◌, true, false, List, [], position}
use Rattle.std.specs.Prelude.{None, Some, Result, Ok, Err}
use Rattle.dap_frames.specs.Frames.{Frame, frame_front}
use Rattle.dap_frames.specs.declared.fault.FrameFault.{FrameFault}
use Rattle.dap_messages.specs.Reading.{reading_of}
use Rattle.dap_messages.specs.declared.requests.ReadFault.TheVariants.{NotJson as no_json, NotAMessage as no_message}
use Rattle.jdwp_commands.specs.Answers.{answer_at}
use Rattle.jdwp_commands.specs.declared.answer.Answer.TheVariants as answers
use Rattle.jdwp_commands.specs.declared.fault.BodyFault.{BodyFault}
use Rattle.jdwp_commands.specs.declared.fault.BodyFault.TheVariants as body_faults
use Rattle.jdwp_events.specs.Composites.{composite_at}
use Rattle.jdwp_events.specs.declared.composite.CompositeFault.{CompositeFault}
use Rattle.jdwp_events.specs.declared.composite.CompositeFault.TheVariants as composite_faults
use Rattle.jdwp_packets.specs.Packets.{command_packet, reply_packet}
use Rattle.jdwp_packets.specs.declared.fault.PacketFault.{PacketFault}
use Rattle.jdwp_values.specs.Sizes.{is_no_size}
use Rattle.jdwp_values.specs.declared.sizes.IdSizes.{IdSizes}
use Rattle.machine_model.specs.Due.{can_read}
use Rattle.machine_model.specs.Replying.{SizesFor, sizes_of, wire}
use Rattle.machine_model.specs.State.{Machine, has_raw}
use Rattle.pending_table.specs.Windows.{pending_under}
use Rattle.session_model.specs.Names.{a_raw, Answer, BadCommand, BadCount, BadKind, BadPolicy}
use Rattle.session_model.specs.Names.{BadSizes, BadTag, ClientFault}
use Rattle.session_model.specs.Names.{Item}
use Rattle.session_model.specs.Names.{misframed, mispacked, NotAMessage, NotJson, Short}
use Rattle.session_model.specs.Names.{TargetCommand, TargetFault, Trailing, UnknownReply}
use Rattle.session_model.specs.Saying.{is_composite}
use Rattle.session_model.specs.States.{SessionState, target_front}
use Rattle.target_bodies.specs.Hearing.{header}
use Rattle.wire_core.specs.Streams.{Front, Uncut}

-- The client's bytes --------------------------------------------------------------------------------------------------

-- The uncut bytes begin with this fault: a byte that no frame has at this offset, or a whole frame whose body begins at
-- this offset and is no JSON value, or no message (DAP overview, Base protocol).
pub data IsClientFault (u : Uncut) : ClientFault → ℕ → Type 0 where
  bad_frame : {fault : FrameFault} {distance : ℕ} → frame_front u.pending ≡ Front.faulty fault distance
      → IsClientFault u (misframed fault) (u.at + distance)
  bad_json : {frame : Frame} {n : ℕ} → frame_front u.pending ≡ Front.whole frame n
      → reading_of frame.body ≡ Err no_json → IsClientFault u NotJson (u.at + frame.header)
  bad_message : {frame : Frame} {n : ℕ} → frame_front u.pending ≡ Front.whole frame n
      → reading_of frame.body ≡ Err no_message → IsClientFault u NotAMessage (u.at + frame.header)

-- Bodies of the target's ----------------------------------------------------------------------------------------------

-- a fault of an answer's body, and its place in the body
pub data IsBodyFault : BodyFault → TargetFault → ℕ → Type 0 where
  short : {place : ℕ} → IsBodyFault (body_faults.Short place) Short place
  bad_tag : {place : ℕ} → IsBodyFault (body_faults.BadTag place) BadTag place
  bad_count : {place : ℕ} → IsBodyFault (body_faults.BadCount place) BadCount place
  trailing : {place : ℕ} → IsBodyFault (body_faults.Trailing place) Trailing place

-- a fault of a composite's body, and its place in the body
pub data IsCompositeFault : CompositeFault → TargetFault → ℕ → Type 0 where
  short : {place : ℕ} → IsCompositeFault (composite_faults.Short place) Short place
  bad_kind : {place : ℕ} → IsCompositeFault (composite_faults.BadKind place) BadKind place
  bad_policy : {place : ℕ} → IsCompositeFault (composite_faults.BadPolicy place) BadPolicy place
  bad_count : {place : ℕ} → IsCompositeFault (composite_faults.BadCount place) BadCount place
  bad_tag : {place : ℕ} → IsCompositeFault (composite_faults.BadTag place) BadTag place
  trailing : {place : ℕ} → IsCompositeFault (composite_faults.Trailing place) Trailing place

-- The composite with this body, whose packet begins at this offset, is refused: its body has a fault (JDWP, Event command
-- set, Composite).
pub data RefusesComposite (m : Machine) (body : List ℕ) (at : ℕ) : TargetFault → ℕ → Type 0 where
  bad_body : {found : CompositeFault} {fault : TargetFault} {place : ℕ}
      (used : IdSizes) → m.state.sizes ≡ Some (sizes_of used) → composite_at used body ≡ Err found
      → IsCompositeFault found fault place
      → RefusesComposite m body at fault (at + header + place)

-- the sizes of ids in an answer, in the order of its body (JDWP, VirtualMachine command set, IDSizes)
abbrev pub numbers_in : Answer → List ℕ
numbers_in (answers.IdSizes field method object class frame) = field ∷ method ∷ object ∷ class ∷ frame ∷ []
numbers_in _ = []

-- The target's bytes --------------------------------------------------------------------------------------------------

-- a reply to a pending command stands at the front of the target's uncut bytes (JDWP, JDWP Packets, reply packet)
pub record HasReply (s : SessionState) (command : TargetCommand) (error : ℕ) (body : List ℕ) : Type 0 where
  pub id : ℕ
  pub taken : ℕ
  pub front : target_front s.streams ≡ Front.whole (reply_packet id error body) taken
  pub pending : pending_under id s.streams.commands.sent ≡ Some (wire command)

-- an answer to a pending command stands there, whose body reads so
pub record HasAnswer (s : SessionState) (command : TargetCommand) (read : Result Answer BodyFault) : Type 0 where
  pub body : List ℕ
  pub used : IdSizes
  pub reply : HasReply s command 0 body
  pub serves : SizesFor s.machine.state.sizes used
  pub reads : answer_at used (wire command) body ≡ read

-- The target's uncut bytes begin with this fault, which stands at this offset in its stream: bytes that are no
-- handshake or no packet; a command that is no composite, or a composite that is refused; a reply with an id under
-- which no command is pending, and this id; an answer whose body has a fault, or whose sizes of ids are none. A body
-- begins 11 bytes behind its packet's first, and a size of ids has 4 (JDWP, JDWP Start Up; JDWP, JDWP Packets; JDWP,
-- VirtualMachine command set, IDSizes).
pub data IsTargetFault (s : SessionState) : TargetFault → ℕ → ℕ → Type 0 where
  bad_packet : {fault : PacketFault} {distance : ℕ} → target_front s.streams ≡ Front.faulty fault distance
      → IsTargetFault s (mispacked fault) (s.streams.target.stream.at + distance) 0
  bad_command : {id set number n : ℕ} {body : List ℕ}
      → target_front s.streams ≡ Front.whole (command_packet id set number body) n → is_composite set number ≡ false
      → IsTargetFault s BadCommand s.streams.target.stream.at 0
  bad_composite : {id set number n offset : ℕ} {body : List ℕ} {fault : TargetFault}
      → target_front s.streams ≡ Front.whole (command_packet id set number body) n → is_composite set number ≡ true
      → RefusesComposite s.machine body s.streams.target.stream.at fault offset → IsTargetFault s fault offset 0
  unknown_reply : {id error n : ℕ} {body : List ℕ}
      → target_front s.streams ≡ Front.whole (reply_packet id error body) n
      → pending_under id s.streams.commands.sent ≡ None
      → IsTargetFault s UnknownReply s.streams.target.stream.at id
  bad_answer : {command : TargetCommand} {found : BodyFault} {fault : TargetFault} {place : ℕ}
      → HasAnswer s command (Err found) → IsBodyFault found fault place
      → IsTargetFault s fault (s.streams.target.stream.at + header + place) 0
  bad_sizes : {command : TargetCommand} {answer : Answer} {which : ℕ} → HasAnswer s command (Ok answer)
      → position is_no_size (numbers_in answer) ≡ Some which
      → IsTargetFault s BadSizes (s.streams.target.stream.at + header + 4 * which) 0

-- The first of the composites that were kept, which can be read now, is refused: at its own offset.
pub record IsKeptFault (m : Machine) (fault : TargetFault) (offset : ℕ) : Type 0 where
  pub before : List Item
  pub after : List Item
  pub at : ℕ
  pub body : List ℕ
  pub can_be_read : can_read m ≡ true
  pub waiting : m.waiting ≡ before ++ a_raw at body ∷ after
  pub is_first : has_raw before ≡ false
  pub refused : RefusesComposite m body at fault offset
