-- What a tap does next: it says what is due; it hears what came, the debugger first; it ends; or it waits.
use Rattle.std.specs.Prelude.{ℕ, ◌+◌, ◌*◌, ◌&&◌, ◌==◌, ◌||◌, Bool, not, if◌then◌else◌, List, [], ◌∷◌, ◌++◌}
use Rattle.std.specs.Prelude.{length, Option, Some, None, Result, Ok, Err, count_by, nat_lt, position, slice_get}
use Rattle.std.proofs.Common.{lit≤}
use Rattle.jdwp_commands.specs.Answers.{answer_at}
use Rattle.jdwp_commands.specs.Commands.{number_of, spell_command}
use Rattle.jdwp_commands.specs.declared.answer.Answer.TheVariants as answers
use Rattle.jdwp_commands.specs.declared.question.Question.TheVariants as questions
use Rattle.jdwp_packets.specs.Packets.{Packet, command_packet, packet_bytes, reply_packet}
use Rattle.jdwp_packets.specs.Receiving.{Received, received_front}
use Rattle.jdwp_values.specs.Sizes.{IsSize, is_no_size}
use Rattle.pending_table.specs.Windows.{id_of}
use Rattle.target_bodies.specs.Hearing.{answer_fault, header}
use Rattle.wire_core.specs.Streams.{Front}
use Rattle.tap_model.specs.Names.{a_question, an_answer, an_error, Answer, Ask, BadClient, BadSizes, BadTarget}
use Rattle.tap_model.specs.Names.{BodyFault, Client, Debugger, DebuggerCommand, Flood, IdSizes, misframed, mispacked}
use Rattle.tap_model.specs.Names.{NoMemory, NotACommand, of_question, Owner, PacketFault, Question, Sizes, Target}
use Rattle.tap_model.specs.Names.{TapEnding, TargetFault, TargetRefused, UnknownReply}
use Rattle.tap_model.specs.States.{Said, SentCommands, TapState, greets, hands, id_taken, is_debuggers, is_question}
use Rattle.tap_model.specs.States.{past_debugger, past_target, pending_under, sends, with_reached, with_settled}

-- What was said or heard: a command of the debugger's, or a packet of the target's.
pub data Message : Type 0 where
  said : Said → Message
  commands : DebuggerCommand → Message
  tells : Packet → Message

-- What a tap does next, and where it stands once it has heard; where it learns the five sizes of ids, all else stands.
pub data Step : Type 0 where
  says : Said → Step
  hears : Message → TapState → Step
  learns : Packet → List ℕ → TapState → Step
  ends : TapEnding → Step
  waits : Step

-- Limits --------------------------------------------------------------------------------------------------------------

-- so many of the tap's questions have no reply at most
abbrev pub most_asked : ℕ
most_asked = 16

-- so many of the debugger's commands have no reply at most, and so many messages wait for a greeting
abbrev pub most_waiting : ℕ
most_waiting = 65536

-- one more question may be sent: few have no reply, and the next id is free
abbrev pub can_ask : SentCommands → Bool
can_ask sent = nat_lt (count_by is_question sent.pending) most_asked && not (id_taken sent)

-- one more message may wait for a greeting
abbrev pub has_room : TapState → Bool
has_room s = nat_lt (length s.commands + length s.packets) most_waiting

-- one more command of the debugger's may be kept
abbrev pub can_keep : TapState → Bool
can_keep s = has_room s && nat_lt (count_by is_debuggers s.sent.pending) most_waiting

-- What is due ---------------------------------------------------------------------------------------------------------

-- a command lets the target go (JDWP, VirtualMachine command set, Dispose and Exit)
abbrev pub lets_go : ℕ → ℕ → Bool
lets_go set number = (set == 1) && ((number == 6) || (number == 10))

-- the command that asks for the sizes of ids (JDWP, VirtualMachine command set, IDSizes)
abbrev pub sizes_command : SentCommands → Said
sizes_command sent = sends (record { id = id_of sent.next; owner = Sizes; set = 1; number = 7; body = [] })

-- a command of the debugger's, under the next id
abbrev pub passed_on : SentCommands → DebuggerCommand → Said
passed_on sent c = sends (record {
  id = id_of sent.next;
  owner = Debugger c.id (lets_go c.set c.command);
  set = c.set;
  number = c.command;
  body = c.body;
})

-- the question of this number, under the next id
abbrev pub question_command : SentCommands → IdSizes → ℕ → Question → Said
question_command sent sizes n question = sends (record {
  id = id_of sent.next;
  owner = of_question n;
  set = (number_of (a_question question)).0;
  number = (number_of (a_question question)).1;
  body = spell_command sizes (a_question question);
})

-- the next question is due where it may be sent
abbrev pub asked_due : SentCommands → IdSizes → ℕ → Option Ask → Step
asked_due sent sizes n None = waits
asked_due sent sizes n (Some ask) =
    if can_ask sent then says (question_command sent sizes n ask.question) else waits

-- the next question is due once the sizes of ids are known
abbrev pub left_due : List Ask → SentCommands → Option IdSizes → List ℕ → Step
left_due asks sent sizes [] = waits
left_due asks sent sizes (n ∷ left) = by sizes
  where
    by : Option IdSizes → Step
    by None = waits
    by (Some sizes) = asked_due sent sizes n (slice_get asks n)

-- before it the next packet for the debugger, once that was greeted
abbrev pub packet_due : List Ask → TapState → List (List ℕ) → Step
packet_due asks s [] = left_due asks s.sent s.asking.sizes s.asking.left
packet_due asks s (bytes ∷ others) =
    if s.greeted.debugger then says (hands bytes) else left_due asks s.sent s.asking.sizes s.asking.left

-- before it the next command of the debugger's; where its id isn't free, that is a flood
abbrev pub command_due : List Ask → TapState → List DebuggerCommand → Step
command_due asks s [] = packet_due asks s s.packets
command_due asks s (command ∷ others) =
    if id_taken s.sent then ends Flood else says (passed_on s.sent command)

-- What is due, in this order: the handshake to the target; to the debugger, once both have greeted; and, once the
-- target has, IDSizes, and then all else.
abbrev pub due : List Ask → TapState → Step
due asks s =
    if not s.greeted.target then says (greets Target)
    else if (s.debugger.greeted && s.target.greeted) && not s.greeted.debugger then says (greets Client)
    else if not s.target.greeted then waits
    else if not s.asking.asked_sizes then says (sizes_command s.sent)
    else command_due asks s s.commands

-- What came from the debugger -----------------------------------------------------------------------------------------

-- A command is kept until it is sent; a reply is none, at this offset (JDWP, JDWP Packets).
abbrev pub commanded : Packet → ℕ → TapState → Step
commanded (command_packet id set number body) at s = if can_keep s then hears (commands (record {
  id = id;
  set = set;
  command = number;
  body = body;
})) (record s { commands = s.commands ++ record { id = id; set = set; command = number; body = body } ∷ [] })
    else ends Flood
commanded (reply_packet id error body) at s = ends (BadClient NotACommand at)

abbrev pub at_debugger : Front Packet PacketFault → TapState → Step
at_debugger Front.waits s = waits
at_debugger (Front.whole packet n) s = commanded packet s.debugger.stream.at (past_debugger n s)
at_debugger (Front.faulty fault distance) s = ends (BadClient (misframed fault) (s.debugger.stream.at + distance))

-- what stands at the front of what a side sent
abbrev pub front_of : Received → Front Packet PacketFault
front_of r = received_front r.greeted r.stream.pending

-- What came from the target -------------------------------------------------------------------------------------------

-- bytes for the debugger wait until they are sent
abbrev pub for_debugger : Packet → List ℕ → TapState → Step
for_debugger packet bytes s =
    if has_room s then hears (tells packet) (record s { packets = s.packets ++ bytes ∷ [] }) else ends Flood

-- The ending by a fault of an answer's body, whose packet begins at this offset. Each fault but want of memory has a
-- place.
abbrev pub body_ending : ℕ → Option (TargetFault × ℕ) → TapEnding
body_ending at None = NoMemory
body_ending at (Some found) = BadTarget found.0 (at + header + found.1) 0

-- 8 is a size
abbrev pub eight_is_size : IsSize 8
eight_is_size = (lit≤ tt, lit≤ tt)

-- sizes for bodies that are read before the target has said its own: any do
abbrev pub eights : IdSizes
eights = record {
  field = 8;
  method = 8;
  object = 8;
  class = 8;
  frame = 8;
  field_is_size = eight_is_size;
  method_is_size = eight_is_size;
  object_is_size = eight_is_size;
  class_is_size = eight_is_size;
  frame_is_size = eight_is_size;
}

-- Five sizes, unless one of them is none, at this place among the five (JDWP, VirtualMachine command set, IDSizes).
abbrev pub sizes_checked : Packet → ℕ → List ℕ → Option ℕ → TapState → Step
sizes_checked packet at numbers None s = learns packet numbers s
sizes_checked packet at numbers (Some which) s = ends (BadTarget BadSizes (at + header + 4 * which) 0)

-- the answer to IDSizes says sizes; no other answer is one to it
abbrev pub sizes_said : Packet → ℕ → Answer → TapState → Step
sizes_said packet at (answers.IdSizes field method object class frame) s =
    sizes_checked packet at (field ∷ method ∷ object ∷ class ∷ frame ∷ [])
    (position is_no_size (field ∷ method ∷ object ∷ class ∷ frame ∷ [])) s
sizes_said packet at _ s = ends NoMemory

abbrev pub sizes_read : Packet → ℕ → Result Answer BodyFault → TapState → Step
sizes_read packet at (Ok answer) s = sizes_said packet at answer s
sizes_read packet at (Err fault) s = ends (body_ending at (answer_fault fault))

-- what the body of an answer to a question says
abbrev pub answer_read : Packet → ℕ → ℕ → Result Answer BodyFault → TapState → Step
answer_read packet at n (Ok answer) s = hears (tells packet) (with_reached n (an_answer answer) s)
answer_read packet at n (Err fault) s = ends (body_ending at (answer_fault fault))

-- the sizes of ids that the target said, and any before that
abbrev pub serving : Option IdSizes → IdSizes
serving None = eights
serving (Some sizes) = sizes

-- an answer to a question is read by the question, which there is
abbrev pub asked_answer : Packet → ℕ → ℕ → List ℕ → Option Ask → TapState → Step
asked_answer packet at n body None s = ends NoMemory
asked_answer packet at n body (Some ask) s =
    answer_read packet at n (answer_at (serving s.asking.sizes) (a_question ask.question) body) s

-- A reply to a command of the debugger's goes to it under the command's own id, and once one that lets the target go
-- was answered, the target may leave; one to IDSizes says sizes, and an error ends the tap; one to a question says what
-- that has come to. The error 0 stands for an answer (JDWP, JDWP Packets, reply packet).
abbrev pub replied : List Ask → Packet → ℕ → ℕ → List ℕ → Owner → TapState → Step
replied asks packet at error body (Debugger id leaves) s =
    for_debugger packet (packet_bytes (reply_packet id error body))
    (record s { left_by = s.left_by || (leaves && (error == 0)) })
replied asks packet at error body Sizes s = if error == 0
    then sizes_read packet at (answer_at eights (a_question questions.IdSizes) body) s
    else ends (TargetRefused 1 7 error)
replied asks packet at error body (of_question n) s = if error == 0
    then asked_answer packet at n body (slice_get asks n) s
    else hears (tells packet) (with_reached n (an_error error) s)

-- a reply is to the command with its id, where one is pending under it (JDWP, JDWP Packets, id)
abbrev pub reply_to : List Ask → Packet → ℕ → ℕ → ℕ → List ℕ → Option Owner → TapState → Step
reply_to asks packet at id error body None s = ends (BadTarget UnknownReply at id)
reply_to asks packet at id error body (Some owner) s = replied asks packet at error body owner (with_settled id s)

-- a command of the target's, as an event, goes to the debugger as it is
abbrev pub told : List Ask → Packet → ℕ → TapState → Step
told asks (command_packet id set number body) at s =
    for_debugger (command_packet id set number body) (packet_bytes (command_packet id set number body)) s
told asks (reply_packet id error body) at s =
    reply_to asks (reply_packet id error body) at id error body (pending_under id s.sent.pending) s

abbrev pub at_target : List Ask → Front Packet PacketFault → TapState → Step
at_target asks Front.waits s = waits
at_target asks (Front.whole packet n) s = told asks packet s.target.stream.at (past_target n s)
at_target asks (Front.faulty fault distance) s =
    ends (BadTarget (mispacked fault) (s.target.stream.at + distance) 0)

-- The next step -------------------------------------------------------------------------------------------------------

-- the first of two that isn't to wait
abbrev pub first_step : Step → Step → Step
first_step (says s) other = says s
first_step (hears message s) other = hears message s
first_step (learns packet numbers s) other = learns packet numbers s
first_step (ends ending) other = ends ending
first_step waits other = other

-- what is due; else what came from the debugger, and then from the target
abbrev pub step : List Ask → TapState → Step
step asks s = first_step (due asks s)
    (first_step (at_debugger (front_of s.debugger) s) (at_target asks (front_of s.target) s))
