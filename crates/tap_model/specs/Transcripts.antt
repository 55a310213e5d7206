-- What was said and heard, in words of the debugger and the target alone. Messages stand here with the latest first;
-- what is made of them stands in the order in which it came.
use Rattle.std.specs.Prelude.{ℕ, ◌+◌, ◌==◌, Bool, true, false, if◌then◌else◌, List, [], ◌∷◌, ◌++◌, Option, Some}
use Rattle.std.specs.Prelude.{None}
use Rattle.jdwp_packets.specs.Packets.{Packet, command_packet, packet_bytes, reply_packet}
use Rattle.tap_model.specs.Names.{Client, Debugger, DebuggerCommand, Entry, Failed, In, of_question, Out, Owner, Quiet}
use Rattle.tap_model.specs.Names.{Shut, Side, Sizes, Target}
use Rattle.tap_model.specs.States.{Said, Sending, bytes_of, greets, hands, sends, side_of}
use Rattle.tap_model.specs.Steps.{Message, commands, said, tells}

-- Whose a reply is ----------------------------------------------------------------------------------------------------

-- the command of this id is the one that is said now, or an earlier one
abbrev pub latest_under : ℕ → Said → Option Owner → Option Owner
latest_under id (greets side) earlier = earlier
latest_under id (sends c) earlier = if c.id == id then Some c.owner else earlier
latest_under id (hands bytes) earlier = earlier

-- whose the latest command is that was sent under this id (JDWP, JDWP Packets, id)
abbrev pub sent_under : ℕ → List Message → Option Owner
sent_under id [] = None
sent_under id (said what ∷ messages) = latest_under id what (sent_under id messages)
sent_under id (commands c ∷ messages) = sent_under id messages
sent_under id (tells packet ∷ messages) = sent_under id messages

-- The debugger and the target -----------------------------------------------------------------------------------------

-- What the debugger and the target say to each other: a command of the debugger's; or a packet for it, as bytes.
pub data Spoken : Type 0 where
  from_debugger : DebuggerCommand → Spoken
  to_debugger : List ℕ → Spoken

-- a reply to a command of the debugger's is for it, under the id that the debugger gave the command
abbrev pub given_back : ℕ → List ℕ → Option Owner → List Spoken
given_back error body None = []
given_back error body (Some (Debugger id leaves)) = to_debugger (packet_bytes (reply_packet id error body)) ∷ []
given_back error body (Some Sizes) = []
given_back error body (Some (of_question n)) = []

-- and so is each command of the target's, as an event
abbrev pub told_by : Packet → List Message → List Spoken
told_by (command_packet id set number body) messages =
    to_debugger (packet_bytes (command_packet id set number body)) ∷ []
told_by (reply_packet id error body) messages = given_back error body (sent_under id messages)

-- What the debugger and the target said to each other, all that is the tap's own left out.
abbrev pub conversation : List Message → List Spoken
conversation [] = []
conversation (said what ∷ messages) = conversation messages
conversation (commands c ∷ messages) = conversation messages ++ from_debugger c ∷ []
conversation (tells packet ∷ messages) = conversation messages ++ told_by packet messages

-- the commands of the debugger's in it, and the packets for it
abbrev pub commands_in : List Spoken → List DebuggerCommand
commands_in [] = []
commands_in (from_debugger c ∷ spoken) = c ∷ commands_in spoken
commands_in (to_debugger bytes ∷ spoken) = commands_in spoken

abbrev pub packets_in : List Spoken → List (List ℕ)
packets_in [] = []
packets_in (from_debugger c ∷ spoken) = packets_in spoken
packets_in (to_debugger bytes ∷ spoken) = bytes ∷ packets_in spoken

-- What was sent -------------------------------------------------------------------------------------------------------

-- the command of the debugger's that is sent so, under the id that the debugger gave it
abbrev pub passed_as : Sending → Owner → List DebuggerCommand
passed_as c (Debugger id leaves) = record { id = id; set = c.set; command = c.number; body = c.body } ∷ []
passed_as c Sizes = []
passed_as c (of_question n) = []

abbrev pub passed_by : Said → List DebuggerCommand
passed_by (greets side) = []
passed_by (sends c) = passed_as c c.owner
passed_by (hands bytes) = []

-- The commands that the target was sent, without the tap's own, and each under the id that the debugger gave it.
abbrev pub passed : List Message → List DebuggerCommand
passed [] = []
passed (said what ∷ messages) = passed messages ++ passed_by what
passed (commands c ∷ messages) = passed messages
passed (tells packet ∷ messages) = passed messages

abbrev pub handed_by : Said → List (List ℕ)
handed_by (greets side) = []
handed_by (sends c) = []
handed_by (hands bytes) = bytes ∷ []

-- The packets that the debugger was sent, as bytes.
abbrev pub handed : List Message → List (List ℕ)
handed [] = []
handed (said what ∷ messages) = handed messages ++ handed_by what
handed (commands c ∷ messages) = handed messages
handed (tells packet ∷ messages) = handed messages

-- The tap's own -------------------------------------------------------------------------------------------------------

-- the question of the tap's that is sent so
abbrev pub question_as : Owner → List ℕ
question_as (Debugger id leaves) = []
question_as Sizes = []
question_as (of_question n) = n ∷ []

abbrev pub questions_by : Said → List ℕ
questions_by (greets side) = []
questions_by (sends c) = question_as c.owner
questions_by (hands bytes) = []

-- the numbers of the questions that were sent, in order
abbrev pub questions_sent : List Message → List ℕ
questions_sent [] = []
questions_sent (said what ∷ messages) = questions_sent messages ++ questions_by what
questions_sent (commands c ∷ messages) = questions_sent messages
questions_sent (tells packet ∷ messages) = questions_sent messages

-- The reply to the question of this number: its error and its body (JDWP, JDWP Packets, reply packet).
abbrev pub replied_as : ℕ → ℕ → List ℕ → Option Owner → Option (ℕ × List ℕ) → Option (ℕ × List ℕ)
replied_as n error body None earlier = earlier
replied_as n error body (Some (Debugger id leaves)) earlier = earlier
replied_as n error body (Some Sizes) earlier = earlier
replied_as n error body (Some (of_question k)) earlier = if k == n then Some (error, body) else earlier

abbrev pub replied_by : ℕ → Packet → List Message → Option (ℕ × List ℕ) → Option (ℕ × List ℕ)
replied_by n (command_packet id set number body) messages earlier = earlier
replied_by n (reply_packet id error body) messages earlier =
    replied_as n error body (sent_under id messages) earlier

abbrev pub reply_in : ℕ → List Message → Option (ℕ × List ℕ)
reply_in n [] = None
reply_in n (said what ∷ messages) = reply_in n messages
reply_in n (commands c ∷ messages) = reply_in n messages
reply_in n (tells packet ∷ messages) = replied_by n packet messages (reply_in n messages)

-- Ids and greetings ---------------------------------------------------------------------------------------------------

-- how many commands were sent
abbrev pub counted : Said → ℕ → ℕ
counted (greets side) n = n
counted (sends c) n = n + 1
counted (hands bytes) n = n

abbrev pub sends_in : List Message → ℕ
sends_in [] = 0
sends_in (said what ∷ messages) = counted what (sends_in messages)
sends_in (commands c ∷ messages) = sends_in messages
sends_in (tells packet ∷ messages) = sends_in messages

-- this is the handshake to that side
abbrev pub is_greeting : Side → Said → Bool
is_greeting Client (greets Client) = true
is_greeting Client (greets Target) = false
is_greeting Target (greets Client) = false
is_greeting Target (greets Target) = true
is_greeting side (sends c) = false
is_greeting side (hands bytes) = false

-- the handshake was sent to that side
abbrev pub greeted_in : Side → List Message → Bool
greeted_in side [] = false
greeted_in side (said what ∷ messages) = if is_greeting side what then true else greeted_in side messages
greeted_in side (commands c ∷ messages) = greeted_in side messages
greeted_in side (tells packet ∷ messages) = greeted_in side messages

-- Bytes ---------------------------------------------------------------------------------------------------------------

-- bytes of the one side, seen from another
abbrev pub of_side : Side → Side → List ℕ → List ℕ
of_side Client Client bytes = bytes
of_side Client Target bytes = []
of_side Target Client bytes = []
of_side Target Target bytes = bytes

-- the bytes that went to a side, in a log
abbrev pub went_by : Side → Entry → List ℕ
went_by side (In from bytes) = []
went_by side (Out to bytes) = of_side side to bytes
went_by side (Shut closed) = []
went_by side (Failed lost) = []
went_by side Quiet = []

abbrev pub went_to : Side → List Entry → List ℕ
went_to side [] = []
went_to side (entry ∷ log) = went_by side entry ++ went_to side log

-- the bytes that came from a side
abbrev pub came_by : Side → Entry → List ℕ
came_by side (In from bytes) = of_side side from bytes
came_by side (Out to bytes) = []
came_by side (Shut closed) = []
came_by side (Failed lost) = []
came_by side Quiet = []

abbrev pub came_from : Side → List Entry → List ℕ
came_from side [] = []
came_from side (entry ∷ log) = came_by side entry ++ came_from side log

-- the bytes of what was said to a side
abbrev pub said_to : Side → List Message → List ℕ
said_to side [] = []
said_to side (said what ∷ messages) = said_to side messages ++ of_side side (side_of what) (bytes_of what)
said_to side (commands c ∷ messages) = said_to side messages
said_to side (tells packet ∷ messages) = said_to side messages

-- Packets -------------------------------------------------------------------------------------------------------------

-- the packet of a command of the debugger's (JDWP, JDWP Packets, command packet)
abbrev pub packet_of : DebuggerCommand → Packet
packet_of c = command_packet c.id c.set c.command c.body

-- the packets that were read of the debugger, in order
abbrev pub commands_read : List Message → List Packet
commands_read [] = []
commands_read (said what ∷ messages) = commands_read messages
commands_read (commands c ∷ messages) = commands_read messages ++ packet_of c ∷ []
commands_read (tells packet ∷ messages) = commands_read messages

-- and of the target
abbrev pub packets_read : List Message → List Packet
packets_read [] = []
packets_read (said what ∷ messages) = packets_read messages
packets_read (commands c ∷ messages) = packets_read messages
packets_read (tells packet ∷ messages) = packets_read messages ++ packet ∷ []
