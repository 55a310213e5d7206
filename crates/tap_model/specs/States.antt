-- Where a tap stands: in the bytes of its two sides, in what it has sent, and in what it has yet to send.
use Rattle.std.specs.Prelude.{ℕ, ◌+◌, ◌%◌, ◌==◌, Bool, true, false, not, if◌then◌else◌, List, [], ◌∷◌, ◌++◌}
use Rattle.std.specs.Prelude.{drop, filter, map, Option, Some, None, is_some, slice_set}
use Rattle.jdwp_packets.specs.Packets.{handshake, packet_bytes, command_packet}
use Rattle.jdwp_packets.specs.Receiving.{Received, nothing_received}
use Rattle.pending_table.specs.Windows.{id_of, turn}
use Rattle.wire_core.specs.Streams.{past}
use Rattle.tap_model.specs.Names.{Ask, Client, Debugger, DebuggerCommand, IdSizes, Never, of_question, Owner, Reached}
use Rattle.tap_model.specs.Names.{Side, Sizes, Target}
use Rattle.tap_model.specs.Questions.{fitting, unanswered}

-- Commands that were sent ---------------------------------------------------------------------------------------------

-- The commands that have no reply yet, each behind its id, in the order in which they were sent; and how many were sent
-- so far, whole turns of ids left out (JDWP, JDWP Packets, id).
pub record SentCommands : Type 0 where
  pub pending : List (ℕ × Owner)
  pub next : ℕ

-- the command that is pending under an id
abbrev pub pending_under : ℕ → List (ℕ × Owner) → Option Owner
pending_under id [] = None
pending_under id (p ∷ pending) = if p.0 == id then Some p.1 else pending_under id pending

-- all commands but that one
abbrev pub without : ℕ → List (ℕ × Owner) → List (ℕ × Owner)
without id pending = filter (λ p. not (p.0 == id)) pending

-- a command is sent under the next id
abbrev pub with_sent : Owner → SentCommands → SentCommands
with_sent owner sent = record {
  pending = without (id_of sent.next) sent.pending ++ (id_of sent.next, owner) ∷ [];
  next = (sent.next + 1) % turn;
}

-- the reply of this id came
abbrev pub settled : ℕ → SentCommands → SentCommands
settled id sent = record { pending = without id sent.pending; next = sent.next }

-- the next id is that of a command which has no reply yet
abbrev pub id_taken : SentCommands → Bool
id_taken sent = is_some (pending_under (id_of sent.next) sent.pending)

-- a command of the debugger's, and one of the tap's questions
abbrev pub is_debuggers : ℕ × Owner → Bool
is_debuggers p = by p.1
  where
    by : Owner → Bool
    by (Debugger id leaves) = true
    by Sizes = false
    by (of_question n) = false

abbrev pub is_question : ℕ × Owner → Bool
is_question p = by p.1
  where
    by : Owner → Bool
    by (Debugger id leaves) = false
    by Sizes = false
    by (of_question n) = true

-- States --------------------------------------------------------------------------------------------------------------

-- which sides the handshake was sent to
pub record Greeted : Type 0 where
  pub target : Bool
  pub debugger : Bool

-- Where the questions stand: whether IDSizes was sent, and the sizes that were answered; the numbers of the questions
-- that are still to be sent, in order; and what each question has come to.
pub record Asking : Type 0 where
  pub asked_sizes : Bool
  pub sizes : Option IdSizes
  pub left : List ℕ
  pub answers : List Reached

-- Where a tap stands: in the bytes of its two sides; which sides were greeted; which commands have no reply; the
-- commands and the packets for the debugger, as bytes, that wait for a greeting; its questions; whether the target was
-- let go; and how many waits in a row were in vain.
pub record TapState : Type 0 where
  pub debugger : Received
  pub target : Received
  pub greeted : Greeted
  pub sent : SentCommands
  pub commands : List DebuggerCommand
  pub packets : List (List ℕ)
  pub asking : Asking
  pub left_by : Bool
  pub quiets : ℕ

-- the beginning, where nothing came and nothing was sent
abbrev pub start : List Ask → TapState
start asks = record {
  debugger = nothing_received;
  target = nothing_received;
  greeted = record { target = false; debugger = false };
  sent = record { pending = []; next = 0 };
  commands = [];
  packets = [];
  asking = record { asked_sizes = false; sizes = None; left = []; answers = map (λ (ask : Ask). Never) asks };
  left_by = false;
  quiets = 0;
}

-- What is said --------------------------------------------------------------------------------------------------------

-- a command that goes to the target: its id, whose it is, its numbers, and its body
pub record Sending : Type 0 where
  pub id : ℕ
  pub owner : Owner
  pub set : ℕ
  pub number : ℕ
  pub body : List ℕ

-- What a tap says: the handshake to a side, a command to the target, or a packet to the debugger, as bytes.
pub data Said : Type 0 where
  greets : Side → Said
  sends : Sending → Said
  hands : List ℕ → Said

-- the side that it goes to
abbrev pub side_of : Said → Side
side_of (greets side) = side
side_of (sends sending) = Target
side_of (hands bytes) = Client

-- its bytes (JDWP, JDWP Start Up; JDWP, JDWP Packets, command packet)
abbrev pub bytes_of : Said → List ℕ
bytes_of (greets side) = handshake
bytes_of (sends c) = packet_bytes (command_packet c.id c.set c.number c.body)
bytes_of (hands bytes) = bytes

-- what is sent waits no longer
abbrev pub taken_up : Owner → TapState → TapState
taken_up (Debugger id leaves) s = record s { commands = drop 1 s.commands }
taken_up Sizes s = record s { asking = record s.asking { asked_sizes = true } }
taken_up (of_question n) s = record s { asking = record s.asking { left = drop 1 s.asking.left } }

-- where the tap stands once that was said
abbrev pub after : Said → TapState → TapState
after (greets Client) s = record s { greeted = record s.greeted { debugger = true } }
after (greets Target) s = record s { greeted = record s.greeted { target = true } }
after (sends c) s = taken_up c.owner (record s { sent = with_sent c.owner s.sent })
after (hands bytes) s = record s { packets = drop 1 s.packets }

-- What is heard -------------------------------------------------------------------------------------------------------

-- a packet of a side is cut
abbrev pub past_debugger : ℕ → TapState → TapState
past_debugger n s = record s { debugger = record s.debugger { stream = past s.debugger.stream n } }

abbrev pub past_target : ℕ → TapState → TapState
past_target n s = record s { target = record s.target { stream = past s.target.stream n } }

-- the reply of this id came
abbrev pub with_settled : ℕ → TapState → TapState
with_settled id s = record s { sent = settled id s.sent }

-- the target said its sizes of ids: the questions that are fit can be asked, and the others are given up
abbrev pub with_sizes : List Ask → IdSizes → TapState → TapState
with_sizes asks sizes s = record s {
  asking = record s.asking {
    sizes = Some sizes;
    left = fitting sizes 0 asks;
    answers = map (unanswered sizes) asks;
  };
}

-- a question has come to this
abbrev pub with_reached : ℕ → Reached → TapState → TapState
with_reached n reached s =
    record s { asking = record s.asking { answers = slice_set s.asking.answers n reached } }
