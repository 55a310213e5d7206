-- What the target's bytes say: its handshake, its replies to commands, and its composites.
use Rattle.std.specs.Prelude.{ℕ, ◌≡◌, ◌≤◌, ◌+◌, ◌∷◌, ◌++◌, Bool, true, false, List, [], Ok, Some, count_by, drop}
use Rattle.std.specs.Prelude.{length, map}
use Rattle.std.specs.List.{flat_map}
use Rattle.jdwp_commands.specs.Answers.{answer_at}
use Rattle.jdwp_commands.specs.declared.asked.Asked.{Asked}
use Rattle.jdwp_events.specs.Composites.{composite_at}
use Rattle.jdwp_packets.specs.Packets.{IsGreeted, Packet, command_packet, reply_packet}
use Rattle.jdwp_packets.specs.Receiving.{HandsOut}
use Rattle.jdwp_values.specs.declared.sizes.IdSizes.{IdSizes}
use Rattle.machine_model.specs.Pending.{bit}
use Rattle.machine_model.specs.Pending.{count as count_of}
use Rattle.machine_model.specs.Replying.{SizesFor, pending_of, wire}
use Rattle.machine_model.specs.Runs.{Message, Run}
use Rattle.machine_model.specs.State.{Machine, is_gone}
use Rattle.pending_table.specs.Places.{AreApart}
use Rattle.pending_table.specs.Windows.{id_of, pending_under}
use Rattle.session_model.specs.Names.{a_composite, a_raw, a_request, Client, Composite, Entry, Failed, In, Item, Out}
use Rattle.session_model.specs.Names.{Quiet, Replied, Shut, Side, Target, target_end, TargetCommand}
use Rattle.session_laws.specs.Bytes.{came_from}
use Rattle.session_model.specs.Saying.{SaysReply, is_composite}
use Rattle.session_model.specs.States.{SessionState}

-- Packets -------------------------------------------------------------------------------------------------------------

-- neither a command that is sent, nor a reply to one, nor of a composite
abbrev pub is_beside : Message → Bool
is_beside (Message.hears request) = true
is_beside (Message.tells told) = true
is_beside Message.greets = true
is_beside Message.greeted = true
is_beside (Message.sends command) = false
is_beside (Message.answers command replied) = false
is_beside Message.ends = true
is_beside (Message.comes at composite) = false
is_beside (Message.keeps at body) = false
is_beside (Message.reads at body composite) = false

-- The target's packets, each behind its offset, are in order what these messages say of it. A reply is to the command
-- with its id, which had none yet, and says what its error and body say (JDWP, JDWP Packets, reply packet). A command
-- of the target's is a composite, which is read, or is kept and read later (JDWP, Event command set, Composite). Bodies
-- are read with sizes of ids that serve there. So many commands are among the messages, with the ids 1, 2, 3 and so on;
-- these of them have no reply yet, each behind its number, how many were sent before it.
pub data ArePackets : List (ℕ × Packet) → List Message → ℕ → List (ℕ × Asked) → Type 0 where
  none : ArePackets [] [] 0 []
  beside : {packets : List (ℕ × Packet)} {messages : List Message} {count : ℕ} {unreplied : List (ℕ × Asked)}
      (message : Message) → is_beside message ≡ true → ArePackets packets messages count unreplied
      → ArePackets packets (messages ++ message ∷ []) count unreplied
  sends : {packets : List (ℕ × Packet)} {messages : List Message} {count : ℕ} {unreplied : List (ℕ × Asked)}
      (command : TargetCommand) → ArePackets packets messages count unreplied
      → ArePackets packets (messages ++ Message.sends command ∷ []) (count + 1)
      (unreplied ++ (count, wire command) ∷ [])
  answers : {packets : List (ℕ × Packet)} {messages : List Message} {count error : ℕ} {body : List ℕ}
      {command : TargetCommand} {replied : Replied} {m : Machine} (offset number : ℕ)
      (before after : List (ℕ × Asked)) → Run messages m → SaysReply m.state.sizes command error body replied
      → ArePackets packets messages count (before ++ (number, wire command) ∷ after)
      → ArePackets (packets ++ (offset, reply_packet (id_of number) error body) ∷ [])
      (messages ++ Message.answers command replied ∷ []) count (before ++ after)
  comes : {packets : List (ℕ × Packet)} {messages : List Message} {count : ℕ} {unreplied : List (ℕ × Asked)}
      {m : Machine} {used : IdSizes} (offset id set number : ℕ) (body : List ℕ) (composite : Composite)
      → is_composite set number ≡ true → Run messages m → SizesFor m.state.sizes used
      → composite_at used body ≡ Ok composite → ArePackets packets messages count unreplied
      → ArePackets (packets ++ (offset, command_packet id set number body) ∷ [])
      (messages ++ Message.comes offset composite ∷ []) count unreplied
  keeps : {packets : List (ℕ × Packet)} {messages : List Message} {count : ℕ} {unreplied : List (ℕ × Asked)}
      (offset id set number : ℕ) (body : List ℕ) → is_composite set number ≡ true
      → ArePackets packets messages count unreplied
      → ArePackets (packets ++ (offset, command_packet id set number body) ∷ [])
      (messages ++ Message.keeps offset body ∷ []) count unreplied
  reads : {packets : List (ℕ × Packet)} {messages : List Message} {count : ℕ} {unreplied : List (ℕ × Asked)}
      {m : Machine} {used : IdSizes} (offset : ℕ) (body : List ℕ) (composite : Composite)
      → Run messages m → SizesFor m.state.sizes used → composite_at used body ≡ Ok composite
      → ArePackets packets messages count unreplied
      → ArePackets packets (messages ++ Message.reads offset body composite ∷ []) count unreplied

-- a command behind the id that its number gives
abbrev pub under_id : ℕ × Asked → ℕ × Asked
under_id command = (id_of command.0, command.1)

-- how many of the commands that were sent pass a test
abbrev pub count_under : (Asked → Bool) → List (ℕ × Asked) → ℕ
count_under test [] = 0
count_under test (sent ∷ others) = bit (test sent.1) + count_under test others

-- Composites that wait -----------------------------------------------------------------------------------------------

-- a composite that was kept, by the offset of its packet and its body
abbrev pub kept_by : Message → List (ℕ × List ℕ)
kept_by (Message.keeps at body) = (at, body) ∷ []
kept_by _ = []

-- and one that was read
abbrev pub read_by : Message → List (ℕ × List ℕ)
read_by (Message.reads at body composite) = (at, body) ∷ []
read_by _ = []

-- and one that waits to be read
abbrev pub raw_in : Item → List (ℕ × List ℕ)
raw_in (a_raw at body) = (at, body) ∷ []
raw_in (a_request request) = []
raw_in (a_composite at composite) = []
raw_in target_end = []

-- Those that were kept are, in order, those that were read since and those that wait; but some may be dropped once the
-- target is gone.
pub record AreKept (messages : List Message) (m : Machine) : Type 0 where
  pub dropped : List (ℕ × List ℕ)
  pub kept : flat_map kept_by messages ≡ (flat_map read_by messages ++ dropped) ++ flat_map raw_in m.waiting
  pub of_gone : is_gone m.state.phase ≡ false → dropped ≡ []

-- The handshake and the end ------------------------------------------------------------------------------------------

-- the end of the target's stream is taken up
abbrev pub is_end_taken : Message → Bool
is_end_taken Message.ends = true
is_end_taken _ = false

-- the target's side
abbrev pub is_target : Side → Bool
is_target Client = false
is_target Target = true

-- the end of the target's stream came
abbrev pub is_end_come : Entry → Bool
is_end_come (In side bytes) = false
is_end_come (Out side bytes) = false
is_end_come (Shut side) = is_target side
is_end_come (Failed side) = false
is_end_come Quiet = false

-- 1 where it is so
abbrev pub one_if : Bool → ℕ
one_if false = 0
one_if true = 1

-- What the target says ------------------------------------------------------------------------------------------------

-- The target's bytes are its handshake, once it came, and packets (JDWP, JDWP Start Up; JDWP, JDWP Packets), which say
-- what the messages say of it; what is not cut are the bytes from its offset on. Commands without a reply are pending,
-- each under its id, no two under one; they are as many as the machine has pending, of each kind, and no more than
-- sixteen. Composites that were kept are read in order, or wait. The handshake is cut off where the bytes begin with
-- it, and taken up only there; and each end of the target's stream is taken up, but one that has just come.
pub record AreReplied (log : List Entry) (messages : List Message) (s : SessionState) : Type 0 where
  pub packets : List (ℕ × Packet)
  pub count : ℕ
  pub unreplied : List (ℕ × Asked)
  pub cut : HandsOut (came_from Target log) packets s.streams.target.greeted s.streams.target.stream
  pub uncut_bytes : s.streams.target.stream.pending ≡ drop s.streams.target.stream.at (came_from Target log)
  pub said : ArePackets packets messages count unreplied
  pub pending : s.streams.commands.sent ≡ map under_id unreplied
  pub apart : AreApart s.streams.commands.sent
  pub same : (test : Asked → Bool)
      → count_under test s.streams.commands.sent ≡ count_of (λ command. test (wire command)) (pending_of s.machine)
  pub few : length s.streams.commands.sent ≤ 16
  pub kept : AreKept messages s.machine
  pub begun : IsGreeted (came_from Target log) → s.streams.target.greeted ≡ true
  pub greeted : s.machine.state.greeting_heard ≡ true → IsGreeted (came_from Target log)
  pub ended : count_by is_end_taken messages + one_if s.streams.ended ≡ count_by is_end_come log

-- Whichever sizes of ids serve, the body of an answer to a pending command reads the same.
abbrev pub AreReadAlike : SessionState → Type 0
AreReadAlike s = (id : ℕ) (command : TargetCommand) (body : List ℕ) (used other : IdSizes)
    → pending_under id s.streams.commands.sent ≡ Some (wire command) → SizesFor s.machine.state.sizes used
    → SizesFor s.machine.state.sizes other → answer_at used (wire command) body ≡ answer_at other (wire command) body
