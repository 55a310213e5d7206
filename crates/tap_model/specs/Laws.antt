-- What holds of each tap, while it goes on.
use Rattle.std.specs.Prelude.{ℕ, ◌≡◌, ◌+◌, ◌≤◌, ◌==◌, ◌<◌, ◌⊎◌, true, false, if◌then◌else◌, List, []}
use Rattle.std.specs.Prelude.{◌∷◌, ◌++◌, map}
use Rattle.std.specs.List.{AllByRecursion}
use Rattle.std.specs.Prelude.{count_by, length, Option, Some, None, Result, Ok, Err, slice_get}
use Rattle.jdwp_commands.specs.Answers.{answer_at}
use Rattle.jdwp_commands.specs.Commands.{number_of, spell_command}
use Rattle.jdwp_packets.specs.Packets.{Packet}
use Rattle.jdwp_packets.specs.Receiving.{HandsOut, Received}
use Rattle.pending_table.specs.Windows.{id_of}
use Rattle.tap_model.specs.Names.{a_question, an_answer, an_error, Answer, Ask, BodyFault, Client, Debugger, Entry}
use Rattle.tap_model.specs.Names.{IdSizes, Limits, Never, of_question, Owner, Reached, Sizes, Target}
use Rattle.tap_model.specs.Questions.{fitting, unanswered}
use Rattle.tap_model.specs.States.{Said, Sending, TapState, greets, hands, is_question, sends}
use Rattle.tap_model.specs.Steps.{Message, can_ask, commands, said, serving, tells}
use Rattle.tap_model.specs.Tapping.{Tapping}
use Rattle.tap_model.specs.Transcripts.{came_from, commands_in, commands_read, conversation, greeted_in, handed}
use Rattle.tap_model.specs.Transcripts.{packets_in, packets_read, passed, questions_sent, reply_in, said_to}
use Rattle.tap_model.specs.Transcripts.{sends_in, went_to}

-- this holds of each tap that goes on
abbrev pub WhileTapping : (List Ask → List Entry → List Message → TapState → Type 0) → Type 0
WhileTapping holds = (limits : Limits) (asks : List Ask) (log : List Entry) (messages : List Message) (turns : ℕ)
    (s : TapState) → Tapping limits asks log messages turns s → holds asks log messages s

-- Without the tap -----------------------------------------------------------------------------------------------------

-- What the target was sent, without the tap's own, and what the debugger was sent are what the two said to each other,
-- up to what still waits.
pub record AreTheirs (messages : List Message) (s : TapState) : Type 0 where
  pub commands : commands_in (conversation messages) ≡ passed messages ++ s.commands
  pub packets : packets_in (conversation messages) ≡ handed messages ++ s.packets

-- The tap's own -------------------------------------------------------------------------------------------------------

-- the numbers of the questions that are fit, once the sizes of ids are known
abbrev pub can_be_asked : Option IdSizes → List Ask → List ℕ
can_be_asked None asks = []
can_be_asked (Some sizes) asks = fitting sizes 0 asks

-- a command of the tap's own is spelled so: IDSizes, or the question of this number, under the sizes that are known
abbrev pub IsSpelled : List Ask → Option IdSizes → Sending → Owner → Type 0
IsSpelled asks sizes c (Debugger id leaves) = Unit {0}
IsSpelled asks sizes c Sizes = (c.set ≡ 1) × (c.number ≡ 7) × (c.body ≡ [])
IsSpelled asks sizes c (of_question n) =
    (ask : Ask) × (used : IdSizes) × (slice_get asks n ≡ Some ask) × (sizes ≡ Some used)
    × (c.set ≡ (number_of (a_question ask.question)).0) × (c.number ≡ (number_of (a_question ask.question)).1)
    × (c.body ≡ spell_command used (a_question ask.question))

abbrev pub AreSpelledBy : List Ask → Option IdSizes → Said → Type 0
AreSpelledBy asks sizes (greets side) = Unit {0}
AreSpelledBy asks sizes (sends c) = IsSpelled asks sizes c c.owner
AreSpelledBy asks sizes (hands bytes) = Unit {0}

abbrev pub AreSpelled : List Ask → Option IdSizes → List Message → Type 0
AreSpelled asks sizes [] = Unit {0}
AreSpelled asks sizes (said what ∷ messages) = AreSpelledBy asks sizes what × AreSpelled asks sizes messages
AreSpelled asks sizes (commands c ∷ messages) = AreSpelled asks sizes messages
AreSpelled asks sizes (tells packet ∷ messages) = AreSpelled asks sizes messages

-- how often IDSizes was sent
abbrev pub sizes_as : Owner → ℕ
sizes_as (Debugger id leaves) = 0
sizes_as Sizes = 1
sizes_as (of_question n) = 0

abbrev pub sizes_by : Said → ℕ
sizes_by (greets side) = 0
sizes_by (sends c) = sizes_as c.owner
sizes_by (hands bytes) = 0

abbrev pub sizes_sent : List Message → ℕ
sizes_sent [] = 0
sizes_sent (said what ∷ messages) = sizes_sent messages + sizes_by what
sizes_sent (commands c ∷ messages) = sizes_sent messages
sizes_sent (tells packet ∷ messages) = sizes_sent messages

-- The tap's own commands are IDSizes, once at most, and then the questions that are fit, in their order, each once at
-- most, as they are spelled; and at most 16 questions have no reply.
pub record AreOwn (asks : List Ask) (messages : List Message) (s : TapState) : Type 0 where
  pub sizes : sizes_sent messages ≡ (if s.asking.asked_sizes then 1 else 0)
  pub questions : questions_sent messages ++ s.asking.left ≡ can_be_asked s.asking.sizes asks
  pub spelled : AreSpelled asks s.asking.sizes messages
  pub few : count_by is_question s.sent.pending ≤ 16

-- Ids -----------------------------------------------------------------------------------------------------------------

-- a command has the id that follows that of the one before it (JDWP, JDWP Packets, id)
abbrev pub IsNumbered : Said → ℕ → Type 0
IsNumbered (greets side) n = Unit {0}
IsNumbered (sends c) n = c.id ≡ id_of n
IsNumbered (hands bytes) n = Unit {0}

-- Each command that the target is sent has the id of its place among them, from 0.
abbrev pub AreNumbered : List Message → Type 0
AreNumbered [] = Unit {0}
AreNumbered (said what ∷ messages) = IsNumbered what (sends_in messages) × AreNumbered messages
AreNumbered (commands c ∷ messages) = AreNumbered messages
AreNumbered (tells packet ∷ messages) = AreNumbered messages

-- Bytes ---------------------------------------------------------------------------------------------------------------

-- What went to each side is what was said to it.
pub record AreSent (log : List Entry) (messages : List Message) : Type 0 where
  pub target : went_to Target log ≡ said_to Target messages
  pub debugger : went_to Client log ≡ said_to Client messages

-- Greetings -----------------------------------------------------------------------------------------------------------

-- a handshake is the first of a side, and stands before all else that goes there (JDWP, JDWP Start Up)
abbrev pub IsInOrder : Said → List Message → Type 0
IsInOrder (greets side) messages = greeted_in side messages ≡ false
IsInOrder (sends c) messages = greeted_in Target messages ≡ true
IsInOrder (hands bytes) messages = greeted_in Client messages ≡ true

abbrev pub AreInOrder : List Message → Type 0
AreInOrder [] = Unit {0}
AreInOrder (said what ∷ messages) = IsInOrder what messages × AreInOrder messages
AreInOrder (commands c ∷ messages) = AreInOrder messages
AreInOrder (tells packet ∷ messages) = AreInOrder messages

-- The handshake goes to each side once, before all else; to the debugger only where both have greeted.
pub record AreGreeted (messages : List Message) (s : TapState) : Type 0 where
  pub in_order : AreInOrder messages
  pub target : s.greeted.target ≡ greeted_in Target messages
  pub debugger : s.greeted.debugger ≡ greeted_in Client messages
  pub both : s.greeted.debugger ≡ true → (s.debugger.greeted ≡ true) × (s.target.greeted ≡ true)

-- Answers -------------------------------------------------------------------------------------------------------------

-- an answer that is read
abbrev pub answer_of : Result Answer BodyFault → Reached
answer_of (Ok answer) = an_answer answer
answer_of (Err fault) = Never

-- what a question has come to that has no reply
abbrev pub unreplied : Option IdSizes → Ask → Reached
unreplied None ask = Never
unreplied (Some sizes) ask = unanswered sizes ask

-- what a question has come to that has this reply, or none
abbrev pub reached_by : Option IdSizes → Ask → Option (ℕ × List ℕ) → Reached
reached_by sizes ask None = unreplied sizes ask
reached_by sizes ask (Some reply) =
    if reply.0 == 0 then answer_of (answer_at (serving sizes) (a_question ask.question) reply.1) else an_error reply.0

-- Each question has come to what its reply says, which has an answer or an error; where it has none, it is unfit
-- exactly where the sizes of ids are known and it has no spelling under them that fits a packet.
pub record AreReplies (asks : List Ask) (messages : List Message) (s : TapState) : Type 0 where
  pub as_many : length s.asking.answers ≡ length asks
  pub each : (n : ℕ) (ask : Ask) → slice_get asks n ≡ Some ask
      → slice_get s.asking.answers n ≡ Some (reached_by s.asking.sizes ask (reply_in n messages))

-- Waits ---------------------------------------------------------------------------------------------------------------

-- Where the tap waits, the target was greeted, and the debugger exactly where both have greeted. Once the target has
-- greeted, IDSizes and all commands of the debugger's were sent; where both have, all packets for the debugger; and a
-- question is left only where the sizes of ids aren't known, 16 have no reply, or the next id is that of a command
-- without one.
pub record IsQuiet (s : TapState) : Type 0 where
  pub target : s.greeted.target ≡ true
  pub debugger : s.debugger.greeted ≡ true → s.target.greeted ≡ true → s.greeted.debugger ≡ true
  pub sizes : s.target.greeted ≡ true → s.asking.asked_sizes ≡ true
  pub commands : s.target.greeted ≡ true → s.commands ≡ []
  pub packets : s.debugger.greeted ≡ true → s.target.greeted ≡ true → s.packets ≡ []
  pub questions : s.target.greeted ≡ true
      → (s.asking.left ≡ []) ⊎ ((s.asking.sizes ≡ None) ⊎ (can_ask s.sent ≡ false))

-- What came -----------------------------------------------------------------------------------------------------------

-- These packets were cut from these bytes, behind the handshake, in order and with nothing between them, and this is
-- left of them.
pub record AreCut (bytes : List ℕ) (packets : List Packet) (r : Received) : Type 0 where
  pub placed : List (ℕ × Packet)
  pub cut : HandsOut bytes placed r.greeted r.stream
  pub are : map (λ (p : ℕ × Packet). p.1) placed ≡ packets

-- What was read of each side are the packets of all that came from it.
pub record AreRead (log : List Entry) (messages : List Message) (s : TapState) : Type 0 where
  pub debugger : AreCut (came_from Client log) (commands_read messages) s.debugger
  pub target : AreCut (came_from Target log) (packets_read messages) s.target

-- Numbers -------------------------------------------------------------------------------------------------------------

-- each number is below those behind it
abbrev pub Ascend : List ℕ → Type 0
Ascend [] = Unit {0}
Ascend (n ∷ ns) = AllByRecursion (λ m. n < m) ns × Ascend ns
