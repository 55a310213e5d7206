-- What is pending: the commands that were sent and have no reply yet, and how many there may be.
use Rattle.std.specs.Prelude.{ℕ, ◌≡◌, ◌≤◌, ◌<◌, ◌+◌, ◌∷◌, ◌++◌, ◌||◌, Bool, true, false, cond, List, [], length}
use Rattle.std.specs.List.{flat_map}
use Rattle.machine_model.specs.Names.{Effect, Question, Replied, TargetCommand, a_question, an_effect}
use Rattle.machine_model.specs.Replying.{pending_of}
use Rattle.machine_model.specs.Runs.{Allows, Message, Run}
use Rattle.machine_model.specs.State.{Machine, is_gone}

-- What the messages say -----------------------------------------------------------------------------------------------

-- neither a command nor a reply to one, and not the handshake that goes out
abbrev pub is_aside : Message → Bool
is_aside Message.greets = false
is_aside (Message.sends command) = false
is_aside (Message.answers command replied) = false
is_aside _ = true

abbrev pub is_greets : Message → Bool
is_greets Message.greets = true
is_greets _ = false

abbrev pub is_greeted : Message → Bool
is_greeted Message.greeted = true
is_greeted _ = false

-- one of them is such a message
abbrev pub has_such : (Message → Bool) → List Message → Bool
has_such test [] = false
has_such test (message ∷ messages) = test message || has_such test messages

-- both sides of the handshake are among them (JDWP, JDWP Start Up)
abbrev pub have_handshake : List Message → Bool
have_handshake messages = cond (has_such is_greets messages) (has_such is_greeted messages) false

abbrev pub is_change : TargetCommand → Bool
is_change (a_question question) = false
is_change (an_effect effect) = true

-- one of them changes the target
abbrev pub has_change : List TargetCommand → Bool
has_change [] = false
has_change (command ∷ commands) = is_change command || has_change commands

-- Among these messages these commands were sent and have no reply yet, in order of sending. Each reply is to a command
-- that is pending then. No question is sent beside a command that changes the target, and such a command only while
-- nothing is pending. The handshake goes out once, and commands behind both sides of it.
pub data ArePending : List Message → List TargetCommand → Type 0 where
  none : ArePending [] []
  aside : {messages : List Message} {pending : List TargetCommand} (message : Message) → is_aside message ≡ true
      → ArePending messages pending → ArePending (messages ++ message ∷ []) pending
  greets : {messages : List Message} {pending : List TargetCommand} → has_such is_greets messages ≡ false
      → ArePending messages pending → ArePending (messages ++ Message.greets ∷ []) pending
  asks : {messages : List Message} {pending : List TargetCommand} (question : Question)
      → have_handshake messages ≡ true → has_change pending ≡ false → ArePending messages pending
      → ArePending (messages ++ Message.sends (a_question question) ∷ []) (pending ++ a_question question ∷ [])
  changes : {messages : List Message} (effect : Effect) → have_handshake messages ≡ true → ArePending messages []
      → ArePending (messages ++ Message.sends (an_effect effect) ∷ []) (an_effect effect ∷ [])
  answers : {messages : List Message} (command : TargetCommand) (replied : Replied) (before after : List TargetCommand)
      → ArePending messages (before ++ command ∷ after)
      → ArePending (messages ++ Message.answers command replied ∷ []) (before ++ after)

-- Counts --------------------------------------------------------------------------------------------------------------

abbrev pub bit : Bool → ℕ
bit true = 1
bit false = 0

-- how many of the commands pass a test
abbrev pub count : (TargetCommand → Bool) → List TargetCommand → ℕ
count test [] = 0
count test (command ∷ commands) = bit (test command) + count test commands

abbrev pub sent_by : Message → List TargetCommand
sent_by (Message.sends command) = command ∷ []
sent_by _ = []

-- the commands that were sent
abbrev pub commands_sent : List Message → List TargetCommand
commands_sent messages = flat_map sent_by messages

abbrev pub replied_by : Message → List TargetCommand
replied_by (Message.answers command replied) = command ∷ []
replied_by _ = []

-- the commands that were replied to
abbrev pub commands_replied : List Message → List TargetCommand
commands_replied messages = flat_map replied_by messages

-- a message that goes to the target
abbrev pub goes_out : Message → Bool
goes_out Message.greets = true
goes_out (Message.sends command) = true
goes_out _ = false

-- The laws ------------------------------------------------------------------------------------------------------------

-- What is pending was sent and has no reply, of commands of any kind as many as were sent without a reply. While the
-- target isn't gone, all of it is the item's in hand; once it is gone, nothing goes to it.
pub record IsPending (messages : List Message) (m : Machine) : Type 0 where
  pub pending : ArePending messages (pending_of m)
  pub counted : (test : TargetCommand → Bool)
      → count test (pending_of m) + count test (commands_replied messages) ≡ count test (commands_sent messages)
  pub in_hand : is_gone m.state.phase ≡ false → m.late ≡ []
  pub gone : (message : Message) (next : Machine) → Allows m message next → is_gone m.state.phase ≡ true
      → goes_out message ≡ false

abbrev pub Pends : Type 0
Pends = (messages : List Message) (m : Machine) → Run messages m → IsPending messages m

-- At most sixteen commands are pending, and one is sent only while there are fewer.
pub record IsInWindow (m : Machine) : Type 0 where
  pub few : length (pending_of m) ≤ 16
  pub room : (command : TargetCommand) (next : Machine) → Allows m (Message.sends command) next
      → length (pending_of m) < 16

abbrev pub Windows : Type 0
Windows = (messages : List Message) (m : Machine) → Run messages m → IsInWindow m
