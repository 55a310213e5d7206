-- The machine's runs: what it says, and what may come.
use Rattle.std.specs.Prelude.{ℕ, ◌≡◌, ◌∷◌, ◌++◌, Bool, true, false, List, [], Option, None, Some}
use Rattle.std.specs.List.{AllByRecursion, Contains}
use Rattle.jdwp_events.specs.Composites.{FitsComposite}
use Rattle.jdwp_values.specs.declared.sizes.IdSizes.{IdSizes}
use Rattle.machine_model.specs.Apart.{are_apart}
use Rattle.machine_model.specs.Due.{can_read, due, lacked_by}
use Rattle.machine_model.specs.Names.{Act, Command, Composite, Disconnect, Effect, Item, Question, Replied}
use Rattle.machine_model.specs.Names.{Request, TargetCommand, Told, Want, a_composite, a_question, a_raw, a_request}
use Rattle.machine_model.specs.Names.{an_effect}
use Rattle.machine_model.specs.Replying.{IsReply, SizesFor, answered, ended, is_waiting}
use Rattle.machine_model.specs.State.{Hand, Machine, State, fresh, has_raw, is_flying, is_gone, is_some, knowing}

-- Messages ------------------------------------------------------------------------------------------------------------

-- One message of a session, as the machine sees it: a request that was heard, or what was told to the client; the two
-- handshakes; a command that was sent, and what was replied to one; the target's end; and composites with the offsets
-- of their packets, that come to be read at once, are kept unread, or are read later.
pub data Message : Type 0 where
  hears : Request → Message
  tells : Told → Message
  greets : Message
  greeted : Message
  sends : TargetCommand → Message
  answers : TargetCommand → Replied → Message
  ends : Message
  comes : ℕ → Composite → Message
  keeps : ℕ → List ℕ → Message
  reads : ℕ → List ℕ → Composite → Message

-- the message that an act says
abbrev pub said : Act → Option Message
said Act.Waits = None
said Act.Goes = None
said (Act.Tells told) = Some (Message.tells told)
said Act.Greets = Some Message.greets
said (Act.Sends effect) = Some (Message.sends (an_effect effect))
said (Act.Asks question) = Some (Message.sends (a_question question))
said (Act.Over finish) = None

-- What comes ----------------------------------------------------------------------------------------------------------

-- the request that ends the session (DAP specification, Disconnect request)
abbrev pub is_disconnect : Command → Bool
is_disconnect (Disconnect arguments) = true
is_disconnect _ = false

-- an item came, and waits for its turn
abbrev pub with_item : Machine → Item → Machine
with_item m item = record m { waiting = m.waiting ++ item ∷ [] }

-- a request is heard
abbrev pub heard : Machine → Request → Machine
heard m request =
    record m { waiting = m.waiting ++ a_request request ∷ []; closing = is_disconnect request.command }

-- the target's handshake came (JDWP, JDWP Start Up)
abbrev pub greeting_heard : Machine → Machine
greeting_heard m = knowing m (record m.state { greeting_heard = true })

-- A composite that comes has a spelling with the sizes of ids that are known (JDWP, Event command set, Composite).
pub record Takes (state : State) (composite : Composite) : Type 0 where
  pub used : IdSizes
  pub serves : SizesFor state.sizes used
  pub fits : FitsComposite used composite

-- What may come next. A composite that can be read is read before anything else; nothing else is asked of what comes,
-- so it may come where something is due.
pub data Allows (m : Machine) : Message → Machine → Type 0 where
  acts : {message : Message} → said (due false m).act ≡ Some message → Allows m message (due false m).next
  hears : {request : Request} → can_read m ≡ false → m.closing ≡ false
      → Allows m (Message.hears request) (heard m request)
  greeted : can_read m ≡ false → m.state.greeting_heard ≡ false → Allows m Message.greeted (greeting_heard m)
  answers : {question : Question} {replied : Replied} (hand : Hand) → can_read m ≡ false → m.hand ≡ Some hand
      → is_waiting question hand.asked ≡ true → IsReply m.state.sizes (a_question question) replied
      → Allows m (Message.answers (a_question question) replied) (answered m (a_question question) replied)
  replies : {effect : Effect} {replied : Replied} (hand : Hand) → can_read m ≡ false → m.hand ≡ Some hand
      → hand.effect ≡ Some (record { effect = effect; reply = None })
      → IsReply m.state.sizes (an_effect effect) replied
      → Allows m (Message.answers (an_effect effect) replied) (answered m (an_effect effect) replied)
  late : {command : TargetCommand} {replied : Replied} (before after : List TargetCommand) → can_read m ≡ false
      → m.late ≡ before ++ command ∷ after → IsReply m.state.sizes command replied
      → Allows m (Message.answers command replied) (record m { late = before ++ after })
  ends : can_read m ≡ false → Allows m Message.ends (ended (is_gone m.state.phase) m)
  comes : {at : ℕ} {composite : Composite} → can_read m ≡ false → is_some m.state.sizes ≡ true
      → Takes m.state composite
      → Allows m (Message.comes at composite) (with_item m (a_composite at composite))
  keeps : {at : ℕ} {body : List ℕ} → is_some m.state.sizes ≡ false
      → Allows m (Message.keeps at body) (with_item m (a_raw at body))
  reads : {at : ℕ} {body : List ℕ} {composite : Composite} (before after : List Item) → can_read m ≡ true
      → m.waiting ≡ before ++ a_raw at body ∷ after → has_raw before ≡ false → Takes m.state composite
      → Allows m (Message.reads at body composite) (record m { waiting = before ++ a_composite at composite ∷ after })

-- What is to be asked -------------------------------------------------------------------------------------------------

-- these are to be asked for the item in hand, in this order
abbrev pub to_ask : Machine → Hand → List Want → Machine
to_ask m hand queue = record m { hand = Some (record hand { queue = queue }) }

-- What is to be asked may be put anew at any time: some of what the part in front lacks now, in any order, each
-- question once, and none that was asked; but not while a composite is to be read, or the reply to an effect to come.
pub record MayQueue (m : Machine) (hand : Hand) (queue : List Want) : Type 0 where
  pub held : m.hand ≡ Some hand
  pub near : is_gone m.state.phase ≡ false
  pub unread : can_read m ≡ false
  pub still : is_flying hand.effect ≡ false
  pub lacking : AllByRecursion (λ want. Contains (lacked_by m.state hand hand.parts) want) queue
  pub apart : are_apart hand.asked queue ≡ true

-- The messages of the machine so far, and where it stands. It asks in any order.
pub data Run : List Message → Machine → Type 0 where
  starts : Run [] fresh
  goes : {messages : List Message} {m : Machine} → Run messages m → (due false m).act ≡ Act.Goes
      → Run messages (due false m).next
  queues : {messages : List Message} {m : Machine} {hand : Hand} {queue : List Want} → Run messages m
      → MayQueue m hand queue → Run messages (to_ask m hand queue)
  moves : {messages : List Message} {m next : Machine} {message : Message} → Run messages m → Allows m message next
      → Run (messages ++ message ∷ []) next
