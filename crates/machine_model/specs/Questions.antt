-- Why a question is asked, in every run, and in which order. The laws stand at the end, behind what they speak of.
use Rattle.std.specs.Prelude.{◌≡◌, ◌≤◌, ◌+◌, ◌∷◌, ◌++◌, Bool, true, false, List, [], Some, length, map}
use Rattle.machine_model.specs.Due.{lacked_by}
use Rattle.machine_model.specs.Names.{Want, a_question, an_effect}
use Rattle.machine_model.specs.Plans.{question_of}
use Rattle.machine_model.specs.Replying.{pending_of}
use Rattle.machine_model.specs.Runs.{MayQueue, Message, Run}
use Rattle.machine_model.specs.State.{Hand, Machine, is_gone}

-- At some time among these messages this was lacking: the part in front of the item in hand lacked it by the replies so
-- far, and the target wasn't gone.
pub record IsLacked (messages : List Message) (want : Want) : Type 0 where
  pub earlier : List Message
  pub later : List Message
  pub there : Machine
  pub hand : Hand
  pub before : List Want
  pub after : List Want
  pub messages_are : messages ≡ earlier ++ later
  pub run : Run earlier there
  pub is_held : there.hand ≡ Some hand
  pub near : is_gone there.state.phase ≡ false
  pub lacked : lacked_by there.state hand hand.parts ≡ before ++ want ∷ after

-- the message sends a question
abbrev pub is_question : Message → Bool
is_question (Message.sends (a_question question)) = true
is_question (Message.sends (an_effect effect)) = false
is_question _ = false

-- each question that was sent was lacking before
pub data AreLacked : List Message → Type 0 where
  none : AreLacked []
  aside : {messages : List Message} (message : Message) → is_question message ≡ false → AreLacked messages
      → AreLacked (messages ++ message ∷ [])
  asks : {messages : List Message} (want : Want) → IsLacked messages want → AreLacked messages
      → AreLacked (messages ++ Message.sends (a_question (question_of want)) ∷ [])

-- Nothing is asked but what the part in front lacked.
abbrev pub Questions : Type 0
Questions = (messages : List Message) (m : Machine) → Run messages m → AreLacked messages

-- these questions are sent, in this order
abbrev pub sends_all : List Want → List Message
sends_all wants = map (λ (want : Want). Message.sends (a_question (question_of want))) wants

-- the messages are those of a run
pub record IsRun (messages : List Message) : Type 0 where
  pub machine : Machine
  pub run : Run messages machine

-- What the part in front lacks may be asked next in any order, as far as there is room in the window.
abbrev pub AnyOrder : Type 0
AnyOrder = (messages : List Message) (m : Machine) (hand : Hand) (queue : List Want) → Run messages m
    → MayQueue m hand queue → length (pending_of m) + length queue ≤ 16 → IsRun (messages ++ sends_all queue)
