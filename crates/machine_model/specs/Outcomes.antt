-- What comes of each request, in every run: which outcome its response has, and what was asked for it. The law stands
-- at the end, behind what it speaks of.
use Rattle.std.specs.Prelude.{◌≡◌, ◌∷◌, ◌++◌, Bool, true, false, cond, List, [], Option, None, Some}
use Rattle.machine_model.specs.Asking.{AreAsked}
use Rattle.machine_model.specs.Lookups.{finished, found_for}
use Rattle.machine_model.specs.Names.{Choice, Finding, Lookup, Outcome, Part, Request, a_request, a_response}
use Rattle.machine_model.specs.Plans.{Need, Result, fails, gave, has, is_done, lacks, refused}
use Rattle.machine_model.specs.Rest.{AreAnswered, requests_of, responses_of}
use Rattle.machine_model.specs.Rows.{chosen, gone_row, is_response, request_parts}
use Rattle.machine_model.specs.Runs.{Message, Run}
use Rattle.machine_model.specs.State.{Hand, Machine, State, in_hand, is_gone}
use Rattle.machine_model.specs.Telling.{outcome_told, response_to}

-- the part that brings the response
abbrev pub answer_part : List Part → Option Part
answer_part [] = None
answer_part (part ∷ parts) = cond (is_response part) (Some part) (answer_part parts)

-- what the result of a look-up that is done becomes
abbrev pub result_of : Need Finding → Result Finding
result_of (has finding) = gave finding
result_of (fails fault) = refused fault.code
result_of (lacks want others) = refused 0

-- Among the messages behind these earlier ones, up to here, these questions were asked for the request and have these
-- replies; and it is in hand here.
pub record IsInHand (earlier since : List Message) (request : Request) (there : Machine) (hand : Hand) : Type 0 where
  pub run : Run (earlier ++ since) there
  pub is_held : there.hand ≡ Some hand
  pub is_item : hand.item ≡ a_request request
  pub asked : AreAsked since hand.asked hand.effect

-- What brings the response of a request that came to its turn in this state: the part of its own row; or what a look-up
-- became that was done, or a choice, at some time since its turn.
pub data Leads (earlier messages : List Message) (request : Request) (turn : State) : Part → Type 0 where
  own : {part : Part} → answer_part (request_parts request.command turn) ≡ Some part
      → Leads earlier messages request turn part
  by_lookup : {lookup : Lookup} {part : Part} (since later : List Message) (there : Machine) (hand : Hand)
      → messages ≡ (earlier ++ since) ++ later → Leads earlier messages request turn (Part.Looks lookup)
      → IsInHand earlier since request there hand → is_done (found_for lookup there.state hand) ≡ true
      → answer_part (finished lookup (result_of (found_for lookup there.state hand)) there.state) ≡ Some part
      → Leads earlier messages request turn part
  by_choice : {choice : Choice} {part : Part} (since later : List Message) (there : Machine) (hand : Hand)
      → messages ≡ (earlier ++ since) ++ later → Leads earlier messages request turn (Part.Unfolds choice)
      → IsInHand earlier since request there hand
      → answer_part (chosen choice there.state hand) ≡ Some part → Leads earlier messages request turn part

-- Why a response has this outcome: it is what the request's row led to; or the target has ended since its turn.
pub data Reason (earlier messages : List Message) (request : Request) (turn now : State) : Outcome → Type 0 where
  by_row : {outcome : Outcome} → is_gone now.phase ≡ is_gone turn.phase
      → Leads earlier messages request turn (Part.Responds outcome)
      → Reason earlier messages request turn now outcome
  by_end : {outcome : Outcome} → is_gone turn.phase ≡ false → is_gone now.phase ≡ true
      → answer_part (gone_row request.command) ≡ Some (Part.Responds outcome)
      → Reason earlier messages request turn now outcome

-- The response behind these messages: it is to the request behind those that were answered before; after these earlier
-- messages its turn came, and since then nothing else was answered; and it has its outcome, told by what is known now.
pub record IsExplained (messages : List Message) (now : Machine) (told : Message) : Type 0 where
  pub earlier : List Message
  pub since : List Message
  pub request : Request
  pub answered : List Request
  pub others : List Request
  pub turn : Machine
  pub outcome : Outcome
  pub messages_are : messages ≡ earlier ++ since
  pub heard : requests_of earlier ≡ answered ++ request ∷ others
  pub in_turn : AreAnswered answered (responses_of earlier)
  pub none_told : responses_of since ≡ []
  pub began : Run earlier turn
  pub begun : turn.hand ≡ Some (in_hand (a_request request) (request_parts request.command turn.state))
  pub reason : Reason earlier messages request turn.state now.state outcome
  pub told_is : told ≡ Message.tells (response_to request (outcome_told outcome now.state))

-- it is a response
abbrev pub responds : Message → Bool
responds (Message.tells (a_response response)) = true
responds _ = false

-- each response that was told is explained by the messages before it
pub data AreExplained : List Message → Type 0 where
  none : AreExplained []
  aside : {messages : List Message} (message : Message) → responds message ≡ false → AreExplained messages
      → AreExplained (messages ++ message ∷ [])
  response : {messages : List Message} {now : Machine} (message : Message) → Run messages now
      → IsExplained messages now message → AreExplained messages → AreExplained (messages ++ message ∷ [])

-- Each response has the outcome that its row leads to, by what was asked for it since its turn; or its target ended.
abbrev pub Outcomes : Type 0
Outcomes = (messages : List Message) (m : Machine) → Run messages m → AreExplained messages
