-- Where a session is at rest, and what its messages say of requests and responses: words that several laws speak of.
use Rattle.std.specs.Prelude.{◌≡◌, ◌∷◌, ◌++◌, Bool, true, false, not, cond, List, [], Option, None, Some}
use Rattle.std.specs.List.{flat_map}
use Rattle.dap_messages.specs.declared.told.Response.{Response}
use Rattle.machine_model.specs.Due.{can_read, due}
use Rattle.machine_model.specs.Names.{Act, Item, Request, Told, a_composite, a_raw, a_request, a_response, an_event}
use Rattle.machine_model.specs.Names.{target_end}
use Rattle.machine_model.specs.Rows.{has_response}
use Rattle.machine_model.specs.Runs.{Message}
use Rattle.machine_model.specs.State.{Hand, Machine, State, has_waiting, is_flying, is_gone}

-- At rest -------------------------------------------------------------------------------------------------------------

-- no command of the item in hand is without a reply
abbrev pub hand_silent : Option Hand → Bool
hand_silent None = true
hand_silent (Some hand) = cond (is_flying hand.effect) false (not (has_waiting hand.asked))

-- no command is pending, and no composite can be read; of a target that is gone nothing counts as pending
abbrev pub is_silent : Machine → Bool
is_silent m = cond (is_gone m.state.phase) true (cond (can_read m) false (hand_silent m.hand))

-- the handshake went out, and the target's didn't come (JDWP, JDWP Start Up)
abbrev pub awaits_greeting : State → Bool
awaits_greeting state =
    cond (is_gone state.phase) false (cond state.greeting_sent (not state.greeting_heard) false)

-- nothing is due, and nothing is pending: no command and no handshake
pub record IsAtRest (m : Machine) : Type 0 where
  pub nothing_due : (due false m).act ≡ Act.Waits
  pub nothing_pending : is_silent m ≡ true
  pub no_greeting : awaits_greeting m.state ≡ false

-- Requests and responses ----------------------------------------------------------------------------------------------

abbrev pub request_by : Message → List Request
request_by (Message.hears request) = request ∷ []
request_by _ = []

-- the requests that were heard
abbrev pub requests_of : List Message → List Request
requests_of messages = flat_map request_by messages

abbrev pub told_by : Message → List Told
told_by (Message.tells told) = told ∷ []
told_by _ = []

-- what the client was told, in order
abbrev pub told_of : List Message → List Told
told_of messages = flat_map told_by messages

abbrev pub response_in : Told → List Response
response_in (a_response response) = response ∷ []
response_in (an_event event) = []

abbrev pub response_by : Message → List Response
response_by (Message.tells told) = response_in told
response_by _ = []

-- the responses that were told
abbrev pub responses_of : List Message → List Response
responses_of messages = flat_map response_by messages

-- the response is to the request (DAP specification, Base Protocol, Response, `request_seq` and `command`)
pub record IsAnswer (request : Request) (response : Response) : Type 0 where
  pub seq : response.request_seq ≡ request.seq
  pub command : response.command ≡ request.name

-- these requests were answered by these responses, one each, in order
pub data AreAnswered : List Request → List Response → Type 0 where
  none : AreAnswered [] []
  one_more : {requests : List Request} {responses : List Response} {request : Request} {response : Response}
      → AreAnswered requests responses → IsAnswer request response
      → AreAnswered (requests ++ request ∷ []) (responses ++ response ∷ [])

-- the request in an item
abbrev pub request_in : Item → List Request
request_in (a_request request) = request ∷ []
request_in (a_composite at composite) = []
request_in (a_raw at body) = []
request_in target_end = []

abbrev pub unanswered_item : Bool → Item → List Request
unanswered_item false item = []
unanswered_item true item = request_in item

abbrev pub unanswered_hand : Option Hand → List Request
unanswered_hand None = []
unanswered_hand (Some hand) = unanswered_item (has_response hand.parts) hand.item

-- the requests without a response: the one in hand, unless its response was told, and those that wait
abbrev pub without_response : Machine → List Request
without_response m = unanswered_hand m.hand ++ flat_map request_in m.waiting
