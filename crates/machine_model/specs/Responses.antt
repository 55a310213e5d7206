-- Requests and their responses, in every run. The laws stand at the end, behind what they speak of.
use Rattle.std.specs.Prelude.{◌≡◌, ◌≢◌, ◌∷◌, ◌++◌, Bool, true, false, cond, List, [], None}
use Rattle.machine_model.specs.Names.{Fresh, Item, Request}
use Rattle.machine_model.specs.Rest.{AreAnswered, IsAtRest, requests_of, responses_of, without_response}
use Rattle.machine_model.specs.Runs.{Message, Run}
use Rattle.machine_model.specs.State.{Machine, is_raw}

-- The responses answer the first of the requests, one each, in order; the others are without a response; and at rest
-- there are no others.
pub record AreServed (messages : List Message) (m : Machine) : Type 0 where
  pub answered : List Request
  pub requests : requests_of messages ≡ answered ++ without_response m
  pub responses : AreAnswered answered (responses_of messages)
  pub all : IsAtRest m → requests_of messages ≡ answered

abbrev pub are_raw : List Item → Bool
are_raw [] = true
are_raw (item ∷ items) = cond (is_raw item) (are_raw items) false

-- nothing is in hand, and no item waits but composites that can't be read before an `attach`
pub record IsIdle (m : Machine) : Type 0 where
  pub no_hand : m.hand ≡ None
  pub raw : are_raw m.waiting ≡ true
  pub none_later : m.state.phase ≢ Fresh → m.waiting ≡ []

-- Requests are answered one by one, in the order in which they came; at rest all are.
abbrev pub Responses : Type 0
Responses = (messages : List Message) (m : Machine) → Run messages m → AreServed messages m

-- At rest nothing is in hand, and no item waits but composites of a session that isn't attached yet.
abbrev pub Rests : Type 0
Rests = (messages : List Message) (m : Machine) → Run messages m → IsAtRest m → IsIdle m
