-- The responses of a session, those among the last words included.
use Rattle.std.specs.Prelude.{◌≡◌, ◌++◌, Bool, true, false, List, []}
use Rattle.std.specs.List.{flat_map}
use Rattle.dap_messages.specs.declared.told.Response.{Response}
use Rattle.machine_model.specs.Rest.{AreAnswered, requests_of, response_in, responses_of}
use Rattle.machine_model.specs.Runs.{Message}
use Rattle.session_laws.specs.Bytes.{HasLost}
use Rattle.session_model.specs.LastWords.{LastWord}
use Rattle.session_model.specs.Names.{BadClient, BadTarget, Client, ClientLink, Done, Ending, Entry, Flood, Idle, Left}
use Rattle.session_model.specs.Names.{NoMemory, Request, Spent, TargetLink, TargetRefused}
use Rattle.session_model.specs.Session.{EndedState}

abbrev pub response_by_word : LastWord → List Response
response_by_word (LastWord.tells told) = response_in told
response_by_word LastWord.disposes = []

-- the responses among last words
abbrev pub responses_said : List LastWord → List Response
responses_said words = flat_map response_by_word words

-- the endings that are told to the client, whose requests fail then: the target was lost, or refused a command, or
-- nothing came for too long
abbrev pub tells_client : Ending → Bool
tells_client (BadTarget fault at id) = true
tells_client TargetLink = true
tells_client (TargetRefused set command code) = true
tells_client Idle = true
tells_client Done = false
tells_client Left = false
tells_client (BadClient fault at) = false
tells_client ClientLink = false
tells_client Spent = false
tells_client Flood = false
tells_client NoMemory = false

-- All responses, those among the last words included, answer the first of the requests, one each, in order. Where an
-- ending is told to the client, no request is left without one once no last word is left, unless the client's link has
-- failed.
pub record AreServedInAll (log : List Entry) (messages : List Message) (e : EndedState) : Type 0 where
  pub answered : List Request
  pub left : List Request
  pub requests : requests_of messages ≡ answered ++ left
  pub responses : AreAnswered answered (responses_of messages ++ responses_said e.said)
  pub all : tells_client e.ending ≡ true → e.left ≡ [] → ¬ HasLost Client log → left ≡ []
