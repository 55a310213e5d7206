-- What an ending says of the log. The causes that stand in the bytes, in the machine or in a limit are said where a
-- session ends; here is what they leave to be seen.
use Rattle.std.specs.Prelude.{ℕ, ◌≡◌, ◌∷◌, ◌++◌, Bool, true, false, List, [], replicate}
use Rattle.std.specs.List.{AllByRecursion}
use Rattle.dap_messages.specs.declared.told.Outcome.TheVariants as outcomes
use Rattle.dap_messages.specs.declared.told.Shape.TheVariants as shapes
use Rattle.machine_model.specs.Rest.{AreAnswered, requests_of, responses_of}
use Rattle.machine_model.specs.Runs.{Message, is_disconnect}
use Rattle.machine_model.specs.Telling.{response_to}
use Rattle.session_model.specs.Names.{Request}
use Rattle.session_model.specs.Names.{BadClient, BadTarget, Client, ClientLink, Done, Ending, Entry, Failed, Flood}
use Rattle.session_model.specs.Names.{Idle, In, Left, Limits, NoMemory, Out, Quiet, Shut, Spent, Target, TargetLink}
use Rattle.session_model.specs.Names.{TargetRefused}

-- what is sent, or is left of a send that failed
abbrev pub is_sending : Entry → Bool
is_sending (In side bytes) = false
is_sending (Out side bytes) = true
is_sending (Shut side) = false
is_sending (Failed side) = true
is_sending Quiet = false

-- these stand in the log, side by side, and after them nothing but last words
pub record AreLast (log last : List Entry) : Type 0 where
  pub before : List Entry
  pub after : List Entry
  pub log_is : log ≡ before ++ last ++ after
  pub only_words : AllByRecursion (λ (entry : Entry). is_sending entry ≡ true) after

-- What came last is the end of the client's stream, or the failure of a link, or as many waits in vain as the limit
-- says, side by side; or as many turns were taken as the limit says. Want of memory is no cause.
abbrev pub ShowsInLog : Limits → List Entry → ℕ → Ending → Type 0
ShowsInLog limits log turns Left = AreLast log (Shut Client ∷ [])
ShowsInLog limits log turns ClientLink = AreLast log (Failed Client ∷ [])
ShowsInLog limits log turns TargetLink = AreLast log (Failed Target ∷ [])
ShowsInLog limits log turns Idle = AreLast log (replicate limits.quiet Quiet)
ShowsInLog limits log turns Spent = turns ≡ limits.turns
ShowsInLog limits log turns NoMemory = ⊥
ShowsInLog limits log turns Done = Unit {0}
ShowsInLog limits log turns (BadClient fault at) = Unit {0}
ShowsInLog limits log turns (BadTarget fault at id) = Unit {0}
ShowsInLog limits log turns (TargetRefused set command code) = Unit {0}
ShowsInLog limits log turns Flood = Unit {0}

-- The last message is the success of a `disconnect`, which is the last request; and all requests are answered, one by
-- one, in order (DAP specification, Disconnect request).
pub record IsDone (messages : List Message) : Type 0 where
  pub before : List Message
  pub earlier : List Request
  pub request : Request
  pub disconnects : is_disconnect request.command ≡ true
  pub heard : requests_of messages ≡ earlier ++ request ∷ []
  pub last : messages ≡ before ++ Message.tells (response_to request (outcomes.Success shapes.Nothing)) ∷ []
  pub answered : AreAnswered (requests_of messages) (responses_of messages)
