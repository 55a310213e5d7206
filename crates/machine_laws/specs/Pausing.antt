-- The event `stopped` of a `pause`, in every run. The laws stand at the end, behind what they speak of.
use Rattle.std.specs.Prelude.{ℕ, ◌≡◌, ◌∷◌, ◌++◌, Bool, List, [], Some, false}
use Rattle.dap_messages.specs.declared.requests.ThreadArguments.{ThreadArguments}
use Rattle.dap_messages.specs.declared.told.Event.TheVariants as events
use Rattle.dap_messages.specs.declared.told.Outcome.TheVariants as outcomes
use Rattle.dap_messages.specs.declared.told.Shape.{Shape}
use Rattle.dap_messages.specs.declared.told.StopReason.TheVariants as reasons
use Rattle.dap_messages.specs.declared.told.Stopped.{Stopped}
use Rattle.machine_model.specs.Due.{due}
use Rattle.machine_model.specs.Knowing.{HasNumber}
use Rattle.machine_model.specs.Names.{Pause, Request, ThreadId, Told, an_event}
use Rattle.machine_model.specs.Rest.{told_of}
use Rattle.machine_model.specs.Runs.{Message, Run}
use Rattle.machine_model.specs.State.{Hand, Machine, is_gone}
use Rattle.machine_model.specs.Telling.{response_to}
use Rattle.machine_laws.specs.ClientStops.{AreRead}
use Rattle.machine_steps.specs.Names.{Act, a_request}

-- the success of the request is the last that the client was told
pub record IsToldLast (messages : List Message) (request : Request) : Type 0 where
  pub earlier : List Told
  pub shape : Shape
  pub told : told_of messages ≡ earlier ++ response_to request (outcomes.Success shape) ∷ []

-- The request in hand is a `pause`, and its success was told last; the stop is told of the thread that it names by its
-- number (DAP specification, Pause request).
pub record IsPaused (messages : List Message) (m : Machine) (stop : Stopped) : Type 0 where
  pub hand : Hand
  pub request : Request
  pub arguments : ThreadArguments
  pub thread : ThreadId
  pub is_held : m.hand ≡ Some hand
  pub is_request : hand.item ≡ a_request request
  pub is_pause : request.command ≡ Pause arguments
  pub answered : IsToldLast messages request
  pub is_named : stop.thread ≡ arguments.thread_id
  pub is_known : HasNumber m.state.threads thread stop.thread

-- Where a stop is told for a `pause`, it is told behind its success, and of the thread that it names.
abbrev pub Pauses : Type 0
Pauses = (messages : List Message) (m : Machine) (stop : Stopped) → Run messages m
    → (due false m).act ≡ Act.Tells (an_event (events.Stopped stop)) → stop.reason ≡ reasons.Pause
    → IsPaused messages m stop

-- The success of the request is the last that the client was told, and by what it was told before no stop was in hand
-- (DAP specification, Pause request).
pub record HasSucceeded (messages : List Message) (request : Request) : Type 0 where
  pub before : List Message
  pub after : List Message
  pub shape : Shape
  pub others : List Request
  pub configured : Bool
  pub messages_are : messages ≡ before ++ Message.tells (response_to request (outcomes.Success shape)) ∷ after
  pub is_last : told_of after ≡ []
  pub no_stop : AreRead before (request ∷ others) false configured

-- the event `stopped` is due for a pause, of the thread with this number (DAP specification, Events, Stopped)
pub record IsPauseDue (m : Machine) (number : ℕ) : Type 0 where
  pub stop : Stopped
  pub is_due : (due false m).act ≡ Act.Tells (an_event (events.Stopped stop))
  pub is_pause : stop.reason ≡ reasons.Pause
  pub is_named : stop.thread ≡ number

-- Where a `pause` has succeeded outside a stop, this event is what the client is told next, unless the target is gone.
abbrev pub TellsPauses : Type 0
TellsPauses = (messages : List Message) (m : Machine) (request : Request) (arguments : ThreadArguments)
    → Run messages m → is_gone m.state.phase ≡ false → request.command ≡ Pause arguments
    → HasSucceeded messages request → IsPauseDue m arguments.thread_id
