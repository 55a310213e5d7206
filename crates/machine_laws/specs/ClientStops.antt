-- Whether a stop is in hand by what the client is told, in every run. The law stands at the end, behind what it speaks
-- of.
use Rattle.std.specs.Prelude.{◌≡◌, ◌∷◌, ◌++◌, ◌||◌, Bool, true, false, List, []}
use Rattle.dap_messages.specs.declared.told.Event.{Event as EventTold}
use Rattle.dap_messages.specs.declared.told.Event.TheVariants as events
use Rattle.dap_messages.specs.declared.told.Outcome.{Outcome as OutcomeTold}
use Rattle.dap_messages.specs.declared.told.Outcome.TheVariants as outcomes
use Rattle.dap_messages.specs.declared.told.Response.{Response}
use Rattle.machine_model.specs.Events.{is_clients}
use Rattle.machine_model.specs.Names.{Command, ConfigurationDone, Continue, Next, Pause, Request, StepIn, StepOut}
use Rattle.machine_model.specs.Names.{a_response, an_event}
use Rattle.machine_model.specs.Rest.{IsAnswer, unanswered_hand, without_response}
use Rattle.machine_model.specs.Runs.{Message, Run}
use Rattle.machine_model.specs.State.{Machine, is_gone}

-- With the success of `continue` or of a step the target runs on, and with that of `pause` a stop is in hand; another
-- request changes nothing of it (DAP specification, Continue, Next, StepIn, StepOut and Pause requests).
abbrev pub stop_by_success : Command → Bool → Bool
stop_by_success (Continue arguments) stopped = false
stop_by_success (Next arguments) stopped = false
stop_by_success (StepIn arguments) stopped = false
stop_by_success (StepOut arguments) stopped = false
stop_by_success (Pause arguments) stopped = true
stop_by_success _ stopped = stopped

-- nor does one that fails
abbrev pub stop_by_outcome : Command → OutcomeTold → Bool → Bool
stop_by_outcome command (outcomes.Success shape) stopped = stop_by_success command stopped
stop_by_outcome command (outcomes.Failure failure) stopped = stopped

-- with `stopped` a stop is in hand, and with `terminated` none is (DAP specification, Events, Stopped and Terminated)
abbrev pub stop_by_event : EventTold → Bool → Bool
stop_by_event (events.Stopped stop) stopped = true
stop_by_event events.Terminated stopped = false
stop_by_event _ stopped = stopped

-- with the success of `configurationDone` the client has configured all (DAP specification, ConfigurationDone request)
abbrev pub configures : Command → Bool
configures ConfigurationDone = true
configures _ = false

abbrev pub configured_by : Command → OutcomeTold → Bool → Bool
configured_by command (outcomes.Success shape) configured = configures command || configured
configured_by command (outcomes.Failure failure) configured = configured

-- Among these messages these requests have no response; by what the client was told a stop is in hand, or none is; and
-- it has configured all, or not.
pub data AreRead : List Message → List Request → Bool → Bool → Type 0 where
  none : AreRead [] [] false false
  aside : {messages : List Message} {requests : List Request} {stopped configured : Bool} (message : Message)
      → is_clients message ≡ false → AreRead messages requests stopped configured
      → AreRead (messages ++ message ∷ []) requests stopped configured
  hears : {messages : List Message} {requests : List Request} {stopped configured : Bool} (request : Request)
      → AreRead messages requests stopped configured
      → AreRead (messages ++ Message.hears request ∷ []) (requests ++ request ∷ []) stopped configured
  responds : {messages : List Message} {requests : List Request} {stopped configured : Bool} {request : Request}
      (response : Response) → IsAnswer request response → AreRead messages (request ∷ requests) stopped configured
      → AreRead (messages ++ Message.tells (a_response response) ∷ []) requests
      (stop_by_outcome request.command response.outcome stopped)
      (configured_by request.command response.outcome configured)
  tells : {messages : List Message} {requests : List Request} {stopped configured : Bool} (event : EventTold)
      → AreRead messages requests stopped configured
      → AreRead (messages ++ Message.tells (an_event event) ∷ []) requests (stop_by_event event stopped) configured

-- What the client was told of a stop is so, unless a request is in hand without its response; and once it has
-- configured all, the target's entry isn't held.
pub record IsShown (messages : List Message) (m : Machine) : Type 0 where
  pub stopped : Bool
  pub configured : Bool
  pub told : AreRead messages (without_response m) stopped configured
  pub is_so : unanswered_hand m.hand ≡ [] → m.state.stopped ≡ stopped
  pub no_entry : configured ≡ true → m.state.entry ≡ false

-- Until the target is gone, the client knows whether a stop is in hand.
abbrev pub ShowsStops : Type 0
ShowsStops = (messages : List Message) (m : Machine) → Run messages m → is_gone m.state.phase ≡ false
    → IsShown messages m
