-- Which step the target runs on with, and that one which it refuses fails, in every run. The laws stand at the end,
-- behind what they speak of.
use Rattle.std.specs.Prelude.{ℕ, ◌≡◌, ◌∷◌, ◌++◌, List, [], Some, false, not}
use Rattle.dap_messages.specs.declared.requests.ThreadArguments.{ThreadArguments}
use Rattle.dap_messages.specs.declared.told.Failure.{Failure}
use Rattle.dap_messages.specs.declared.told.Outcome.TheVariants as outcomes
use Rattle.dap_messages.specs.declared.told.Response.{Response}
use Rattle.machine_model.specs.Due.{due}
use Rattle.machine_model.specs.Knowing.{HasNumber}
use Rattle.machine_model.specs.Leaving.{IsFirst}
use Rattle.machine_model.specs.Rest.{IsAnswer, responses_of}
use Rattle.machine_model.specs.Runs.{Message, Run}
use Rattle.machine_model.specs.State.{Hand, Machine, is_gone}
use Rattle.machine_steps.specs.Names.{Act, Command, Does, Next, Request, Resume, Set, StepIn, StepOut, ThreadId}
use Rattle.machine_steps.specs.Names.{a_request, a_response, an_effect, an_error, of_stop}
use Rattle.wish_sets.specs.Order.{has_wish}
use Rattle.wish_sets.specs.Wishes.{is_installed}
use Rattle.wish_sets.specs.declared.wish.Depth.{Depth}
use Rattle.wish_sets.specs.declared.wish.Depth.TheVariants.{Into, Out, Over}
use Rattle.wish_sets.specs.declared.wish.Wish.TheVariants as wish

-- The request asks for a step of the thread with this number: `next` over calls, `stepIn` into them, and `stepOut` out
-- of the method (DAP specification, Next, StepIn and StepOut requests; JDWP, Constants, StepDepth).
pub data AsksStep : Command → ℕ → Depth → Type 0 where
  over : {arguments : ThreadArguments} → AsksStep (Next arguments) arguments.thread_id Over
  into : {arguments : ThreadArguments} → AsksStep (StepIn arguments) arguments.thread_id Into
  out : {arguments : ThreadArguments} → AsksStep (StepOut arguments) arguments.thread_id Out

-- The thread that has this number is to step so, and the event request of the step is installed, unless the target
-- refused it.
pub record IsInFlight (m : Machine) (number : ℕ) (depth : Depth) : Type 0 where
  pub thread : ThreadId
  pub has_number : HasNumber m.state.threads thread number
  pub is_wished : m.state.wishes.wanted.step ≡ Some (record { thread = thread; depth = depth })
  pub is_set : is_installed m.state.wishes.installed (wish.Step thread depth)
      ≡ not (has_wish m.state.wishes.refused (wish.Step thread depth))

-- Where the stop ends for a request that asks for a step, this step is in flight.
abbrev pub StepsAsAsked : Type 0
StepsAsAsked = (messages : List Message) (m : Machine) (hand : Hand) (request : Request) (number : ℕ) (depth : Depth)
    → Run messages m → m.hand ≡ Some hand → hand.item ≡ a_request request → AsksStep request.command number depth
    → (due false m).act ≡ Act.Sends (Does (Resume of_stop)) → IsInFlight m number depth

-- Behind the last response, the target replied an error to the event request of a step (JDWP, EventRequest command set,
-- Set, Step).
pub record HasRefused (messages : List Message) : Type 0 where
  pub before : List Message
  pub after : List Message
  pub thread : ThreadId
  pub depth : Depth
  pub code : ℕ
  pub messages_are : messages ≡ before
      ++ Message.answers (an_effect (Set (wish.Step thread depth))) (an_error code) ∷ after
  pub none_told : responses_of after ≡ []

-- The first request without a response asks for a step of this depth, and this response to it says that it fails (DAP
-- specification, Next, StepIn and StepOut requests; Base Protocol, ErrorResponse).
pub record HasFailed (messages : List Message) (depth : Depth) (response : Response) : Type 0 where
  pub request : Request
  pub number : ℕ
  pub failure : Failure
  pub first : IsFirst messages request
  pub asks : AsksStep request.command number depth
  pub answers : IsAnswer request response
  pub fails : response.outcome ≡ outcomes.Failure failure

-- Where the target has refused the event request of a step, its request fails.
abbrev pub FailsRefused : Type 0
FailsRefused = (messages : List Message) (m : Machine) (response : Response) → Run messages m
    → is_gone m.state.phase ≡ false → (refused : HasRefused messages)
    → (due false m).act ≡ Act.Tells (a_response response) → HasFailed messages refused.depth response
