-- Of what `exceptionInfo` tells, in every run. The law stands at the end, behind what it speaks of.
use Rattle.std.specs.Prelude.{ℕ, ◌≡◌, false, List}
use Rattle.dap_messages.specs.declared.requests.ThreadArguments.{ThreadArguments}
use Rattle.dap_messages.specs.declared.told.Outcome.TheVariants as outcomes
use Rattle.dap_messages.specs.declared.told.Response.{Response}
use Rattle.dap_messages.specs.declared.told.Shape.{Shape}
use Rattle.jdwp_values.specs.declared.id.ObjectId.{ObjectId}
use Rattle.machine_model.specs.Due.{due}
use Rattle.machine_model.specs.Knowing.{HasNumber}
use Rattle.machine_model.specs.Leaving.{IsFirst}
use Rattle.machine_model.specs.Pending.{has_such}
use Rattle.machine_model.specs.ReferenceNumbers.{ends_stop}
use Rattle.machine_model.specs.Rest.{IsAnswer}
use Rattle.machine_model.specs.Runs.{Message, Run}
use Rattle.machine_model.specs.State.{Machine}
use Rattle.machine_model.specs.Stopping.{WasHalted}
use Rattle.machine_steps.specs.Names.{Act, Composite, ExceptionInfo, Request, ThreadId, a_composite, a_response, threw}

-- The thread threw this by an event of a composite, under an event request that was installed. Since then no stop is
-- over (JDWP, Event command set, Composite, Exception; JDWP, VirtualMachine command set, Resume).
pub record HasThrown (messages : List Message) (thread : ThreadId) (object : ObjectId) : Type 0 where
  pub place : ℕ
  pub composite : Composite
  pub was_halted : WasHalted messages (a_composite place composite)
      (record { cause = threw object; thread = thread })
  pub in_stop : has_such ends_stop was_halted.later ≡ false

-- the thread of this number threw something
pub record IsThrown (messages : List Message) (threads : List ThreadId) (number : ℕ) : Type 0 where
  pub thread : ThreadId
  pub object : ObjectId
  pub has_number : HasNumber threads thread number
  pub has_thrown : HasThrown messages thread object

-- A success is told to the first request without a response. Where this is an `exceptionInfo`, the thread that it names
-- by its number threw something in the stop in hand (DAP specification, ExceptionInfo request).
pub record IsOfThrown (messages : List Message) (m : Machine) (response : Response) : Type 0 where
  pub request : Request
  pub first : IsFirst messages request
  pub answers : IsAnswer request response
  pub is_thrown : (arguments : ThreadArguments) → request.command ≡ ExceptionInfo arguments
      → IsThrown messages m.state.threads arguments.thread_id

-- Where an `exceptionInfo` succeeds, its thread threw something in the stop in hand.
abbrev pub ShowsThrown : Type 0
ShowsThrown = (messages : List Message) (m : Machine) (response : Response) (shape : Shape) → Run messages m
    → (due false m).act ≡ Act.Tells (a_response response) → response.outcome ≡ outcomes.Success shape
    → IsOfThrown messages m response
