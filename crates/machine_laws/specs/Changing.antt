-- What the target is changed for, in every run. The law stands at the end, behind what it speaks of.
use Rattle.std.specs.Prelude.{ℕ, ◌≡◌, List, Some, false}
use Rattle.dap_messages.specs.declared.requests.DisconnectArguments.{DisconnectArguments}
use Rattle.dap_messages.specs.declared.requests.SetVariableArguments.{SetVariableArguments}
use Rattle.dap_messages.specs.declared.requests.ThreadArguments.{ThreadArguments}
use Rattle.jdwp_events.specs.declared.kind.Policy.TheVariants.{All}
use Rattle.machine_model.specs.Due.{due}
use Rattle.machine_model.specs.Leaving.{IsFirst, deed_for}
use Rattle.machine_model.specs.Runs.{Message, Run}
use Rattle.machine_model.specs.State.{Hand, Machine}
use Rattle.machine_steps.specs.Names.{Act, Command, Composite, ConfigurationDone, Continue, Deed, Disconnect, Does}
use Rattle.machine_steps.specs.Names.{Next}
use Rattle.machine_steps.specs.Names.{Pause, Request, Resume, SetVariable, StepIn, StepOut, Suspend, Write, Writes}
use Rattle.machine_steps.specs.Names.{a_composite, of_composite, of_entry, of_stop}

-- The request asks for this change: `pause` that the whole target is suspended, `continue` and a step that the stop is
-- over, `configurationDone` that the entry is held no longer, `setVariable` that a value is written, and `disconnect`
-- that the target is left (DAP specification, Pause, Continue, Next, StepIn, StepOut, ConfigurationDone, SetVariable
-- and Disconnect requests).
pub data AsksFor : Command → Deed → Type 0 where
  pauses : {arguments : ThreadArguments} → AsksFor (Pause arguments) Suspend
  continues : {arguments : ThreadArguments} → AsksFor (Continue arguments) (Resume of_stop)
  steps : {arguments : ThreadArguments} → AsksFor (Next arguments) (Resume of_stop)
  steps_in : {arguments : ThreadArguments} → AsksFor (StepIn arguments) (Resume of_stop)
  steps_out : {arguments : ThreadArguments} → AsksFor (StepOut arguments) (Resume of_stop)
  configures : AsksFor ConfigurationDone (Resume of_entry)
  writes : {arguments : SetVariableArguments} {write : Write} → AsksFor (SetVariable arguments) (Writes write)
  leaves : {arguments : DisconnectArguments}
      → AsksFor (Disconnect arguments) (deed_for arguments.terminate_debuggee)

-- The first request without a response asks for it; or it undoes the suspension of the composite in hand, whose suspend
-- policy is the whole target (JDWP, Event command set, Composite; JDWP, VirtualMachine command set, Resume).
pub data IsCause (messages : List Message) (m : Machine) : Deed → Type 0 where
  of_request : {deed : Deed} (request : Request) → IsFirst messages request → AsksFor request.command deed
      → IsCause messages m deed
  of_event : {hand : Hand} {place : ℕ} {composite : Composite} → m.hand ≡ Some hand
      → hand.item ≡ a_composite place composite → composite.policy ≡ All
      → IsCause messages m (Resume of_composite)

-- Each change of the target, apart from its event requests, has such a cause.
abbrev pub Changes : Type 0
Changes = (messages : List Message) (m : Machine) (deed : Deed) → Run messages m
    → (due false m).act ≡ Act.Sends (Does deed) → IsCause messages m deed
