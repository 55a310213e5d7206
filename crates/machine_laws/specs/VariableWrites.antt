-- What `setVariable` writes, and when, in every run. The laws stand at the end, behind what they speak of.
use Rattle.std.specs.Prelude.{◌≡◌, ◌++◌, Bool, true, false, List, [], Some}
use Rattle.dap_messages.specs.declared.requests.SetVariableArguments.{SetVariableArguments}
use Rattle.dap_messages.specs.declared.told.Outcome.TheVariants as outcomes
use Rattle.dap_messages.specs.declared.told.Response.{Response}
use Rattle.dap_messages.specs.declared.told.Shape.{Shape}
use Rattle.machine_model.specs.Asking.{AreAsked}
use Rattle.machine_model.specs.Due.{due}
use Rattle.machine_model.specs.Leaving.{IsFirst}
use Rattle.machine_model.specs.Rest.{IsAnswer, responses_of}
use Rattle.machine_model.specs.Runs.{Message, Run}
use Rattle.machine_model.specs.State.{Machine}
use Rattle.machine_laws.specs.ClientStops.{AreRead}
use Rattle.machine_steps.specs.Names.{Act, Answer, Does, Request, Sent, SetVariable, Write, Writes, a_response}
use Rattle.machine_steps.specs.Names.{an_answer}

-- Since the request is the first without a response, the last command that changes the target is a write, and the
-- target answered it, and with no error (JDWP, StackFrame, ObjectReference and ArrayReference command sets, SetValues).
pub record HasWritten (messages : List Message) (request : Request) : Type 0 where
  pub earlier : List Message
  pub since : List Message
  pub asked : List Sent
  pub write : Write
  pub answer : Answer
  pub messages_are : messages ≡ earlier ++ since
  pub first : IsFirst earlier request
  pub none_told : responses_of since ≡ []
  pub written : AreAsked since asked
      (Some (record { effect = Does (Writes write); reply = Some (an_answer answer) }))

-- A success is told to the first request without a response. Where this is a `setVariable`, a value was written for it
-- (DAP specification, SetVariable request).
pub record IsBehindWrite (messages : List Message) (response : Response) : Type 0 where
  pub request : Request
  pub first : IsFirst messages request
  pub answers : IsAnswer request response
  pub has_written : (arguments : SetVariableArguments) → request.command ≡ SetVariable arguments
      → HasWritten messages request

-- by what the client was told up to here a stop is in hand
pub record IsInStop (messages : List Message) : Type 0 where
  pub requests : List Request
  pub configured : Bool
  pub told : AreRead messages requests true configured

-- Where a `setVariable` succeeds, a value was written for it.
abbrev pub SetsByWrites : Type 0
SetsByWrites = (messages : List Message) (m : Machine) (response : Response) (shape : Shape) → Run messages m
    → (due false m).act ≡ Act.Tells (a_response response) → response.outcome ≡ outcomes.Success shape
    → IsBehindWrite messages response

-- A value is written in a stop alone, as the client knows it.
abbrev pub WritesInStops : Type 0
WritesInStops = (messages : List Message) (m : Machine) (write : Write) → Run messages m
    → (due false m).act ≡ Act.Sends (Does (Writes write)) → IsInStop messages
