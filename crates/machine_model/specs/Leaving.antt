-- How the target is left, and what the handshake goes out for, in every run. The laws stand at the end, behind what
-- they speak of.
use Rattle.std.specs.Prelude.{◌≡◌, ◌∷◌, ◌++◌, Bool, true, false, List}
use Rattle.dap_messages.specs.declared.requests.AttachArguments.{AttachArguments}
use Rattle.dap_messages.specs.declared.requests.DisconnectArguments.{DisconnectArguments}
use Rattle.dap_messages.specs.declared.told.Response.{Response}
use Rattle.machine_model.specs.Knowing.{AreSaid, View, is_farewell}
use Rattle.machine_model.specs.Names.{Attach, Attached, Deed, Disconnect, Dispose, Does, Exit, Fresh}
use Rattle.machine_model.specs.Names.{Request, TargetCommand, a_response, an_effect}
use Rattle.machine_model.specs.Pending.{has_such}
use Rattle.machine_model.specs.Rest.{AreAnswered, IsAnswer, requests_of, responses_of}
use Rattle.machine_model.specs.Runs.{Message, Run}
use Rattle.machine_model.specs.State.{Machine}

-- What the messages say -----------------------------------------------------------------------------------------------

-- how a target is left: it ends where the client says so, else it goes on (DAP specification, Disconnect request,
-- `terminateDebuggee`; JDWP, VirtualMachine command set, Exit and Dispose)
abbrev pub deed_for : Bool → Deed
deed_for true = Exit
deed_for false = Dispose

-- a command goes that leaves the target (JDWP, VirtualMachine command set, Exit and Dispose)
abbrev pub sends_farewell : Message → Bool
sends_farewell (Message.sends command) = is_farewell command
sends_farewell _ = false

-- such a command is replied to
abbrev pub answers_farewell : Message → Bool
answers_farewell (Message.answers command replied) = is_farewell command
answers_farewell _ = false

-- The request is the first of these that has no response here: those before it were answered (DAP specification, Base
-- Protocol, Response).
pub record IsFirst (messages : List Message) (request : Request) : Type 0 where
  pub answered : List Request
  pub others : List Request
  pub heard : requests_of messages ≡ answered ++ request ∷ others
  pub in_turn : AreAnswered answered (responses_of messages)

-- Behind these messages a command may go that leaves the target: for a `disconnect`, which is the first request
-- without a response, and as it asks; while the session is attached, as the messages say; and where none went before.
pub record IsFarewell (messages : List Message) (command : TargetCommand) : Type 0 where
  pub request : Request
  pub arguments : DisconnectArguments
  pub view : View
  pub first : IsFirst messages request
  pub is_disconnect : request.command ≡ Disconnect arguments
  pub as_asked : command ≡ an_effect (Does (deed_for arguments.terminate_debuggee))
  pub said : AreSaid messages view
  pub attached : view.phase ≡ Attached
  pub none_before : has_such sends_farewell messages ≡ false

-- Behind these messages this response may be told: to the first request without one. Where that is a `disconnect`, and
-- the session is attached, as the messages say, the command that leaves the target was replied to; before a session is
-- attached, none was sent.
pub record IsInTurn (messages : List Message) (response : Response) : Type 0 where
  pub request : Request
  pub view : View
  pub first : IsFirst messages request
  pub answers : IsAnswer request response
  pub said : AreSaid messages view
  pub left : (arguments : DisconnectArguments) → request.command ≡ Disconnect arguments → view.phase ≡ Attached
      → has_such answers_farewell messages ≡ true
  pub none_sent : view.phase ≡ Fresh → has_such sends_farewell messages ≡ false

-- Behind these messages the handshake may go out: for an `attach`, which is the first request without a response.
pub record IsGreeting (messages : List Message) : Type 0 where
  pub request : Request
  pub arguments : AttachArguments
  pub first : IsFirst messages request
  pub is_attach : request.command ≡ Attach arguments

-- The laws ------------------------------------------------------------------------------------------------------------

-- A command that leaves the target is sent once, in an attached session, for a `disconnect` and as it asks (DAP
-- specification, Disconnect request).
abbrev pub Farewells : Type 0
Farewells = (messages before after : List Message) (m : Machine) (command : TargetCommand) → Run messages m
    → messages ≡ before ++ Message.sends command ∷ after → is_farewell command ≡ true → IsFarewell before command

-- The response of a `disconnect` comes behind the reply to that command, or the target's end (DAP specification,
-- Disconnect request).
abbrev pub Disconnects : Type 0
Disconnects = (messages before after : List Message) (m : Machine) (response : Response) → Run messages m
    → messages ≡ before ++ Message.tells (a_response response) ∷ after → IsInTurn before response

-- The handshake goes out for an `attach` (JDWP, JDWP Start Up; DAP specification, Attach request).
abbrev pub Greetings : Type 0
Greetings = (messages before after : List Message) (m : Machine) → Run messages m
    → messages ≡ before ++ Message.greets ∷ after → IsGreeting before
