-- What the body of a frame says. (DAP overview, Base protocol; DAP specification, Base Protocol, ProtocolMessage)
use Rattle.std.specs.Prelude.{◌≡◌, ℕ, ◌^◌, List, ◌||◌, nat_lt, if◌then◌else◌, codes, bytes_eq, Option, Some, None}
use Rattle.std.specs.Prelude.{is_some, unwrap_or, option_and_then, Result, Ok, Err}
use Rattle.std.specs.Str.{is_utf8}
use Rattle.serde_json.specs.Data.{Data, null}
use Rattle.serde_json.specs.Read.{read}
use Rattle.serde_json.specs.Find.{get, as_null, as_number, as_object, as_str, as_u64}
use Rattle.dap_messages.specs.Arguments.{◌>>=◌, argument_name, initialize_of, attach_of, thread_of, disconnect_of}
use Rattle.dap_messages.specs.Arguments.{stack_trace_of, scopes_of, variables_of, set_variable_of, evaluate_of}
use Rattle.dap_messages.specs.Breakpoints.{set_breakpoints_of, set_function_breakpoints_of}
use Rattle.dap_messages.specs.Exceptions.{set_exception_breakpoints_of}
use Rattle.dap_messages.specs.declared.arguments.Argument.{Argument}
use Rattle.dap_messages.specs.declared.arguments.Argument.TheVariants.{Arguments}
use Rattle.dap_messages.specs.declared.rows.Row.{Row}
use Rattle.dap_messages.specs.declared.rows.Row.TheVariants as row
use Rattle.dap_messages.specs.declared.requests.Command.{Command}
use Rattle.dap_messages.specs.declared.requests.Command.TheVariants.{Initialize, Attach, ConfigurationDone}
use Rattle.dap_messages.specs.declared.requests.Command.TheVariants.{SetBreakpoints, Threads, Continue}
use Rattle.dap_messages.specs.declared.requests.Command.TheVariants.{SetFunctionBreakpoints}
use Rattle.dap_messages.specs.declared.requests.Command.TheVariants.{SetExceptionBreakpoints}
use Rattle.dap_messages.specs.declared.requests.Command.TheVariants.{Next, StepIn, StepOut, ExceptionInfo}
use Rattle.dap_messages.specs.declared.requests.Command.TheVariants.{Pause, StackTrace, Scopes, Variables}
use Rattle.dap_messages.specs.declared.requests.Command.TheVariants.{SetVariable, Evaluate}
use Rattle.dap_messages.specs.declared.requests.Command.TheVariants.{Disconnect, Unsupported, BadArguments}
use Rattle.dap_messages.specs.declared.requests.Incoming.{Incoming}
use Rattle.dap_messages.specs.declared.requests.Incoming.TheVariants.{Request, Ignored}
use Rattle.dap_messages.specs.declared.requests.ReadFault.{ReadFault}
use Rattle.dap_messages.specs.declared.requests.ReadFault.TheVariants.{NoMemory, NotJson, NotAMessage}

-- which command a name is (DAP specification, Requests)
abbrev pub row_of : List ℕ → Row
row_of name =
    if bytes_eq name (codes "initialize") then row.Initialize else
    (if bytes_eq name (codes "attach") then row.Attach else
    (if bytes_eq name (codes "configurationDone") then row.ConfigurationDone else
    (if bytes_eq name (codes "setBreakpoints") then row.SetBreakpoints else
    (if bytes_eq name (codes "setFunctionBreakpoints") then row.SetFunctionBreakpoints else
    (if bytes_eq name (codes "setExceptionBreakpoints") then row.SetExceptionBreakpoints else
    (if bytes_eq name (codes "threads") then row.Threads else
    (if bytes_eq name (codes "continue") then row.Continue else
    (if bytes_eq name (codes "next") then row.Next else
    (if bytes_eq name (codes "stepIn") then row.StepIn else
    (if bytes_eq name (codes "stepOut") then row.StepOut else
    (if bytes_eq name (codes "pause") then row.Pause else
    (if bytes_eq name (codes "exceptionInfo") then row.ExceptionInfo else
    (if bytes_eq name (codes "stackTrace") then row.StackTrace else
    (if bytes_eq name (codes "scopes") then row.Scopes else
    (if bytes_eq name (codes "variables") then row.Variables else
    (if bytes_eq name (codes "setVariable") then row.SetVariable else
    (if bytes_eq name (codes "evaluate") then row.Evaluate else
    (if bytes_eq name (codes "disconnect") then row.Disconnect else
    row.Unsupported))))))))))))))))))

-- arguments are an object or null
abbrev pub object_or_null : Data → Result Data Argument
object_or_null value = if is_some (as_object value) || is_some (as_null value) then Ok value else Err Arguments

-- missing arguments count as null, which has no members, like {} (DAP specification, Base Protocol, Request)
abbrev pub arguments_of : Data → Result Data Argument
arguments_of request = object_or_null (unwrap_or (get (codes "arguments") request) null)

-- a command with its arguments, by its row; those of an unsupported command don't matter
abbrev pub row_command : Row → Data → Result Command Argument
row_command row.Initialize request = do
  arguments ← arguments_of request
  initialize ← initialize_of arguments
  Ok (Initialize initialize)
row_command row.Attach request = do
  arguments ← arguments_of request
  attach ← attach_of arguments
  Ok (Attach attach)
row_command row.ConfigurationDone request = do
  arguments ← arguments_of request
  Ok ConfigurationDone
row_command row.SetBreakpoints request = do
  arguments ← arguments_of request
  set_breakpoints ← set_breakpoints_of arguments
  Ok (SetBreakpoints set_breakpoints)
row_command row.SetFunctionBreakpoints request = do
  arguments ← arguments_of request
  functions ← set_function_breakpoints_of arguments
  Ok (SetFunctionBreakpoints functions)
row_command row.SetExceptionBreakpoints request = do
  arguments ← arguments_of request
  exceptions ← set_exception_breakpoints_of arguments
  Ok (SetExceptionBreakpoints exceptions)
row_command row.Threads request = do
  arguments ← arguments_of request
  Ok Threads
row_command row.Continue request = do
  arguments ← arguments_of request
  thread ← thread_of arguments
  Ok (Continue thread)
row_command row.Next request = do
  arguments ← arguments_of request
  thread ← thread_of arguments
  Ok (Next thread)
row_command row.StepIn request = do
  arguments ← arguments_of request
  thread ← thread_of arguments
  Ok (StepIn thread)
row_command row.StepOut request = do
  arguments ← arguments_of request
  thread ← thread_of arguments
  Ok (StepOut thread)
row_command row.Pause request = do
  arguments ← arguments_of request
  thread ← thread_of arguments
  Ok (Pause thread)
row_command row.ExceptionInfo request = do
  arguments ← arguments_of request
  thread ← thread_of arguments
  Ok (ExceptionInfo thread)
row_command row.StackTrace request = do
  arguments ← arguments_of request
  stack_trace ← stack_trace_of arguments
  Ok (StackTrace stack_trace)
row_command row.Scopes request = do
  arguments ← arguments_of request
  scopes ← scopes_of arguments
  Ok (Scopes scopes)
row_command row.Variables request = do
  arguments ← arguments_of request
  variables ← variables_of arguments
  Ok (Variables variables)
row_command row.SetVariable request = do
  arguments ← arguments_of request
  set_variable ← set_variable_of arguments
  Ok (SetVariable set_variable)
row_command row.Evaluate request = do
  arguments ← arguments_of request
  evaluate ← evaluate_of arguments
  Ok (Evaluate evaluate)
row_command row.Disconnect request = do
  arguments ← arguments_of request
  disconnect ← disconnect_of arguments
  Ok (Disconnect disconnect)
row_command row.Unsupported request = Ok Unsupported

-- a command, or the name of the argument that breaks its rule
abbrev pub unless_bad : Result Command Argument → Command
unless_bad (Ok command) = command
unless_bad (Err argument) = BadArguments (argument_name argument)

-- the command of a request, by its name
abbrev pub command_of : List ℕ → Data → Command
command_of name request = unless_bad (row_command (row_of name) request)

-- a number of at most 2 ^ 53 - 1
abbrev pub in_sequence : ℕ → Option ℕ
in_sequence seq = if nat_lt seq (2 ^ 53) then Some seq else None

-- a sequence number is an integer that every reader of JSON keeps exactly (DAP specification, Base Protocol, `seq`)
abbrev pub sequence : Data → Option ℕ
sequence message =
    option_and_then in_sequence (option_and_then as_u64 (option_and_then as_number (get (codes "seq") message)))

-- a request has a sequence number and a command
abbrev pub numbered_request : Option ℕ → Option (List ℕ) → Data → Result Incoming ReadFault
numbered_request (Some seq) (Some name) message =
    Ok (Request (record { seq = seq; name = name; command = command_of name message }))
numbered_request (Some seq) None message = Err NotAMessage
numbered_request None name message = Err NotAMessage

-- a request (DAP specification, Base Protocol, Request)
abbrev pub request_of : Data → Result Incoming ReadFault
request_of message =
    numbered_request (sequence message) (option_and_then as_str (get (codes "command") message)) message

-- a message by its `type`
abbrev pub message_of_type : Option (List ℕ) → Data → Result Incoming ReadFault
message_of_type None message = Err NotAMessage
message_of_type (Some kind) message =
    if bytes_eq kind (codes "request") then request_of message else
    (if bytes_eq kind (codes "response") || bytes_eq kind (codes "event") then Ok Ignored else
    Err NotAMessage)

-- a message (DAP specification, Base Protocol, ProtocolMessage)
abbrev pub incoming_of : Data → Result Incoming ReadFault
incoming_of message = message_of_type (option_and_then as_str (get (codes "type") message)) message

-- a body that is JSON is a message
abbrev pub reading_of_value : Option Data → Result Incoming ReadFault
reading_of_value None = Err NotJson
reading_of_value (Some message) = incoming_of message

-- what a body says: JSON in UTF-8, and then a message
unfoldable pub reading_of : List ℕ → Result Incoming ReadFault
reading_of body = if is_utf8 body then reading_of_value (read body) else Err NotJson

-- the result is this one, unless memory was refused
abbrev pub IsIncoming : Result Incoming ReadFault → Result Incoming ReadFault → Type 0
IsIncoming (Ok incoming) reading = reading ≡ Ok incoming
IsIncoming (Err NoMemory) reading = Unit {0}
IsIncoming (Err NotJson) reading = reading ≡ Err NotJson
IsIncoming (Err NotAMessage) reading = reading ≡ Err NotAMessage

-- a body's reading, unless memory was refused
abbrev pub IsReading : List ℕ → Result Incoming ReadFault → Type 0
IsReading body result = IsIncoming result (reading_of body)
