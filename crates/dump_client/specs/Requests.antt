-- The requests of a dump (DAP specification, Requests).
use Rattle.std.specs.Prelude.{ℕ, Bool, true, false, List, [], codes}
use Rattle.serde_json.specs.Data.{Data, array, boolean, number, object, string, unsigned}
use Rattle.serde_json.specs.Data.{item, no_items, member, no_members}
use Rattle.request_frames.specs.Requests.{request_frame}
use Rattle.dump_client.specs.declared.due.Due.{Due}
use Rattle.dump_client.specs.declared.due.Due.TheVariants as due

-- whether all was asked for
abbrev pub is_over : Due → Bool
is_over due.Nothing = true
is_over _ = false

abbrev pub command_of : Due → List ℕ
command_of due.Initialize = codes "initialize"
command_of due.Attach = codes "attach"
command_of due.ConfigurationDone = codes "configurationDone"
command_of due.FirstThreads = codes "threads"
command_of (due.Pause thread) = codes "pause"
command_of due.Threads = codes "threads"
command_of (due.StackTrace thread) = codes "stackTrace"
command_of (due.Scopes frame) = codes "scopes"
command_of (due.Variables reference) = codes "variables"
command_of (due.Continue thread) = codes "continue"
command_of due.Disconnect = codes "disconnect"
command_of due.Nothing = []

-- an object with one member, a number
abbrev pub numbered : List ℕ → ℕ → Data
numbered name n = object (member name (number (unsigned n)) no_members)

-- at most 10,000 frames of a thread are asked for
abbrev pub stack_trace_arguments : ℕ → Data
stack_trace_arguments thread =
    object (member (codes "levels") (number (unsigned 10000))
    (member (codes "threadId") (number (unsigned thread)) no_members))

abbrev pub initialize_arguments : Data
initialize_arguments =
    object (member (codes "adapterID") (string (codes "dump"))
    (member (codes "supportsVariableType") (boolean true) no_members))

abbrev pub attach_arguments : Data
attach_arguments = object (member (codes "sourceRoots") (array (item (string (codes "/")) no_items)) no_members)

abbrev pub arguments_of : Due → Data
arguments_of due.Initialize = initialize_arguments
arguments_of due.Attach = attach_arguments
arguments_of due.ConfigurationDone = object no_members
arguments_of due.FirstThreads = object no_members
arguments_of (due.Pause thread) = numbered (codes "threadId") thread
arguments_of due.Threads = object no_members
arguments_of (due.StackTrace thread) = stack_trace_arguments thread
arguments_of (due.Scopes frame) = numbered (codes "frameId") frame
arguments_of (due.Variables reference) = numbered (codes "variablesReference") reference
arguments_of (due.Continue thread) = numbered (codes "threadId") thread
arguments_of due.Disconnect = object no_members
arguments_of due.Nothing = object no_members

-- the frame of the request with this sequence number
abbrev pub request_of : ℕ → Due → List ℕ
request_of seq due = request_frame seq (command_of due) (arguments_of due)
