-- What the messages of a session come to: its requests, responses, events and stops, and the values that it shows.
use Rattle.std.specs.Prelude.{ℕ, ◌+◌, ◌<◌, ◌≤◌, ◌^◌, Bool, true, false, if◌then◌else◌, List, [], ◌∷◌, bytes_eq, codes, length}
use Rattle.dap_messages.specs.declared.told.Event.{Event}
use Rattle.dap_messages.specs.declared.told.Event.TheVariants.{Initialized, Breakpoint as Changed, Output, Terminated}
use Rattle.dap_messages.specs.declared.told.Event.TheVariants.{Thread as ThreadChanged, Stopped as HasStopped}
use Rattle.dap_messages.specs.declared.told.Outcome.{Outcome}
use Rattle.dap_messages.specs.declared.told.Outcome.TheVariants.{Success, Failure as Failed}
use Rattle.dap_messages.specs.declared.told.Response.{Response}
use Rattle.dap_messages.specs.declared.told.Shape.{Shape}
use Rattle.dap_messages.specs.declared.told.Shape.TheVariants.{Nothing, Capabilities, Breakpoints, Threads, Continued}
use Rattle.dap_messages.specs.declared.told.Shape.TheVariants.{StackFrames, Scopes, Variables, ExceptionInfo}
use Rattle.dap_messages.specs.declared.told.Shape.TheVariants.{Written as IsWritten, Evaluated as IsEvaluated}
use Rattle.dap_messages.specs.declared.told.Told.{Told}
use Rattle.dap_messages.specs.declared.told.Told.TheVariants as told
use Rattle.dap_messages.specs.declared.told.Variable.{Variable}
use Rattle.dap_messages.specs.Telling.{told_text}
use Rattle.machine_model.specs.Rest.{requests_of, told_of}
use Rattle.machine_model.specs.Runs.{Message}
use Rattle.session_summaries.specs.declared.summary.Summary.{Summary}
use Rattle.session_summaries.specs.declared.told.Tally.{Tally}
use Rattle.session_summaries.specs.Summaries.{summed}
use Rattle.session_summaries.specs.Told.{none_told, number_shown, one_if, with_told}
use Rattle.told_values.specs.Tellable.{IsTellable}

-- the value of a variable that is named `n`; 0 of another one (DAP specification, Types, Variable)
abbrev pub n_of : Variable → ℕ
n_of variable = if bytes_eq variable.name (codes "n") then number_shown variable.value else 0

-- the sum of these values
abbrev pub n_among : List Variable → ℕ
n_among [] = 0
n_among (variable ∷ variables) = n_of variable + n_among variables

-- the sum of those that a body shows
abbrev pub n_of_shape : Shape → ℕ
n_of_shape (Variables variables) = n_among variables
n_of_shape Nothing = 0
n_of_shape Capabilities = 0
n_of_shape (Breakpoints breakpoints) = 0
n_of_shape (Threads threads) = 0
n_of_shape (StackFrames frames total) = 0
n_of_shape (Scopes reference) = 0
n_of_shape (IsWritten written) = 0
n_of_shape (IsEvaluated evaluated) = 0
n_of_shape Continued = 0
n_of_shape (ExceptionInfo id mode) = 0

abbrev pub n_of_outcome : Outcome → ℕ
n_of_outcome (Success shape) = n_of_shape shape
n_of_outcome (Failed failure) = 0

-- and of those that a response to `variables` shows (DAP specification, Variables request)
abbrev pub n_of_response : Response → ℕ
n_of_response response = if bytes_eq response.command (codes "variables") then n_of_outcome response.outcome else 0

-- an event that tells of a stop (DAP specification, Events, Stopped)
abbrev pub is_stopped : Event → Bool
is_stopped (HasStopped stopped) = true
is_stopped Initialized = false
is_stopped (Changed breakpoint) = false
is_stopped (ThreadChanged change) = false
is_stopped (Output text) = false
is_stopped Terminated = false

-- what one message comes to
abbrev pub tally_of : Told → Tally
tally_of (told.Response response) = record { responses = 1; events = 0; stops = 0; sum = n_of_response response }
tally_of (told.Event event) = record { responses = 0; events = 1; stops = one_if (is_stopped event); sum = 0 }

-- and all of them
abbrev pub tally_among : List Told → Tally
tally_among [] = none_told
tally_among (message ∷ messages) = with_told (tally_of message) (tally_among messages)

-- the summary of the messages of a session
abbrev pub summary_by : List Message → Summary
summary_by messages = summed (length (requests_of messages)) (tally_among (told_of messages))

-- A message that a client can read: it is told as JSON, and is no longer than a body that the adapter itself would read.
pub record IsReadable (message : Told) : Type 0 where
  pub tellable : IsTellable message
  pub short : (seq : ℕ) → seq < 2 ^ 64 → length (told_text seq message) ≤ 16777216
