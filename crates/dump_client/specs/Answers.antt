-- What a response says (DAP specification, Base Protocol, Response).
use Rattle.std.specs.Prelude.{ℕ, ℤ, pos, ◌+◌, Bool, false, if◌then◌else◌, List, [], ◌∷◌, ◌++◌, bytes_eq, codes}
use Rattle.std.specs.Prelude.{Option, Some, None, option_and_then, unwrap_or}
use Rattle.std.specs.Option.{option_map_or}
use Rattle.serde_json.specs.Data.{Data, Items, item, no_items}
use Rattle.serde_json.specs.Find.{as_array, as_bool, as_i64, as_number, as_str, as_u64, get}
use Rattle.dump_client.specs.Lines.{frame_line, thread_line, variable_line}
use Rattle.dump_client.specs.declared.answers.Heading.{Heading}

-- Members -------------------------------------------------------------------------------------------------------------

-- the text of a member; an empty one where it is none
abbrev pub text_under : List ℕ → Data → List ℕ
text_under name d = unwrap_or (option_and_then as_str (get name d)) []

-- the number from 0 that a member is; 0 where it is none
abbrev pub number_under : List ℕ → Data → ℕ
number_under name d = unwrap_or (option_and_then as_u64 (option_and_then as_number (get name d))) 0

-- the integer that a member is; 0 where it is none
abbrev pub line_under : List ℕ → Data → ℤ
line_under name d = unwrap_or (option_and_then as_i64 (option_and_then as_number (get name d))) (pos 0)

-- whether a member is this text
abbrev pub is_text : List ℕ → List ℕ → Data → Bool
is_text name text d = option_map_or (λ said. bytes_eq said text) (option_and_then as_str (get name d)) false

-- whether a member is true
abbrev pub is_true : List ℕ → Data → Bool
is_true name d = option_map_or (λ said. said) (option_and_then as_bool (get name d)) false

-- the list of this name in the body
abbrev pub answer_items : List ℕ → Data → Option Items
answer_items name d = option_and_then (λ body. option_and_then as_array (get name body)) (get (codes "body") d)

-- Messages ------------------------------------------------------------------------------------------------------------

-- a response (DAP specification, Base Protocol, Response)
abbrev pub is_response : Data → Bool
is_response d = is_text (codes "type") (codes "response") d

-- the number of the error in the body (DAP specification, Types, Message, `id`)
abbrev pub error_number : Data → ℕ
error_number d =
    option_map_or (λ body. option_map_or (number_under (codes "id")) (get (codes "error") body) 0) (get (codes "body") d) 0

-- the number of the failure that a response tells, if it tells one (DAP specification, Base Protocol, ErrorResponse)
abbrev pub failure_of : Data → Option ℕ
failure_of d = if is_true (codes "success") d then None else Some (error_number d)

-- Threads and frames --------------------------------------------------------------------------------------------------

abbrev pub heading : ℕ → List ℕ → Heading
heading number line = record { number = number; line = line }

-- a thread (DAP specification, Types, Thread)
abbrev pub thread_heading : Data → Heading
thread_heading d =
    heading (number_under (codes "id") d) (thread_line (number_under (codes "id") d) (text_under (codes "name") d))

abbrev pub threads_among : Items → List Heading
threads_among no_items = []
threads_among (item d ds) = thread_heading d ∷ threads_among ds

-- the threads that a response tells (DAP specification, Threads request)
abbrev pub threads_said : Data → List Heading
threads_said d = option_map_or threads_among (answer_items (codes "threads") d) []

-- a frame at this place of the stack (DAP specification, Types, StackFrame)
abbrev pub frame_heading : ℕ → Data → Heading
frame_heading place d =
    heading (number_under (codes "id") d)
    (frame_line place (text_under (codes "name") d) (line_under (codes "line") d))

-- frames from this place of the stack on
abbrev pub frames_from : ℕ → Items → List Heading
frames_from place no_items = []
frames_from place (item d ds) = frame_heading place d ∷ frames_from (place + 1) ds

-- the frames that a response tells (DAP specification, StackTrace request)
abbrev pub frames_said : Data → List Heading
frames_said d = option_map_or (frames_from 0) (answer_items (codes "stackFrames") d) []

-- Variables -----------------------------------------------------------------------------------------------------------

-- the reference of the first scope
abbrev pub first_scope : Items → ℕ
first_scope no_items = 0
first_scope (item d ds) = number_under (codes "variablesReference") d

-- the reference of the variables of the first scope that a response tells, or 0 (DAP specification, Scopes request)
abbrev pub scope_said : Data → ℕ
scope_said d = option_map_or first_scope (answer_items (codes "scopes") d) 0

-- a variable (DAP specification, Types, Variable)
abbrev pub line_of_variable : Data → List ℕ
line_of_variable d =
    variable_line (text_under (codes "name") d) (text_under (codes "type") d) (text_under (codes "value") d)

abbrev pub lines_among : Items → List ℕ
lines_among no_items = []
lines_among (item d ds) = line_of_variable d ++ lines_among ds

-- the lines of the variables that a response tells (DAP specification, Variables request)
abbrev pub variables_said : Data → List ℕ
variables_said d = option_map_or lines_among (answer_items (codes "variables") d) []
