-- What a client is told, as it reads it (DAP specification, Base Protocol, ProtocolMessage).
use Rattle.std.specs.Prelude.{ℕ, ◌+◌, ◌-◌, ◌*◌, ◌^◌, nat_le, nat_lt, Bool, true, false, ◌&&◌, if◌then◌else◌, List, [], ◌∷◌}
use Rattle.std.specs.Prelude.{bytes_eq, codes, Option, Some, None, option_and_then, unwrap_or}
use Rattle.std.specs.Option.{option_map_or}
use Rattle.std.specs.Str.{is_utf8}
use Rattle.serde_json.specs.Data.{Data, Items, no_items, item}
use Rattle.serde_json.specs.Find.{get, as_array, as_bool, as_str}
use Rattle.serde_json.specs.Read.{read}
use Rattle.wire_core.specs.Streams.{Front, waits, whole, faulty}
use Rattle.dap_frames.specs.Frames.{Frame}
use Rattle.dap_frames.specs.declared.fault.FrameFault.{FrameFault}
use Rattle.session_summaries.specs.declared.told.Tally.{Tally}

-- Members ------------------------------------------------------------------------------------------------------------

-- the text of a member
abbrev pub text_under : List ℕ → Data → Option (List ℕ)
text_under name d = option_and_then as_str (get name d)

-- whether a member is this text
abbrev pub is_text : List ℕ → List ℕ → Data → Bool
is_text name text d = option_map_or (λ said. bytes_eq said text) (text_under name d) false

-- whether a member is true
abbrev pub is_true : List ℕ → Data → Bool
is_true name d = option_map_or (λ said. said) (option_and_then as_bool (get name d)) false

-- Kinds of messages --------------------------------------------------------------------------------------------------

-- a response (DAP specification, Base Protocol, Response)
abbrev pub is_response : Data → Bool
is_response d = is_text (codes "type") (codes "response") d

-- an event (DAP specification, Base Protocol, Event)
abbrev pub is_event : Data → Bool
is_event d = is_text (codes "type") (codes "event") d

-- an event that tells of a stop (DAP specification, Events, Stopped)
abbrev pub is_stop : Data → Bool
is_stop d = is_event d && is_text (codes "event") (codes "stopped") d

-- a response that shows variables (DAP specification, Variables request)
abbrev pub shows_variables : Data → Bool
shows_variables d =
    is_response d && (is_text (codes "command") (codes "variables") d && is_true (codes "success") d)

-- Values of `n` ------------------------------------------------------------------------------------------------------

-- the number of a digit more, where it has 32 bits
abbrev pub digit_behind : ℕ → ℕ → Option ℕ
digit_behind number byte =
    if nat_le 48 byte && nat_le byte 57
    then (if nat_lt (number * 10 + (byte - 48)) (2 ^ 32) then Some (number * 10 + (byte - 48)) else None) else None

-- the number of decimal digits behind a number, where it has 32 bits
abbrev pub number_behind : ℕ → List ℕ → Option ℕ
number_behind number [] = Some number
number_behind number (byte ∷ bytes) =
    option_and_then (λ next. number_behind next bytes) (digit_behind number byte)

-- the number that a text is in decimal; 0 of another text
abbrev pub number_shown : List ℕ → ℕ
number_shown text = unwrap_or (number_behind 0 text) 0

-- the value of a variable that is named `n`; 0 of another one (DAP specification, Types, Variable)
abbrev pub n_in : Data → ℕ
n_in d = if is_text (codes "name") (codes "n") d then option_map_or number_shown (text_under (codes "value") d) 0 else 0

-- the sum of these values
abbrev pub n_sum : Items → ℕ
n_sum no_items = 0
n_sum (item d ds) = n_in d + n_sum ds

-- the variables that a response shows
abbrev pub variables_in : Data → Option Items
variables_in d = option_and_then as_array (option_and_then (get (codes "variables")) (get (codes "body") d))

-- the sum of the values of `n` that a message shows
abbrev pub n_shown : Data → ℕ
n_shown d = if shows_variables d then option_map_or n_sum (variables_in d) 0 else 0

-- What is told -------------------------------------------------------------------------------------------------------

-- nothing
abbrev pub none_told : Tally
none_told = record { responses = 0; events = 0; stops = 0; sum = 0 }

-- both
abbrev pub with_told : Tally → Tally → Tally
with_told a b = record {
  responses = a.responses + b.responses;
  events = a.events + b.events;
  stops = a.stops + b.stops;
  sum = a.sum + b.sum;
}

-- one where it is so
abbrev pub one_if : Bool → ℕ
one_if true = 1
one_if false = 0

-- what one message tells
abbrev pub told_of : Data → Tally
told_of d = record {
  responses = one_if (is_response d);
  events = one_if (is_event d);
  stops = one_if (is_stop d);
  sum = n_shown d;
}

-- the JSON that a body is, if it is in UTF-8
abbrev pub value_in : List ℕ → Option Data
value_in body = if is_utf8 body then read body else None

-- what a body tells
abbrev pub told_by : List ℕ → Tally
told_by body = option_map_or told_of (value_in body) none_told

-- what the next frame tells, where one is whole
abbrev pub told_at : Front Frame FrameFault → Option Tally
told_at waits = None
told_at (whole frame n) = Some (told_by frame.body)
told_at (faulty fault place) = None

-- what these bodies tell
abbrev pub told_in : List (List ℕ) → Tally
told_in [] = none_told
told_in (body ∷ bodies) = with_told (told_by body) (told_in bodies)
