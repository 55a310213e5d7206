-- Which requests are read of their frames, and as what (DAP overview, Base protocol; DAP specification, Base Protocol,
-- Request).
use Rattle.std.specs.Prelude.{◌≡◌, ℕ, ◌<◌, ◌≤◌, ◌^◌, List, ◌++◌, length, false, Ok}
use Rattle.std.specs.Str.{IsUtf8}
use Rattle.serde_json.specs.Data.{Data, depth}
use Rattle.serde_json.specs.Read.{max_depth}
use Rattle.serde_json.specs.Written.{compact_text, has_float}
use Rattle.json_lines.specs.Spelled.{IsSpelled}
use Rattle.wire_core.specs.Streams.{Front}
use Rattle.dap_frames.specs.Frames.{Frame, frame_front}
use Rattle.dap_messages.specs.Reading.{command_of, reading_of}
use Rattle.dap_messages.specs.declared.requests.Incoming.TheVariants.{Request as a_request}
use Rattle.dap_messages.specs.declared.requests.Request.{Request}
use Rattle.request_frames.specs.Requests.{request_data}

-- A number that every reader of JSON keeps exactly; a name in UTF-8; arguments that can be spelled, that leave room for
-- the request around them, and that have no float; and a text that is no longer than a body may be.
pub record CanBeRead (seq : ℕ) (command : List ℕ) (arguments : Data) : Type 0 where
  pub in_sequence : seq < 2 ^ 53
  pub name : IsUtf8 command
  pub spelled : IsSpelled arguments
  pub shallow : depth arguments < max_depth
  pub plain : has_float arguments ≡ false
  pub short : length (compact_text (request_data seq command arguments)) ≤ 16777216

-- the request that this is
abbrev pub request_read : ℕ → List ℕ → Data → Request
request_read seq command arguments =
    record { seq = seq; name = command; command = command_of command (request_data seq command arguments) }

-- The frame is whole, whatever follows it, and takes just its own bytes; and its body reads as this request.
pub record IsHeardAs (request : Request) (bytes : List ℕ) : Type 0 where
  pub frame : Frame
  pub cut : (more : List ℕ) → frame_front (bytes ++ more) ≡ Front.whole frame (length bytes)
  pub reads : reading_of frame.body ≡ Ok (a_request request)
