-- The message in a frame (DAP overview, Base protocol).
use Rattle.std.specs.Prelude.{ℕ, ◌==◌, Bool, if◌then◌else◌, List, [], drop, position, Option, Some, None}
use Rattle.std.specs.Str.{is_utf8}
use Rattle.serde_json.specs.Data.{Data}
use Rattle.serde_json.specs.Read.{read}

-- `{`, with which an object begins (RFC 8259, section 2)
abbrev pub is_brace : ℕ → Bool
is_brace byte = byte == 123

-- what stands from a place on; nothing where there is none
abbrev pub from_place : Option ℕ → List ℕ → List ℕ
from_place None frame = []
from_place (Some place) frame = drop place frame

-- the body of a frame, which is an object: it begins at the first brace
abbrev pub body_in : List ℕ → List ℕ
body_in frame = from_place (position is_brace frame) frame

-- the JSON that a text is, if it is in UTF-8
abbrev pub value_in : List ℕ → Option Data
value_in text = if is_utf8 text then read text else None

-- the message in a frame, if there is one
abbrev pub message_in : List ℕ → Option Data
message_in frame = value_in (body_in frame)
