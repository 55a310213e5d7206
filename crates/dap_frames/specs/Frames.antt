-- The frames of a client's stream (DAP overview, Base protocol).
use Rattle.std.specs.Prelude.{◌≡◌, ◌≢◌, ℕ, ◌+◌, ◌<◌, ◌≤◌, ◌⊎◌, List, [], ◌∷◌, ◌++◌, length, take, drop, map, replicate}
use Rattle.std.specs.Prelude.{nat_lt, if◌then◌else◌, codes, decimal, Option, Some, None}
use Rattle.std.specs.Char.{to_ascii_lowercase}
use Rattle.std.specs.List.{AllByRecursion}
use Rattle.std.specs.Str.Parse.{IsNumeral, digits_value}
use Rattle.wire_core.specs.Streams.{Front, waits, whole, faulty, joined}
use Rattle.dap_frames.specs.declared.fault.FrameFault.{FrameFault}
use Rattle.dap_frames.specs.declared.fault.FrameFault.TheVariants.{HeaderTooLong}
use Rattle.dap_frames.specs.declared.header.Reading.TheVariants.{Line}
use Rattle.dap_frames.specs.declared.header.Head.{Head}
use Rattle.dap_frames.specs.declared.header.Head.TheVariants.{Reads, Ends, Refused}
use Rattle.dap_frames.specs.Reading.{head}

-- What a name is made of: visible ASCII characters, none of them a colon.
abbrev pub IsNameByte : ℕ → Type 0
IsNameByte b = (33 ≤ b) × (b ≤ 126) × (b ≢ 58)

-- A name has one or more of them.
abbrev pub IsName : List ℕ → Type 0
IsName name = (0 < length name) × AllByRecursion IsNameByte name

-- `Content-Length`, in any ASCII case
abbrev pub IsLengthName : List ℕ → Type 0
IsLengthName name = map to_ascii_lowercase name ≡ codes "content-length"

-- what a value may have: no `\r` and no `\n`
abbrev pub IsPlain : ℕ → Type 0
IsPlain b = (b ≢ 13) × (b ≢ 10)

-- The line that says how long the body is: any number of blanks, and a number of 1 to 10 digits and at most 16,777,216.
pub record IsLengthLine (line : List ℕ) (body_length : ℕ) : Type 0 where
  pub name : List ℕ
  pub blanks : ℕ
  pub digits : List ℕ
  pub text : line ≡ name ++ codes ":" ++ replicate blanks 32 ++ digits ++ codes "\r\n"
  pub is_name : IsName name
  pub says_length : IsLengthName name
  pub numeral : IsNumeral 10 digits
  pub short : length digits ≤ 10
  pub value : digits_value 10 digits ≡ body_length
  pub bounded : body_length ≤ 16777216

-- A line of another name has any value.
pub record IsOtherLine (line : List ℕ) : Type 0 where
  pub name : List ℕ
  pub value : List ℕ
  pub text : line ≡ name ++ codes ":" ++ value ++ codes "\r\n"
  pub is_name : IsName name
  pub other : ¬ IsLengthName name
  pub plain : AllByRecursion IsPlain value

-- Behind a length that was said, or none, these lines say the one length of the header: just one of all says it.
abbrev pub AreLines : Option ℕ → List (List ℕ) → ℕ → Type 0
AreLines said [] body_length = said ≡ Some body_length
AreLines said (line ∷ lines) body_length =
    (IsOtherLine line × AreLines said lines body_length)
    ⊎ ((said ≡ None) × (n : ℕ) × IsLengthLine line n × AreLines (Some n) lines body_length)

-- A header is lines, and an empty one; one of any length is long.
pub record IsLongHeader (header : List ℕ) (body_length : ℕ) : Type 0 where
  pub lines : List (List ℕ)
  pub text : header ≡ joined lines ++ codes "\r\n"
  pub are_lines : AreLines None lines body_length

-- A header that is accepted has at most 4,096 bytes.
pub record IsHeader (header : List ℕ) (body_length : ℕ) : Type 0 where
  pub is_long : IsLongHeader header body_length
  pub bounded : length header ≤ 4096

-- A frame is a header and a body of the length that the header says.
pub record IsFrame (text : List ℕ) (body : List ℕ) : Type 0 where
  pub header : List ℕ
  pub is_header : IsHeader header (length body)
  pub parts : text ≡ header ++ body

-- A frame: the length of its header, which is the place of its body, and the body.
pub record Frame : Type 0 where
  pub header : ℕ
  pub body : List ℕ

-- where 4,096 bytes end no header, the next one is refused
abbrev pub bounded_by : ℕ → Head → Head
bounded_by count (Reads r) = if nat_lt 4096 count then Refused HeaderTooLong 4096 else Reads r
bounded_by count (Ends n h) = Ends n h
bounded_by count (Refused f p) = Refused f p

-- what the header at the front of some bytes says
abbrev pub header_of : List ℕ → Head
header_of bytes = bounded_by (length bytes) (head (Line None) (take 4096 bytes))

-- a header and, once it is there, the body
abbrev pub front_by : Head → List ℕ → Front Frame FrameFault
front_by (Reads r) bytes = waits
front_by (Ends n h) bytes =
    if nat_lt (length bytes) (h + n) then waits else whole (record { header = h; body = take n (drop h bytes) }) (h + n)
front_by (Refused fault place) bytes = faulty fault place

-- the frame at the front of some bytes
unfoldable pub frame_front : List ℕ → Front Frame FrameFault
frame_front bytes = front_by (header_of bytes) bytes

-- the frame of a body, as the bridge writes it (DAP overview, Base protocol)
abbrev pub frame_bytes : List ℕ → List ℕ
frame_bytes body = codes "Content-Length: " ++ decimal (length body) ++ codes "\r\n\r\n" ++ body

-- The bytes begin with a frame of this header's length and this body, and it takes n bytes.
pub record Begins (bytes : List ℕ) (frame : Frame) (n : ℕ) : Type 0 where
  pub header : List ℕ
  pub rest : List ℕ
  pub parts : bytes ≡ (header ++ frame.body) ++ rest
  pub is_header : IsHeader header (length frame.body)
  pub place : length header ≡ frame.header
  pub taken : n ≡ frame.header + length frame.body

-- The bytes are the beginning of a frame with a header of any length, and not all of it.
pub record IsPart (bytes : List ℕ) : Type 0 where
  pub more : List ℕ
  pub some : 0 < length more
  pub header : List ℕ
  pub body : List ℕ
  pub is_header : IsLongHeader header (length body)
  pub parts : bytes ++ more ≡ header ++ body

-- The bytes neither begin with a frame with a header of any length nor are the beginning of one.
abbrev pub HasNoFrame : List ℕ → Type 0
HasNoFrame bytes =
    (more header body rest : List ℕ) → IsLongHeader header (length body) → bytes ++ more ≡ (header ++ body) ++ rest → ⊥

-- no header of at most 4,096 bytes stands at the front
abbrev pub HasNoHeader : List ℕ → Type 0
HasNoHeader bytes = (header rest : List ℕ) (n : ℕ) → IsHeader header n → bytes ≡ header ++ rest → ⊥

-- What waits: the beginning of a frame, of which at most 4,096 bytes came, or all of a header that is accepted.
pub record IsUnfinished (bytes : List ℕ) : Type 0 where
  pub is_part : IsPart bytes
  pub in_bounds : (length bytes ≤ 4096)
      ⊎ ((header : List ℕ) × (rest : List ℕ) × (n : ℕ) × IsHeader header n × (bytes ≡ header ++ rest))

-- The first byte that is refused: what stands before it is the beginning of a frame, and with it, it is of none; or it
-- is the 4,097th, and no header ended before it.
pub record IsRefused (bytes : List ℕ) (fault : FrameFault) (place : ℕ) : Type 0 where
  pub here : place < length bytes
  pub before : IsPart (take place bytes)
  pub why : ((fault ≡ HeaderTooLong) × (place ≡ 4096) × HasNoHeader bytes)
      ⊎ ((place < 4096) × HasNoFrame (take (place + 1) bytes))
