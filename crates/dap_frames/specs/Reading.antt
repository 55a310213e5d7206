-- How a header is read, byte by byte, and at which byte it is refused. `IsHeader` says what is read so
-- (DAP overview, Base protocol).
use Rattle.std.specs.Prelude.{ℕ, ◌+◌, ◌-◌, ◌*◌, Bool, false, ◌&&◌, not, ◌==◌, nat_lt, nat_le, if◌then◌else◌, List, []}
use Rattle.std.specs.Prelude.{◌∷◌, slice_index, Option, Some, None}
use Rattle.std.specs.Char.{to_ascii_lowercase}
use Rattle.dap_frames.specs.declared.fault.FrameFault.TheVariants.{NoLength, TwoLengths, BadLength, TooLong, BadHeader}
use Rattle.dap_frames.specs.declared.header.Reading.{Reading}
use Rattle.dap_frames.specs.declared.header.Reading.TheVariants.{Line, Name, Digits, Value, LineEnd, End}
use Rattle.dap_frames.specs.declared.header.Step.{Step}
use Rattle.dap_frames.specs.declared.header.Step.TheVariants.{Goes, Ends, Refused}
use Rattle.dap_frames.specs.declared.header.Head.{Head}
use Rattle.dap_frames.specs.declared.header.Head.TheVariants as heads
use Rattle.dap_frames.specs.declared.header.TheConstants.{LENGTH_NAME, MOST_DIGITS, LONGEST_BODY}

-- 0x21 to 0x7E without the colon, what a name is made of
abbrev pub is_name_byte : ℕ → Bool
is_name_byte b = nat_le 33 b && nat_le b 126 && not (b == 58)

-- 48 to 57, the decimal digits
abbrev pub is_digit : ℕ → Bool
is_digit b = nat_le 48 b && nat_le b 57

-- the number that digits spell, with one more
abbrev pub with_digit : ℕ → ℕ → ℕ
with_digit value b = value * 10 + (b - 48)

-- how many bytes of `content-length` a name has with one more byte, where it has no others
abbrev pub next_match : Option ℕ → ℕ → Option ℕ
next_match None b = None
next_match (Some read) b =
    if nat_lt read 14 && (slice_index LENGTH_NAME read == to_ascii_lowercase b) then Some (read + 1) else None

-- all 14 bytes of `content-length` were read, and no others
abbrev pub is_length_name : Option ℕ → Bool
is_length_name None = false
is_length_name (Some read) = read == 14

-- a `\r` at the start of a line
abbrev pub end_of : Option ℕ → Step
end_of None = Refused NoLength
end_of (Some length) = Goes (End length)

-- a length may be said once
abbrev pub number_after : Option ℕ → Step
number_after None = Goes (Digits 0 0)
number_after (Some length) = Refused TwoLengths

-- the colon behind a name, by whether it is `Content-Length`
abbrev pub behind_name : Option ℕ → Bool → Step
behind_name length says_length = if says_length then number_after length else Goes (Value length)

-- one more digit of a length
abbrev pub more_digits : ℕ → ℕ → ℕ → Step
more_digits count value b =
    if nat_lt LONGEST_BODY (with_digit value b) then Refused TooLong
    else if nat_lt count MOST_DIGITS then Goes (Digits (count + 1) (with_digit value b))
    else Refused BadLength

-- one more byte of a header
abbrev pub step : Reading → ℕ → Step
step (Line length) b =
    if b == 13 then end_of length
    else if is_name_byte b then Goes (Name length (next_match (Some 0) b))
    else Refused BadHeader
step (Name length matched) b =
    if b == 58 then behind_name length (is_length_name matched)
    else if is_name_byte b then Goes (Name length (next_match matched b))
    else Refused BadHeader
step (Digits count value) b =
    if is_digit b then more_digits count value b
    else if (b == 32) && (count == 0) then Goes (Digits 0 value)
    else if (b == 13) && nat_lt 0 count then Goes (LineEnd (Some value))
    else Refused BadLength
step (Value length) b =
    if b == 13 then Goes (LineEnd length)
    else if b == 10 then Refused BadHeader
    else Goes (Value length)
step (LineEnd length) b = if b == 10 then Goes (Line length) else Refused BadHeader
step (End length) b = if b == 10 then Ends length else Refused BadHeader

-- what is said of bytes that stand k bytes behind the header's first
abbrev pub later : ℕ → Head → Head
later k (heads.Reads r) = heads.Reads r
later k (heads.Ends n h) = heads.Ends n (k + h)
later k (heads.Refused f p) = heads.Refused f (k + p)

-- what a byte says, and the bytes behind it where it ends nothing
abbrev pub after_step : Step → (Reading → Head) → Head
after_step (Goes r) rest = later 1 (rest r)
after_step (Ends n) rest = heads.Ends n 1
after_step (Refused f) rest = heads.Refused f 0

-- what the bytes of a header say, read from here
abbrev pub head : Reading → List ℕ → Head
head r [] = heads.Reads r
head r (b ∷ bs) = after_step (step r b) (λ t. head t bs)

-- what they say with more bytes behind the first k
abbrev pub onward : ℕ → Head → List ℕ → Head
onward k (heads.Reads r) more = later k (head r more)
onward k (heads.Ends n h) more = heads.Ends n h
onward k (heads.Refused f p) more = heads.Refused f p
