-- What a line of a log says, by the JSON value that it is.
use Rattle.std.specs.Prelude.{ℕ, ◌-◌, ◌^◌, List, ◌==◌, ◌&&◌, ◌||◌, nat_lt, nat_le, length, codes, Bool}
use Rattle.std.specs.Prelude.{if◌then◌else◌, Option, Some, None, option_map, option_and_then, Result, Ok, Err}
use Rattle.std.specs.Char.{is_ascii_digit}
use Rattle.std.specs.List.{list_all}
use Rattle.std.specs.Str.{bytes_eq}
use Rattle.hex.specs.Hex.{decode_of}
use Rattle.hex.specs.declared.error.FromHexError.{FromHexError}
use Rattle.serde_json.specs.Data.{Data, Num, unsigned, negative, float, Items, no_items, item}
use Rattle.serde_json.specs.Find.{as_array, as_number, as_str, as_u64}
use Rattle.wire_core.specs.declared.outside.Side.{Side}
use Rattle.wire_core.specs.declared.outside.Side.TheVariants.{Client, Target}
use Rattle.wire_core.specs.declared.outside.Entry.TheVariants.{In, Out, Shut, Failed}
use Rattle.script_text.specs.declared.rows.Row.{Row}
use Rattle.script_text.specs.declared.rows.Row.TheVariants.{Head, Limits, Entry, Quiet, Quiets, Ending, End}
use Rattle.script_text.specs.declared.rows.Version.{Version}
use Rattle.script_text.specs.declared.rows.Version.TheVariants.{First, Second}

-- the side of a name
abbrev pub side_of : List ℕ → Option Side
side_of name =
    if bytes_eq name (codes "client") then Some Client else
    (if bytes_eq name (codes "target") then Some Target else None)

-- a text that names a side
abbrev pub side_in : Data → Option Side
side_in d = option_and_then side_of (as_str d)

-- a digit of hexadecimal, where the letters are lower-case
abbrev pub is_lower_digit : ℕ → Bool
is_lower_digit c = is_ascii_digit c || (nat_le 97 c && nat_le c 102)

-- one or more such digits
abbrev pub is_hexadecimal : List ℕ → Bool
is_hexadecimal text = nat_lt 0 (length text) && list_all is_lower_digit text

-- what was decoded, if it was
abbrev pub decoded : Result (List ℕ) FromHexError → Option (List ℕ)
decoded (Ok bytes) = Some bytes
decoded (Err fault) = None

-- the bytes that a text is the lower-case hexadecimal of, one or more
abbrev pub bytes_of : List ℕ → Option (List ℕ)
bytes_of text = if is_hexadecimal text then decoded (decode_of text) else None

-- a text of lower-case hexadecimal
abbrev pub bytes_in : Data → Option (List ℕ)
bytes_in d = option_and_then bytes_of (as_str d)

-- the status of a program
abbrev pub status_of : ℕ → Option ℕ
status_of n = if nat_lt n 256 then Some n else None

abbrev pub status_in : Data → Option ℕ
status_in d = option_and_then status_of (option_and_then as_u64 (as_number d))

-- the version of this number, where it is known
abbrev pub version_of : ℕ → Option Version
version_of n = if n == 1 then Some First else (if n == 2 then Some Second else None)

-- the version of an integer; where a number is none, there is no such row
abbrev pub version_by : Num → Option (Option Version)
version_by (unsigned n) = Some (version_of n)
version_by (negative z) = Some None
version_by (float x) = None

abbrev pub version_in : Data → Option (Option Version)
version_in d = option_and_then version_by (as_number d)

-- an integer from 1 to this one
abbrev pub count_of : ℕ → ℕ → Option ℕ
count_of most n = if nat_le 1 n && nat_le n most then Some n else None

abbrev pub count_in : ℕ → Data → Option ℕ
count_in most d = option_and_then (count_of most) (option_and_then as_u64 (as_number d))

-- the most waits in vain that a log has, and the highest limits
abbrev pub most_quiets : ℕ
most_quiets = 2 ^ 62

abbrev pub most_turns : ℕ
most_turns = 2 ^ 40

abbrev pub most_quiet : ℕ
most_quiet = 2 ^ 63 - 1

abbrev pub most_waiting : ℕ
most_waiting = 2 ^ 32 - 1

-- a name alone
abbrev pub bare_row : List ℕ → Option Row
bare_row name =
    if bytes_eq name (codes "quiet") then Some Quiet else
    (if bytes_eq name (codes "end") then Some End else None)

-- a name behind which one element stands
abbrev pub single_row : Data → List ℕ → Option Row
single_row one name =
    if bytes_eq name (codes "log") then option_map Head (version_in one) else
    (if bytes_eq name (codes "quiet") then option_map Quiets (count_in most_quiets one) else
    (if bytes_eq name (codes "shut") then option_map (λ side. Entry (Shut side)) (side_in one) else
    (if bytes_eq name (codes "failed") then option_map (λ side. Entry (Failed side)) (side_in one) else
    (if bytes_eq name (codes "ending") then option_map Ending (status_in one) else None))))

-- a name, with a side and bytes
abbrev pub bytes_row : List ℕ → Side → List ℕ → Option Row
bytes_row name side bytes =
    if bytes_eq name (codes "in") then Some (Entry (In side bytes)) else
    (if bytes_eq name (codes "out") then Some (Entry (Out side bytes)) else None)

-- a name behind which two elements stand
abbrev pub triple_row : Data → Data → List ℕ → Option Row
triple_row first second name =
    option_and_then (λ side. option_and_then (bytes_row name side) (bytes_in second)) (side_in first)

-- the limits: each is an integer from 1 to the highest
abbrev pub limits_of : Data → Data → Data → Option Row
limits_of turns quiet waiting =
    option_and_then (λ t. option_and_then (λ q. option_map (Limits t q) (count_in most_waiting waiting))
    (count_in most_quiet quiet)) (count_in most_turns turns)

-- a name behind which three elements stand
abbrev pub limits_row : Data → Data → Data → List ℕ → Option Row
limits_row turns quiet waiting name =
    if bytes_eq name (codes "limits") then limits_of turns quiet waiting else None

-- the row of these elements
abbrev pub row_of_items : Items → Option Row
row_of_items no_items = None
row_of_items (item name no_items) = option_and_then bare_row (as_str name)
row_of_items (item name (item one no_items)) = option_and_then (single_row one) (as_str name)
row_of_items (item name (item first (item second no_items))) = option_and_then (triple_row first second) (as_str name)
row_of_items (item name (item first (item second (item third no_items)))) =
    option_and_then (limits_row first second third) (as_str name)
row_of_items (item name (item first (item second (item third (item fourth more))))) = None

-- the row that a value is, where it is one
abbrev pub row_of : Data → Option Row
row_of d = option_and_then row_of_items (as_array d)
