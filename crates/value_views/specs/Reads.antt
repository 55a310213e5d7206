-- Which value a text is, by its kind (JDWP, Constants, Tag; Java Language Specification, Lexical Structure, Literals).
use Rattle.std.specs.Prelude.{ℕ, ℤ, pos, neg_ℤ, List, ◌^◌, ◌&&◌, drop, length, nat_le, nat_lt, find, codes}
use Rattle.std.specs.Prelude.{Bool, true, false, if◌then◌else◌, Option, Some, None, option_map, option_and_then}
use Rattle.std.specs.Prelude.{Result, Err}
use Rattle.std.specs.Char.{is_ascii_digit}
use Rattle.std.specs.List.{list_all, range_with_len}
use Rattle.std.specs.Option.{ok_or}
use Rattle.std.specs.Str.{bytes_eq}
use Rattle.std.specs.Str.Parse.{digits_value, starts_with_minus}
use Rattle.jdwp_values.specs.declared.id.ObjectId.{ObjectId}
use Rattle.jdwp_values.specs.declared.tag.Tag.{Tag}
use Rattle.jdwp_values.specs.declared.tag.Tag.TheVariants as tags
use Rattle.jdwp_values.specs.declared.value.Value.{Value}
use Rattle.jdwp_values.specs.declared.value.Value.TheVariants as values
use Rattle.jdwp_values.specs.Tags.{tag_of}
use Rattle.value_views.specs.declared.fault.WriteFault.{WriteFault}
use Rattle.value_views.specs.declared.fault.WriteFault.TheVariants.{NotWritable, BadText}
use Rattle.value_views.specs.Quotes.{char_text}

-- 1 to 20 decimal digits
abbrev pub is_number : List ℕ → Bool
is_number text = nat_lt 0 (length text) && nat_le (length text) 20 && list_all is_ascii_digit text

-- the number that they write
abbrev pub number_in : List ℕ → Option ℕ
number_in text = if is_number text then Some (digits_value 10 text) else None

-- a number without a sign is below the half of its range, one with a sign not above it
abbrev pub positive : ℕ → ℕ → Option ℤ
positive half n = if nat_lt n half then Some (pos n) else None

abbrev pub negative : ℕ → ℕ → Option ℤ
negative half n = if nat_le n half then Some (neg_ℤ (pos n)) else None

-- a whole number, with `-` before a negative one
abbrev pub whole_in : ℕ → List ℕ → Option ℤ
whole_in half text =
    if starts_with_minus text then option_and_then (negative half) (number_in (drop 1 text))
    else option_and_then (positive half) (number_in text)

-- a truth value
abbrev pub truth_in : List ℕ → Option ℕ
truth_in text =
    if bytes_eq text (codes "true") then Some 1 else (if bytes_eq text (codes "false") then Some 0 else None)

-- a char: the one that is shown so
unfoldable pub char_in : List ℕ → Option ℕ
char_in text = find (λ n. bytes_eq (char_text n) text) (range_with_len 0 (2 ^ 16))

-- null, the id of no object
abbrev pub null_in : List ℕ → Option ObjectId
null_in text = if bytes_eq text (codes "null") then Some (record { 0 = 0 }) else None

-- values of these kinds are read from texts
abbrev pub is_writable : Tag → Bool
is_writable tags.Double = false
is_writable tags.Float = false
is_writable tags.Void = false
is_writable tags.Byte = true
is_writable tags.Char = true
is_writable tags.Int = true
is_writable tags.Long = true
is_writable tags.Short = true
is_writable tags.Boolean = true
is_writable tags.Object = true
is_writable tags.Array = true
is_writable tags.String = true
is_writable tags.Thread = true
is_writable tags.ThreadGroup = true
is_writable tags.ClassLoader = true
is_writable tags.ClassObject = true

-- the value of a kind that a text is
abbrev pub value_in : Tag → List ℕ → Option Value
value_in tags.Byte text = option_map values.Byte (whole_in (2 ^ 7) text)
value_in tags.Char text = option_map values.Char (char_in text)
value_in tags.Double text = None
value_in tags.Float text = None
value_in tags.Int text = option_map values.Int (whole_in (2 ^ 31) text)
value_in tags.Long text = option_map values.Long (whole_in (2 ^ 63) text)
value_in tags.Short text = option_map values.Short (whole_in (2 ^ 15) text)
value_in tags.Boolean text = option_map values.Boolean (truth_in text)
value_in tags.Void text = None
value_in tags.Object text = option_map values.Object (null_in text)
value_in tags.Array text = option_map values.Array (null_in text)
value_in tags.String text = option_map values.String (null_in text)
value_in tags.Thread text = option_map values.Thread (null_in text)
value_in tags.ThreadGroup text = option_map values.ThreadGroup (null_in text)
value_in tags.ClassLoader text = option_map values.ClassLoader (null_in text)
value_in tags.ClassObject text = option_map values.ClassObject (null_in text)

-- the value by the tag of its kind, where there is one
abbrev pub value_by : Option Tag → List ℕ → Result Value WriteFault
value_by None text = Err NotWritable
value_by (Some tag) text = if is_writable tag then ok_or (value_in tag text) BadText else Err NotWritable

-- the value that a text is, by the byte of its kind
unfoldable pub write_value : ℕ → List ℕ → Result Value WriteFault
write_value kind text = value_by (tag_of kind) text
