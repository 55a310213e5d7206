-- Reading a part at the front of some bytes: its value and the bytes behind it, or why it can't be read. For each kind
-- of part `x_at` reads it; its bytes are `spell_x` in Spelling.antt.
use Rattle.std.specs.Prelude.{◌≡◌, ℕ, ℤ, ◌-◌, ◌^◌, ◌&&◌, List, [], ◌∷◌, length, take, drop, Option, Some, None, Result}
use Rattle.std.specs.Prelude.{Ok, Err, nat_lt, if◌then◌else◌}
use Rattle.std.specs.Int.{Width, w8, w16, w32, w64, byte_len, cast_signed}
use Rattle.std.specs.Borrow.{Bor}
use Rattle.std.specs.Int.Digits.{number_from_digits}
use Rattle.jdwp_values.specs.declared.fault.ReadTrouble.{ReadTrouble}
use Rattle.jdwp_values.specs.declared.fault.ValueFault.{ValueFault}
use Rattle.jdwp_values.specs.declared.fault.ValueFault.TheVariants.{Short, BadTag, BadCount}
use Rattle.jdwp_values.specs.declared.limit.Limit.{Limit}
use Rattle.jdwp_values.specs.declared.limit.Limit.TheVariants.{Any}
use Rattle.jdwp_values.specs.declared.location.Location.{Location}
use Rattle.jdwp_values.specs.declared.sizes.IdSizes.{IdSizes}
use Rattle.jdwp_values.specs.declared.tag.Tag.{Tag}
use Rattle.jdwp_values.specs.declared.tag.Tag.TheVariants as tags
use Rattle.jdwp_values.specs.declared.tag.TypeTag.{TypeTag}
use Rattle.jdwp_values.specs.declared.value.Value.{Value}
use Rattle.jdwp_values.specs.declared.value.Value.TheVariants as values
use Rattle.jdwp_values.specs.Counts.{allows}
use Rattle.jdwp_values.specs.Parts.{Simple, unsigned, signed, object_id, thread_id, class_id, method_id, field_id}
use Rattle.jdwp_values.specs.Parts.{frame_id, type_tag_byte, nothing, OfSimple, Part, simple, count, text, location}
use Rattle.jdwp_values.specs.Parts.{value, reference, untagged, tail, Of}
use Rattle.jdwp_values.specs.Tags.{type_tag_of, tag_of, is_reference}

-- what was read is handed on, and a fault stays
infixl 10 ◌>>=◌
abbrev pub ◌>>=◌ : {A B : Type 0} → Result A ValueFault → (A → Result B ValueFault) → Result B ValueFault
(Ok x) >>= f = f x
(Err e) >>= f = Err e

-- what a function on bytes answered, seen by view, is what reading gives
abbrev pub Gives : {X Y : Type 0} → (X → Y) → Result X ValueFault → Result Y ValueFault → Type 0
Gives view (Ok x) read = read ≡ Ok (view x)
Gives view (Err e) read = read ≡ Err e

-- the next bytes, so many
abbrev pub bytes_at : ℕ → List ℕ → Result (List ℕ × List ℕ) ValueFault
bytes_at size bytes = if nat_lt (length bytes) size then Err Short else Ok (take size bytes, drop size bytes)

-- a number without a sign, of so many bytes
unfoldable pub unsigned_at : ℕ → List ℕ → Result (ℕ × List ℕ) ValueFault
unsigned_at size bytes = do
  front ← bytes_at size bytes
  Ok (number_from_digits 256 front.0, front.1)

-- a number with a sign, in two's complement
unfoldable pub signed_at : Width → List ℕ → Result (ℤ × List ℕ) ValueFault
signed_at w bytes = do
  x ← unsigned_at (byte_len w) bytes
  Ok (cast_signed w x.0, x.1)

-- the value that was looked up, if it is there
abbrev pub tagged : {A : Type 0} → Option A → List ℕ → Result (A × List ℕ) ValueFault
tagged (Some x) rest = Ok (x, rest)
tagged None rest = Err BadTag

-- a byte that is a type tag's (JDWP, Constants, TypeTag)
unfoldable pub type_tag_at : List ℕ → Result (TypeTag × List ℕ) ValueFault
type_tag_at bytes = do
  byte ← unsigned_at 1 bytes
  tagged (type_tag_of byte.0) byte.1

-- a part of one number, where an id takes as many bytes as ids of its kind have
unfoldable pub simple_at : IdSizes → (s : Simple) → List ℕ → Result (OfSimple s × List ℕ) ValueFault
simple_at sizes (unsigned size) bytes = unsigned_at size bytes
simple_at sizes (signed w) bytes = signed_at w bytes
simple_at sizes object_id bytes = do
  x ← unsigned_at sizes.object bytes
  Ok (record { 0 = x.0 }, x.1)
simple_at sizes thread_id bytes = do
  x ← unsigned_at sizes.object bytes
  Ok (record { 0 = x.0 }, x.1)
simple_at sizes class_id bytes = do
  x ← unsigned_at sizes.class bytes
  Ok (record { 0 = x.0 }, x.1)
simple_at sizes method_id bytes = do
  x ← unsigned_at sizes.method bytes
  Ok (record { 0 = x.0 }, x.1)
simple_at sizes field_id bytes = do
  x ← unsigned_at sizes.field bytes
  Ok (record { 0 = x.0 }, x.1)
simple_at sizes frame_id bytes = do
  x ← unsigned_at sizes.frame bytes
  Ok (record { 0 = x.0 }, x.1)
simple_at sizes type_tag_byte bytes = type_tag_at bytes
simple_at sizes nothing bytes = Ok (tt, bytes)

-- A count is an int. A negative one, whose unsigned number is 2 ^ 31 or more, and one that the place doesn't allow are
-- bad.
unfoldable pub count_at : Limit → List ℕ → Result (ℕ × List ℕ) ValueFault
count_at limit bytes = do
  x ← unsigned_at 4 bytes
  if nat_lt x.0 (2 ^ 31) && allows limit x.0 then Ok x else Err BadCount

-- how many bytes, and those (JDWP, Detailed Command Information, common data types, string)
unfoldable pub text_at : List ℕ → Result (List ℕ × List ℕ) ValueFault
text_at bytes = do
  len ← count_at Any bytes
  bytes_at len.0 len.1

-- a type tag, a class, a method and an index (JDWP, Detailed Command Information, common data types, location)
unfoldable pub location_at : IdSizes → List ℕ → Result (Location × List ℕ) ValueFault
location_at sizes bytes = do
  tag ← type_tag_at bytes
  class ← simple_at sizes class_id tag.1
  method ← simple_at sizes method_id class.1
  index ← unsigned_at 8 method.1
  Ok (record { tag = tag.0; class = class.0; method = method.0; index = index.0 }, index.1)

-- what was read, as a value
abbrev pub as_value : {A : Type 0} → (A → Value) → Result (A × List ℕ) ValueFault → Result (Value × List ℕ) ValueFault
as_value make (Ok x) = Ok (make x.0, x.1)
as_value make (Err f) = Err f

-- what a value is made of behind its tag
unfoldable pub of_tag_at : IdSizes → Tag → List ℕ → Result (Value × List ℕ) ValueFault
of_tag_at sizes tags.Byte bytes = as_value values.Byte (signed_at w8 bytes)
of_tag_at sizes tags.Char bytes = as_value values.Char (unsigned_at 2 bytes)
of_tag_at sizes tags.Double bytes = as_value values.Double (unsigned_at 8 bytes)
of_tag_at sizes tags.Float bytes = as_value values.Float (unsigned_at 4 bytes)
of_tag_at sizes tags.Int bytes = as_value values.Int (signed_at w32 bytes)
of_tag_at sizes tags.Long bytes = as_value values.Long (signed_at w64 bytes)
of_tag_at sizes tags.Short bytes = as_value values.Short (signed_at w16 bytes)
of_tag_at sizes tags.Boolean bytes = as_value values.Boolean (unsigned_at 1 bytes)
of_tag_at sizes tags.Void bytes = Ok (values.Void, bytes)
of_tag_at sizes tags.Object bytes = as_value values.Object (simple_at sizes object_id bytes)
of_tag_at sizes tags.Array bytes = as_value values.Array (simple_at sizes object_id bytes)
of_tag_at sizes tags.String bytes = as_value values.String (simple_at sizes object_id bytes)
of_tag_at sizes tags.Thread bytes = as_value values.Thread (simple_at sizes object_id bytes)
of_tag_at sizes tags.ThreadGroup bytes = as_value values.ThreadGroup (simple_at sizes object_id bytes)
of_tag_at sizes tags.ClassLoader bytes = as_value values.ClassLoader (simple_at sizes object_id bytes)
of_tag_at sizes tags.ClassObject bytes = as_value values.ClassObject (simple_at sizes object_id bytes)

-- the value of a tag byte that has been read (JDWP, Detailed Command Information, common data types, untagged-value)
unfoldable pub untagged_at : IdSizes → ℕ → List ℕ → Result (Value × List ℕ) ValueFault
untagged_at sizes byte bytes = do
  tag ← tagged (tag_of byte) bytes
  of_tag_at sizes tag.0 tag.1

-- a tag, and the value behind it (JDWP, Detailed Command Information, common data types, value)
unfoldable pub value_at : IdSizes → List ℕ → Result (Value × List ℕ) ValueFault
value_at sizes bytes = do
  byte ← unsigned_at 1 bytes
  untagged_at sizes byte.0 byte.1

-- the tag, where it is a reference's
abbrev pub reference_tag : Option Tag → Option Tag
reference_tag None = None
reference_tag (Some tag) = if is_reference tag then Some tag else None

-- a reference's tag, and its object (JDWP, Detailed Command Information, common data types, tagged-objectID)
unfoldable pub reference_at : IdSizes → List ℕ → Result (Value × List ℕ) ValueFault
reference_at sizes bytes = do
  byte ← unsigned_at 1 bytes
  tag ← tagged (reference_tag (tag_of byte.0)) byte.1
  of_tag_at sizes tag.0 tag.1

-- the bytes that are left, at least one and at most eight of them
unfoldable pub tail_at : List ℕ → Result (List ℕ × List ℕ) ValueFault
tail_at [] = Err Short
tail_at (b ∷ bytes) = Ok (take 8 (b ∷ bytes), drop 8 (b ∷ bytes))

-- a part of any kind
abbrev pub read_part : IdSizes → (p : Part) → List ℕ → Result (Of p × List ℕ) ValueFault
read_part sizes (simple s) bytes = simple_at sizes s bytes
read_part sizes (count limit) bytes = count_at limit bytes
read_part sizes text bytes = text_at bytes
read_part sizes location bytes = location_at sizes bytes
read_part sizes value bytes = value_at sizes bytes
read_part sizes reference bytes = reference_at sizes bytes
read_part sizes (untagged byte) bytes = untagged_at sizes byte bytes
read_part sizes tail bytes = tail_at bytes

-- Where a reader stands: the sizes of ids, the whole body, and the bytes of it that are left.
pub record Place : Type 0 where
  pub sizes : IdSizes
  pub body : List ℕ
  pub rest : List ℕ

-- how many bytes were read before
abbrev pub offset : Place → ℕ
offset place = length place.body - length place.rest

-- the place at which these bytes are left
abbrev pub behind : Place → List ℕ → Place
behind place rest = record place { rest = rest }

-- a part's fault stands where the part begins
abbrev pub placed : {A : Type 0} → Place → Result (A × List ℕ) ValueFault → Result (A × Place) ReadTrouble
placed place (Ok x) = Ok (x.0, behind place x.1)
placed place (Err f) = Err (record { fault = f; at = offset place })

-- a part where a reader stands
unfoldable pub part_at : (p : Part) → Place → Result (Of p × Place) ReadTrouble
part_at p place = placed place (read_part place.sizes p place.rest)

-- What a reading call answers, seen by view, and where it leaves the reader: an error leaves it where it stood.
abbrev pub Reads : {X Y : Type 0} → (X → Y) → Result (Y × Place) ReadTrouble → Place → Place → Result X ReadTrouble
    → Type 0
Reads view read old new (Ok x) = read ≡ Ok (view x, new)
Reads view read old new (Err trouble) = (read ≡ Err trouble) × (new ≡ old)

-- What a reader makes of what was found at the front of its bytes, and where that leaves it.
abbrev pub Settles : {A : Type 0} → Place → Place → Result (A × Bor (List ℕ)) ValueFault → Result A ReadTrouble → Type 0
Settles old new (Ok x) result = (result ≡ Ok x.0) × (new ≡ behind old x.1.now)
Settles old new (Err f) result = (result ≡ Err (record { fault = f; at = offset old })) × (new ≡ old)
