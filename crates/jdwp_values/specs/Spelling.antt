-- The one spelling of each part, and what has a spelling. All numbers are big-endian (JDWP, JDWP Packets).
--
-- For each kind of part: `x_at` (Reading.antt) reads it, `spell_x` is its bytes, `FitsX` says that it has a spelling,
-- and `InRangeX` that its numbers are of their types.
use Rattle.std.specs.Prelude.{◌≡◌, ℕ, ◌<◌, ◌≤◌, ◌^◌, true, List, [], ◌++◌, length, Result, Ok, Err, FitsSigned}
use Rattle.std.specs.Int.{w8, w16, w32, w64, byte_len, bytes_high_first, cast_unsigned}
use Rattle.jdwp_values.specs.declared.location.Location.{Location}
use Rattle.jdwp_values.specs.declared.sizes.IdSizes.{IdSizes}
use Rattle.jdwp_values.specs.declared.value.Value.{Value}
use Rattle.jdwp_values.specs.declared.value.Value.TheVariants as values
use Rattle.jdwp_values.specs.Counts.{allows}
use Rattle.jdwp_values.specs.Parts.{Simple, unsigned, signed, object_id, thread_id, class_id, method_id, field_id}
use Rattle.jdwp_values.specs.Parts.{frame_id, type_tag_byte, nothing, OfSimple, tag_of_value, Part, simple, count, text}
use Rattle.jdwp_values.specs.Parts.{location, value, reference, untagged, tail, Of}
use Rattle.jdwp_values.specs.Tags.{byte_of_type_tag, byte_of_tag, is_reference}

-- a part of one number, where an id takes as many bytes as ids of its kind have
abbrev pub spell_simple : IdSizes → (s : Simple) → OfSimple s → List ℕ
spell_simple sizes (unsigned size) x = bytes_high_first size x
spell_simple sizes (signed w) x = bytes_high_first (byte_len w) (cast_unsigned w x)
spell_simple sizes object_id x = bytes_high_first sizes.object x.0
spell_simple sizes thread_id x = bytes_high_first sizes.object x.0
spell_simple sizes class_id x = bytes_high_first sizes.class x.0
spell_simple sizes method_id x = bytes_high_first sizes.method x.0
spell_simple sizes field_id x = bytes_high_first sizes.field x.0
spell_simple sizes frame_id x = bytes_high_first sizes.frame x.0
spell_simple sizes type_tag_byte x = bytes_high_first 1 (byte_of_type_tag x)
spell_simple sizes nothing x = []

-- a value without its tag (JDWP, Detailed Command Information, common data types, untagged-value)
abbrev pub spell_untagged : IdSizes → Value → List ℕ
spell_untagged sizes (values.Byte x) = spell_simple sizes (signed w8) x
spell_untagged sizes (values.Char x) = spell_simple sizes (unsigned 2) x
spell_untagged sizes (values.Double x) = spell_simple sizes (unsigned 8) x
spell_untagged sizes (values.Float x) = spell_simple sizes (unsigned 4) x
spell_untagged sizes (values.Int x) = spell_simple sizes (signed w32) x
spell_untagged sizes (values.Long x) = spell_simple sizes (signed w64) x
spell_untagged sizes (values.Short x) = spell_simple sizes (signed w16) x
spell_untagged sizes (values.Boolean x) = spell_simple sizes (unsigned 1) x
spell_untagged sizes values.Void = []
spell_untagged sizes (values.Object x) = spell_simple sizes object_id x
spell_untagged sizes (values.Array x) = spell_simple sizes object_id x
spell_untagged sizes (values.String x) = spell_simple sizes object_id x
spell_untagged sizes (values.Thread x) = spell_simple sizes object_id x
spell_untagged sizes (values.ThreadGroup x) = spell_simple sizes object_id x
spell_untagged sizes (values.ClassLoader x) = spell_simple sizes object_id x
spell_untagged sizes (values.ClassObject x) = spell_simple sizes object_id x

-- a value behind its tag (JDWP, Detailed Command Information, common data types, value)
abbrev pub spell_value : IdSizes → Value → List ℕ
spell_value sizes v = bytes_high_first 1 (byte_of_tag (tag_of_value v)) ++ spell_untagged sizes v

-- a type tag, a class, a method and an index (JDWP, Detailed Command Information, common data types, location)
abbrev pub spell_location : IdSizes → Location → List ℕ
spell_location sizes l = spell_simple sizes type_tag_byte l.tag ++ spell_simple sizes class_id l.class
    ++ spell_simple sizes method_id l.method ++ spell_simple sizes (unsigned 8) l.index

-- a part of any kind
abbrev pub spell_part : IdSizes → (p : Part) → Of p → List ℕ
spell_part sizes (simple s) x = spell_simple sizes s x
spell_part sizes (count limit) x = bytes_high_first 4 x
spell_part sizes text x = bytes_high_first 4 (length x) ++ x
spell_part sizes location x = spell_location sizes x
spell_part sizes value x = spell_value sizes x
spell_part sizes reference x = spell_value sizes x
spell_part sizes (untagged byte) x = spell_untagged sizes x
spell_part sizes tail x = x

-- an id fits the bytes that it has
abbrev pub FitsSimple : IdSizes → (s : Simple) → OfSimple s → Type 0
FitsSimple sizes (unsigned size) x = Unit {0}
FitsSimple sizes (signed w) x = Unit {0}
FitsSimple sizes object_id x = x.0 < 256 ^ sizes.object
FitsSimple sizes thread_id x = x.0 < 256 ^ sizes.object
FitsSimple sizes class_id x = x.0 < 256 ^ sizes.class
FitsSimple sizes method_id x = x.0 < 256 ^ sizes.method
FitsSimple sizes field_id x = x.0 < 256 ^ sizes.field
FitsSimple sizes frame_id x = x.0 < 256 ^ sizes.frame
FitsSimple sizes type_tag_byte x = Unit {0}
FitsSimple sizes nothing x = Unit {0}

-- an object's id fits its bytes, and every other value has a spelling
abbrev pub FitsValue : IdSizes → Value → Type 0
FitsValue sizes (values.Object x) = FitsSimple sizes object_id x
FitsValue sizes (values.Array x) = FitsSimple sizes object_id x
FitsValue sizes (values.String x) = FitsSimple sizes object_id x
FitsValue sizes (values.Thread x) = FitsSimple sizes object_id x
FitsValue sizes (values.ThreadGroup x) = FitsSimple sizes object_id x
FitsValue sizes (values.ClassLoader x) = FitsSimple sizes object_id x
FitsValue sizes (values.ClassObject x) = FitsSimple sizes object_id x
FitsValue sizes (values.Byte x) = Unit {0}
FitsValue sizes (values.Char x) = Unit {0}
FitsValue sizes (values.Double x) = Unit {0}
FitsValue sizes (values.Float x) = Unit {0}
FitsValue sizes (values.Int x) = Unit {0}
FitsValue sizes (values.Long x) = Unit {0}
FitsValue sizes (values.Short x) = Unit {0}
FitsValue sizes (values.Boolean x) = Unit {0}
FitsValue sizes values.Void = Unit {0}

-- the ids of a location fit their bytes
pub record FitsLocation (sizes : IdSizes) (l : Location) : Type 0 where
  pub class : l.class.0 < 256 ^ sizes.class
  pub method : l.method.0 < 256 ^ sizes.method

-- what has a spelling in this part's place
abbrev pub FitsPart : IdSizes → (p : Part) → Of p → Type 0
FitsPart sizes (simple s) x = FitsSimple sizes s x
FitsPart sizes (count limit) x = (x < 2 ^ 31) × (allows limit x ≡ true)
FitsPart sizes text x = length x < 2 ^ 31
FitsPart sizes location x = FitsLocation sizes x
FitsPart sizes value x = FitsValue sizes x
FitsPart sizes reference x = (is_reference (tag_of_value x) ≡ true) × FitsValue sizes x
FitsPart sizes (untagged byte) x = (byte_of_tag (tag_of_value x) ≡ byte) × FitsValue sizes x
FitsPart sizes tail x = (1 ≤ length x) × (length x ≤ 8)

-- The numbers of a part are of their types: what every value of the program is, but not each number of a law.
abbrev pub InRangeSimple : (s : Simple) → OfSimple s → Type 0
InRangeSimple (unsigned size) x = x < 256 ^ size
InRangeSimple (signed w) x = FitsSigned w x
InRangeSimple object_id x = Unit {0}
InRangeSimple thread_id x = Unit {0}
InRangeSimple class_id x = Unit {0}
InRangeSimple method_id x = Unit {0}
InRangeSimple field_id x = Unit {0}
InRangeSimple frame_id x = Unit {0}
InRangeSimple type_tag_byte x = Unit {0}
InRangeSimple nothing x = Unit {0}

-- the same of a value's number
abbrev pub InRangeValue : Value → Type 0
InRangeValue (values.Byte x) = FitsSigned w8 x
InRangeValue (values.Char x) = x < 256 ^ 2
InRangeValue (values.Double x) = x < 256 ^ 8
InRangeValue (values.Float x) = x < 256 ^ 4
InRangeValue (values.Int x) = FitsSigned w32 x
InRangeValue (values.Long x) = FitsSigned w64 x
InRangeValue (values.Short x) = FitsSigned w16 x
InRangeValue (values.Boolean x) = x < 256 ^ 1
InRangeValue values.Void = Unit {0}
InRangeValue (values.Object x) = Unit {0}
InRangeValue (values.Array x) = Unit {0}
InRangeValue (values.String x) = Unit {0}
InRangeValue (values.Thread x) = Unit {0}
InRangeValue (values.ThreadGroup x) = Unit {0}
InRangeValue (values.ClassLoader x) = Unit {0}
InRangeValue (values.ClassObject x) = Unit {0}

-- the same of the numbers of a part of any kind
abbrev pub InRangePart : (p : Part) → Of p → Type 0
InRangePart (simple s) x = InRangeSimple s x
InRangePart (count limit) x = Unit {0}
InRangePart text x = Unit {0}
InRangePart location x = x.index < 256 ^ 8
InRangePart value x = InRangeValue x
InRangePart reference x = InRangeValue x
InRangePart (untagged byte) x = InRangeValue x
InRangePart tail x = Unit {0}

-- a part that takes what is left has nothing behind it
abbrev pub Ends : Part → List ℕ → Type 0
Ends tail rest = rest ≡ []
Ends (simple s) rest = Unit {0}
Ends (count limit) rest = Unit {0}
Ends text rest = Unit {0}
Ends location rest = Unit {0}
Ends value rest = Unit {0}
Ends reference rest = Unit {0}
Ends (untagged byte) rest = Unit {0}

-- Where a writer stands: the sizes of ids, and the bytes that it has written.
pub record Written : Type 0 where
  pub sizes : IdSizes
  pub bytes : List ℕ

-- a writing call adds these bytes; after an error the bytes so far say nothing
abbrev pub Writes : {X E : Type 0} → List ℕ → Written → Written → Result X E → Type 0
Writes spelled old new (Ok x) = new ≡ record old { bytes = old.bytes ++ spelled }
Writes spelled old new (Err e) = new.sizes ≡ old.sizes
