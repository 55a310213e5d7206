-- Values of the target's program, tags, and lists, as JSON values.
use Rattle.std.specs.Prelude.{ℕ, zero, suc, nat_le, ℤ, pos, negsuc, ◌^◌, ◌-◌, List, [], ◌∷◌, map, codes, bytes_eq, if◌then◌else◌, Bool, true, false}
use Rattle.std.specs.Prelude.{Option, Some, None, option_map, option_and_then, ◌&&◌, not, is_some}
use Rattle.serde_json.specs.Data.{Data, null, boolean, number, unsigned, string, array, object, Items, no_items, item}
use Rattle.serde_json.specs.Find.{as_array, as_bool, as_number, as_object, as_str, as_u64}
use Rattle.serde_json.specs.View.{items_of}
use Rattle.serde_json.specs.Written.{has_float}
use Rattle.jdwp_events.specs.declared.kind.Policy.{Policy}
use Rattle.jdwp_events.specs.declared.kind.Policy.TheVariants as policies
use Rattle.jdwp_events.specs.Kinds.{byte_of_policy}
use Rattle.jdwp_values.specs.declared.class.Line.{Line}
use Rattle.jdwp_values.specs.declared.id.ObjectId.{ObjectId}
use Rattle.jdwp_values.specs.declared.tag.Tag.{Tag}
use Rattle.jdwp_values.specs.declared.tag.Tag.TheVariants as tags
use Rattle.jdwp_values.specs.declared.tag.TypeTag.{TypeTag}
use Rattle.jdwp_values.specs.declared.tag.TypeTag.TheVariants as type_tags
use Rattle.jdwp_values.specs.declared.value.Value.{Value}
use Rattle.jdwp_values.specs.declared.value.Value.TheVariants as values
use Rattle.jdwp_values.specs.Parts.{tag_of_value}
use Rattle.jdwp_values.specs.Tags.{byte_of_tag, byte_of_type_tag, tag_of}
use Rattle.wire_core.specs.declared.outside.Side.{Side}
use Rattle.wire_core.specs.declared.outside.Side.TheVariants.{Client, Target}
use Rattle.slot_values.specs.declared.slot.SlotValue.{SlotValue}
use Rattle.line_elements.specs.declared.version.Version.{Version}
use Rattle.line_elements.specs.declared.version.Version.TheVariants.{First, Second}
use Rattle.line_elements.specs.Bits.{bits_text, bits_of}
use Rattle.line_elements.specs.Numbers.{natural_of, natural_data, signed_of, signed_data, int_of, long_of}

-- an array of these elements
abbrev pub array_of : List Data → Data
array_of elements = array (items_of elements)

-- ---- tags

-- the tag that a text of one character is
abbrev pub tag_of_text : List ℕ → Option Tag
tag_of_text [] = None
tag_of_text (byte ∷ []) = tag_of byte
tag_of_text (byte ∷ next ∷ more) = None

abbrev pub tag_in : Data → Option Tag
tag_in d = option_and_then tag_of_text (as_str d)

abbrev pub tag_data : Tag → Data
tag_data tag = string (byte_of_tag tag ∷ [])

-- what an object is that is no array and no string
abbrev pub is_object_tag : Tag → Bool
is_object_tag tags.Byte = false
is_object_tag tags.Char = false
is_object_tag tags.Double = false
is_object_tag tags.Float = false
is_object_tag tags.Int = false
is_object_tag tags.Long = false
is_object_tag tags.Short = false
is_object_tag tags.Boolean = false
is_object_tag tags.Void = false
is_object_tag tags.Object = true
is_object_tag tags.Array = false
is_object_tag tags.String = false
is_object_tag tags.Thread = true
is_object_tag tags.ThreadGroup = true
is_object_tag tags.ClassLoader = true
is_object_tag tags.ClassObject = true

abbrev pub only_object : Tag → Option Tag
only_object tag = if is_object_tag tag then Some tag else None

abbrev pub object_tag_of : Data → Option Tag
object_tag_of d = option_and_then only_object (tag_in d)

-- the number of what a class is: 1 a class, 2 an interface, 3 an array type
abbrev pub class_tag_at : ℕ → Option TypeTag
class_tag_at zero = None
class_tag_at (suc zero) = Some type_tags.Class
class_tag_at (suc (suc zero)) = Some type_tags.Interface
class_tag_at (suc (suc (suc zero))) = Some type_tags.Array
class_tag_at (suc (suc (suc (suc n)))) = None

abbrev pub class_tag_of : Data → Option TypeTag
class_tag_of d = option_and_then class_tag_at (option_and_then as_u64 (as_number d))

abbrev pub class_tag_data : TypeTag → Data
class_tag_data tag = natural_data (byte_of_type_tag tag)

-- whether no thread or all threads are suspended
abbrev pub policy_at : ℕ → Option Policy
policy_at zero = Some policies.NoThread
policy_at (suc zero) = None
policy_at (suc (suc zero)) = Some policies.All
policy_at (suc (suc (suc n))) = None

abbrev pub policy_of : Data → Option Policy
policy_of d = option_and_then policy_at (option_and_then as_u64 (as_number d))

abbrev pub policy_data : Policy → Data
policy_data policy = natural_data (byte_of_policy policy)

-- the side of a name
abbrev pub side_at : List ℕ → Option Side
side_at name =
    if bytes_eq name (codes "client") then Some Client else
    (if bytes_eq name (codes "target") then Some Target else None)

abbrev pub side_of : Data → Option Side
side_of d = option_and_then side_at (as_str d)

abbrev pub side_name : Side → List ℕ
side_name Client = codes "client"
side_name Target = codes "target"

abbrev pub side_data : Side → Data
side_data side = string (side_name side)

-- ---- lists

-- two elements
abbrev pub two_of : Items → Option (Data × Data)
two_of no_items = None
two_of (item a no_items) = None
two_of (item a (item b no_items)) = Some (a, b)
two_of (item a (item b (item c ds))) = None

abbrev pub pair_of : Data → Option (Data × Data)
pair_of d = option_and_then two_of (as_array d)

-- all elements, each of the same kind
abbrev pub each_of : {A : Type 0} → (Data → Option A) → Items → Option (List A)
each_of read no_items = Some []
each_of read (item d ds) = option_and_then (λ x. option_map (λ xs. x ∷ xs) (each_of read ds)) (read d)

abbrev pub list_of : {A : Type 0} → (Data → Option A) → Data → Option (List A)
list_of read d = option_and_then (each_of read) (as_array d)

abbrev pub list_data : {A : Type 0} → (A → Data) → List A → Data
list_data write xs = array_of (map write xs)

-- ---- values

-- so many at most
abbrev pub at_most : ℕ → ℕ → Option ℕ
at_most most n = if nat_le n most then Some n else None

-- bits: in the first version a number below 2^63, in the second a text
abbrev pub plain_bits : Version → Data → Option ℕ
plain_bits First d = natural_of 0 (2 ^ 63) d
plain_bits Second d = option_and_then bits_of (as_str d)

abbrev pub bits_in : Version → ℕ → Data → Option ℕ
bits_in version most d = option_and_then (at_most most) (plain_bits version d)

abbrev pub bits_data : ℕ → Data
bits_data n = string (bits_text n)

-- an object's id, 0 for null
abbrev pub reference_of : Version → (ObjectId → Value) → Data → Option Value
reference_of version make d = option_map (λ n. make (record { 0 = n })) (bits_in version (2 ^ 64 - 1) d)

-- the value of a tag; a void one is none
abbrev pub tagged_of : Version → Tag → Data → Option Value
tagged_of version tags.Byte d = option_map values.Byte (signed_of (negsuc 127) (pos 127) d)
tagged_of version tags.Char d = option_map values.Char (bits_in version (2 ^ 16 - 1) d)
tagged_of version tags.Double d = option_map values.Double (bits_in version (2 ^ 64 - 1) d)
tagged_of version tags.Float d = option_map values.Float (bits_in version (2 ^ 32 - 1) d)
tagged_of version tags.Int d = option_map values.Int (int_of d)
tagged_of version tags.Long d = option_map values.Long (long_of d)
tagged_of version tags.Short d = option_map values.Short (signed_of (negsuc (2 ^ 15 - 1)) (pos (2 ^ 15 - 1)) d)
tagged_of version tags.Boolean d = option_map values.Boolean (bits_in version 255 d)
tagged_of version tags.Void d = None
tagged_of version tags.Object d = reference_of version values.Object d
tagged_of version tags.Array d = reference_of version values.Array d
tagged_of version tags.String d = reference_of version values.String d
tagged_of version tags.Thread d = reference_of version values.Thread d
tagged_of version tags.ThreadGroup d = reference_of version values.ThreadGroup d
tagged_of version tags.ClassLoader d = reference_of version values.ClassLoader d
tagged_of version tags.ClassObject d = reference_of version values.ClassObject d

-- a tag, and what stands behind it
abbrev pub value_in : Version → Data × Data → Option Value
value_in version pair = option_and_then (λ tag. tagged_of version tag pair.1) (tag_in pair.0)

abbrev pub value_of : Version → Data → Option Value
value_of version d = option_and_then (value_in version) (pair_of d)

-- what stands behind the tag of a value that is printed: a number with its sign, or bits, of which a void value has none
abbrev pub told_data : Value → Data
told_data (values.Byte z) = signed_data z
told_data (values.Char n) = bits_data n
told_data (values.Double n) = bits_data n
told_data (values.Float n) = bits_data n
told_data (values.Int z) = signed_data z
told_data (values.Long z) = signed_data z
told_data (values.Short z) = signed_data z
told_data (values.Boolean n) = bits_data n
told_data values.Void = bits_data 0
told_data (values.Object id) = bits_data id.0
told_data (values.Array id) = bits_data id.0
told_data (values.String id) = bits_data id.0
told_data (values.Thread id) = bits_data id.0
told_data (values.ThreadGroup id) = bits_data id.0
told_data (values.ClassLoader id) = bits_data id.0
told_data (values.ClassObject id) = bits_data id.0

-- a value as it is printed, in the second version
abbrev pub value_data : Value → Data
value_data v = array_of (tag_data (tag_of_value v) ∷ told_data v ∷ [])

-- a slot, and its value
abbrev pub slot_in : Version → Data × Data → Option SlotValue
slot_in version pair =
    option_and_then (λ slot. option_map (λ v. record { slot = slot; value = v }) (value_of version pair.1))
    (int_of pair.0)

abbrev pub slot_of : Version → Data → Option SlotValue
slot_of version d = option_and_then (slot_in version) (pair_of d)

abbrev pub slot_data : SlotValue → Data
slot_data s = array_of (signed_data s.slot ∷ value_data s.value ∷ [])

-- an index of a method's code, and its line
abbrev pub line_in : Data × Data → Option Line
line_in pair =
    option_and_then (λ index. option_map (λ line. record { index = index; line = line }) (int_of pair.1))
    (natural_of 0 (2 ^ 63) pair.0)

abbrev pub line_of : Data → Option Line
line_of d = option_and_then line_in (pair_of d)

abbrev pub line_data : Line → Data
line_data l = array_of (natural_data l.index ∷ signed_data l.line ∷ [])

-- a method's lines, or null where they are not known
abbrev pub lines_of : Data → Option (Option (List Line))
lines_of null = Some None
lines_of (boolean b) = None
lines_of (number n) = None
lines_of (string s) = None
lines_of (array ds) = option_map Some (each_of line_of ds)
lines_of (object ms) = None

abbrev pub lines_data : Option (List Line) → Data
lines_data None = null
lines_data (Some lines) = list_data line_data lines

-- ---- a request's arguments

-- an object in which no number is a float
abbrev pub arguments_of : Data → Option Data
arguments_of d = if is_some (as_object d) && not (has_float d) then Some d else None
