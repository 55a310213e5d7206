-- The kinds of values (JDWP, Constants, Tag), and the values that nothing was put to.
use Rattle.std.specs.Prelude.{ℕ, ℤ, pos, Bool, false, not, bit_and, ◌==◌, if◌then◌else◌, List, [], ◌∷◌, Option, Some}
use Rattle.std.specs.Prelude.{None}
use Rattle.std.specs.Prelude.{option_and_then}
use Rattle.std.specs.Option.{option_map_or}
use Rattle.std.specs.Int.{w32, cast_unsigned}
use Rattle.jdwp_values.specs.declared.id.ObjectId.{ObjectId}
use Rattle.jdwp_values.specs.declared.tag.Tag.{Tag}
use Rattle.jdwp_values.specs.declared.tag.Tag.TheVariants as tags
use Rattle.jdwp_values.specs.declared.value.Value.{Value}
use Rattle.jdwp_values.specs.declared.value.Value.TheVariants as values
use Rattle.jdwp_values.specs.Parts.{tag_of_value}
use Rattle.jdwp_values.specs.Tags.{tag_of, byte_of_tag, is_reference}

-- whether values of two tags can lie in one place: of references all can
abbrev pub same_kind : Tag → Tag → Bool
same_kind a b = if is_reference a then is_reference b else byte_of_tag a == byte_of_tag b

-- whether a value can lie where the byte of a tag says what lies there
abbrev pub is_of_byte : ℕ → Value → Bool
is_of_byte byte value = option_map_or (λ tag. same_kind tag (tag_of_value value)) (tag_of byte) false

-- the kind of the values of a type, by the first byte of its signature (JNI specification, Types and Data Structures,
-- Type Signatures)
abbrev pub kind_in : List ℕ → Option Tag
kind_in [] = None
kind_in (byte ∷ bytes) = tag_of byte

-- the signature of an array's elements, behind `[`
abbrev pub element_in : List ℕ → Option (List ℕ)
element_in [] = None
element_in (byte ∷ bytes) = if byte == 91 then Some bytes else None

-- the kind of an array's elements, by the signature of its class
abbrev pub element_kind : List ℕ → Option Tag
element_kind signature = option_and_then kind_in (element_in signature)

-- an object's id, behind the tag of what it is
abbrev pub reference_of : Tag → ObjectId → Value
reference_of tags.Array id = values.Array id
reference_of tags.String id = values.String id
reference_of tags.Thread id = values.Thread id
reference_of tags.ThreadGroup id = values.ThreadGroup id
reference_of tags.ClassLoader id = values.ClassLoader id
reference_of tags.ClassObject id = values.ClassObject id
reference_of tags.Object id = values.Object id
reference_of tags.Byte id = values.Object id
reference_of tags.Char id = values.Object id
reference_of tags.Double id = values.Object id
reference_of tags.Float id = values.Object id
reference_of tags.Int id = values.Object id
reference_of tags.Long id = values.Object id
reference_of tags.Short id = values.Object id
reference_of tags.Boolean id = values.Object id
reference_of tags.Void id = values.Object id

-- null has the tag of an object (JDWP, Constants, Tag)
abbrev pub null : Value
null = values.Object (record { 0 = 0 })

-- the value of a kind that has all bits 0
abbrev pub zero_of : Tag → Value
zero_of tags.Byte = values.Byte (pos 0)
zero_of tags.Char = values.Char 0
zero_of tags.Double = values.Double 0
zero_of tags.Float = values.Float 0
zero_of tags.Int = values.Int (pos 0)
zero_of tags.Long = values.Long (pos 0)
zero_of tags.Short = values.Short (pos 0)
zero_of tags.Boolean = values.Boolean 0
zero_of tags.Void = values.Void
zero_of tags.Object = null
zero_of tags.Array = null
zero_of tags.String = null
zero_of tags.Thread = null
zero_of tags.ThreadGroup = null
zero_of tags.ClassLoader = null
zero_of tags.ClassObject = null

-- the value of a field that nothing was put to; nothing where its signature is of no kind
abbrev pub zero_in : List ℕ → Value
zero_in signature = option_map_or zero_of (kind_in signature) values.Void

-- a field is static where the bit of 8 is set (JVM specification, The class File Format, Fields, access_flags)
abbrev pub is_static : ℤ → Bool
is_static bits = not (bit_and (cast_unsigned w32 bits) 8 == 0)
