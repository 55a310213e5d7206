-- The bytes of type tags and of tags (JDWP, Constants, TypeTag and Tag).
use Rattle.std.specs.Prelude.{ℕ, zero, suc, Bool, true, false, List, [], ◌∷◌, Option, Some, None, ◌==◌, find}
use Rattle.jdwp_values.specs.declared.tag.TypeTag.{TypeTag}
use Rattle.jdwp_values.specs.declared.tag.TypeTag.TheVariants as type_tags
use Rattle.jdwp_values.specs.declared.tag.Tag.{Tag}
use Rattle.jdwp_values.specs.declared.tag.Tag.TheVariants as tags

-- the byte of a type tag (JDWP, Constants, TypeTag); the 0 of a null location is none of the standard's
abbrev pub byte_of_type_tag : TypeTag → ℕ
byte_of_type_tag type_tags.Nothing = 0
byte_of_type_tag type_tags.Class = 1
byte_of_type_tag type_tags.Interface = 2
byte_of_type_tag type_tags.Array = 3

-- the type tag that has this byte
abbrev pub type_tag_of : ℕ → Option TypeTag
type_tag_of zero = Some type_tags.Nothing
type_tag_of (suc zero) = Some type_tags.Class
type_tag_of (suc (suc zero)) = Some type_tags.Interface
type_tag_of (suc (suc (suc zero))) = Some type_tags.Array
type_tag_of (suc (suc (suc (suc above)))) = None

-- the byte of a tag (JDWP, Constants, Tag)
abbrev pub byte_of_tag : Tag → ℕ
byte_of_tag tags.Byte = 66
byte_of_tag tags.Char = 67
byte_of_tag tags.Double = 68
byte_of_tag tags.Float = 70
byte_of_tag tags.Int = 73
byte_of_tag tags.Long = 74
byte_of_tag tags.Short = 83
byte_of_tag tags.Boolean = 90
byte_of_tag tags.Void = 86
byte_of_tag tags.Object = 76
byte_of_tag tags.Array = 91
byte_of_tag tags.String = 115
byte_of_tag tags.Thread = 116
byte_of_tag tags.ThreadGroup = 103
byte_of_tag tags.ClassLoader = 108
byte_of_tag tags.ClassObject = 99

-- all tags
abbrev pub tags_of_values : List Tag
tags_of_values = tags.Byte ∷ tags.Char ∷ tags.Double ∷ tags.Float ∷ tags.Int ∷ tags.Long ∷ tags.Short ∷ tags.Boolean
    ∷ tags.Void ∷ tags.Object ∷ tags.Array ∷ tags.String ∷ tags.Thread ∷ tags.ThreadGroup ∷ tags.ClassLoader
    ∷ tags.ClassObject ∷ []

-- the tag that has this byte
abbrev pub tag_of : ℕ → Option Tag
tag_of byte = find (λ tag. byte_of_tag tag == byte) tags_of_values

-- whether a value of this tag is an object's id
abbrev pub is_reference : Tag → Bool
is_reference tags.Object = true
is_reference tags.Array = true
is_reference tags.String = true
is_reference tags.Thread = true
is_reference tags.ThreadGroup = true
is_reference tags.ClassLoader = true
is_reference tags.ClassObject = true
is_reference tags.Byte = false
is_reference tags.Char = false
is_reference tags.Double = false
is_reference tags.Float = false
is_reference tags.Int = false
is_reference tags.Long = false
is_reference tags.Short = false
is_reference tags.Boolean = false
is_reference tags.Void = false
