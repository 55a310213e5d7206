-- The parts that bodies are made of, and the values that each has
-- (JDWP, Detailed Command Information, common data types).
use Rattle.std.specs.Prelude.{ℕ, ℤ, List}
use Rattle.std.specs.Int.{Width, w32, w64}
use Rattle.jdwp_values.specs.declared.id.ObjectId.{ObjectId}
use Rattle.jdwp_values.specs.declared.id.ThreadId.{ThreadId}
use Rattle.jdwp_values.specs.declared.id.ClassId.{ClassId}
use Rattle.jdwp_values.specs.declared.id.MethodId.{MethodId}
use Rattle.jdwp_values.specs.declared.id.FieldId.{FieldId}
use Rattle.jdwp_values.specs.declared.id.FrameId.{FrameId}
use Rattle.jdwp_values.specs.declared.limit.Limit.{Limit}
use Rattle.jdwp_values.specs.declared.location.Location.{Location}
use Rattle.jdwp_values.specs.declared.tag.Tag.{Tag}
use Rattle.jdwp_values.specs.declared.tag.Tag.TheVariants as tags
use Rattle.jdwp_values.specs.declared.tag.TypeTag.{TypeTag}
use Rattle.jdwp_values.specs.declared.value.Value.{Value}
use Rattle.jdwp_values.specs.declared.value.Value.TheVariants as values

-- A part of one number: so many bytes of an unsigned one, a signed one, an id, a type tag, or no bytes at all.
pub data Simple : Type 0 where
  unsigned : ℕ → Simple
  signed : Width → Simple
  object_id : Simple
  thread_id : Simple
  class_id : Simple
  method_id : Simple
  field_id : Simple
  frame_id : Simple
  type_tag_byte : Simple
  nothing : Simple

-- the values of each
abbrev pub OfSimple : Simple → Type 0
OfSimple (unsigned size) = ℕ
OfSimple (signed w) = ℤ
OfSimple object_id = ObjectId
OfSimple thread_id = ThreadId
OfSimple class_id = ClassId
OfSimple method_id = MethodId
OfSimple field_id = FieldId
OfSimple frame_id = FrameId
OfSimple type_tag_byte = TypeTag
OfSimple nothing = Unit {0}

-- the tag that a value stands behind
abbrev pub tag_of_value : Value → Tag
tag_of_value (values.Byte x) = tags.Byte
tag_of_value (values.Char x) = tags.Char
tag_of_value (values.Double x) = tags.Double
tag_of_value (values.Float x) = tags.Float
tag_of_value (values.Int x) = tags.Int
tag_of_value (values.Long x) = tags.Long
tag_of_value (values.Short x) = tags.Short
tag_of_value (values.Boolean x) = tags.Boolean
tag_of_value values.Void = tags.Void
tag_of_value (values.Object x) = tags.Object
tag_of_value (values.Array x) = tags.Array
tag_of_value (values.String x) = tags.String
tag_of_value (values.Thread x) = tags.Thread
tag_of_value (values.ThreadGroup x) = tags.ThreadGroup
tag_of_value (values.ClassLoader x) = tags.ClassLoader
tag_of_value (values.ClassObject x) = tags.ClassObject

-- A part of a body: a number, a count that its place allows, a text as its bytes, a location, a value behind its tag,
-- a value whose tag must be a reference's, a value without its tag, or the one to eight bytes that are left.
pub data Part : Type 0 where
  simple : Simple → Part
  count : Limit → Part
  text : Part
  location : Part
  value : Part
  reference : Part
  untagged : ℕ → Part
  tail : Part

-- the values of each kind of part
abbrev pub Of : Part → Type 0
Of (simple s) = OfSimple s
Of (count limit) = ℕ
Of text = List ℕ
Of location = Location
Of value = Value
Of reference = Value
Of (untagged byte) = Value
Of tail = List ℕ

-- numbers by their names in the standard (JDWP, Detailed Command Information, common data types)
abbrev pub byte : Part
byte = simple (unsigned 1)

abbrev pub int : Part
int = simple (signed w32)

abbrev pub long : Part
long = simple (signed w64)

-- an index into a method's code, which has no sign
abbrev pub index : Part
index = simple (unsigned 8)

-- an unsigned number of four bytes
abbrev pub number : Part
number = simple (unsigned 4)

-- ids, and the byte of a type tag
abbrev pub object : Part
object = simple object_id

abbrev pub thread : Part
thread = simple thread_id

abbrev pub class : Part
class = simple class_id

abbrev pub method : Part
method = simple method_id

abbrev pub field : Part
field = simple field_id

abbrev pub frame : Part
frame = simple frame_id

abbrev pub type_tag : Part
type_tag = simple type_tag_byte
