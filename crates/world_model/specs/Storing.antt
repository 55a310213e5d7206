-- Which values may be put where (JDWP, Detailed Command Information, commands SetValues).
use Rattle.std.specs.Prelude.{ℕ, ℤ, pos, nat_abs, int_lt, nat_lt, nat_le, ◌==◌, ◌||◌, if◌then◌else◌, List, length}
use Rattle.std.specs.Prelude.{Option, Some, None, Result, Ok, Err, ok_or, option_and_then}
use Rattle.jdwp_values.specs.declared.fault.ReadTrouble.{ReadTrouble}
use Rattle.jdwp_values.specs.declared.id.FieldId.{FieldId}
use Rattle.jdwp_values.specs.declared.id.FrameId.{FrameId}
use Rattle.jdwp_values.specs.declared.id.ObjectId.{ObjectId}
use Rattle.jdwp_values.specs.declared.id.ThreadId.{ThreadId}
use Rattle.jdwp_values.specs.declared.sizes.IdSizes.{IdSizes}
use Rattle.jdwp_values.specs.declared.tag.Tag.{Tag}
use Rattle.jdwp_values.specs.declared.value.Value.{Value}
use Rattle.jdwp_values.specs.declared.value.Value.TheVariants as values
use Rattle.jdwp_values.specs.Parts.{untagged, tag_of_value}
use Rattle.jdwp_values.specs.Reading.{Place, part_at}
use Rattle.jdwp_values.specs.Tags.{byte_of_tag}
use Rattle.world_model.specs.declared.rows.Put.{Put}
use Rattle.world_model.specs.declared.rows.WorldArray.{WorldArray}
use Rattle.world_model.specs.declared.rows.WorldObject.{WorldObject}
use Rattle.world_model.specs.declared.rows.WorldField.{WorldField}
use Rattle.world_model.specs.declared.world.World.{World}
use Rattle.world_model.specs.Classes.{and_then}
use Rattle.world_model.specs.Codes.{invalid_object, not_implemented}
use Rattle.world_model.specs.Kinds.{same_kind, kind_in}
use Rattle.world_model.specs.Objects.{reference_in, object_at, array_at, kind_of_array, field_of}
use Rattle.world_model.specs.Threads.{frame_at, slot_in}

-- the value that was read, where no byte is left behind it
abbrev pub whole : Result (Value × Place) ReadTrouble → Option Value
whole (Err trouble) = None
whole (Ok read) = if length read.1.rest == 0 then Some read.0 else None

-- the value of a kind that bytes are, of which no value has more than eight (JDWP, Detailed Command Information, common
-- data types, untagged-value)
abbrev pub untagged_value : IdSizes → Tag → List ℕ → Option Value
untagged_value sizes kind bytes =
    if nat_lt 8 (length bytes) then None
    else whole (part_at (untagged (byte_of_tag kind)) (record { sizes = sizes; body = bytes; rest = bytes }))

-- the object that a value refers to
abbrev pub referred : Value → Option ObjectId
referred (values.Object id) = Some id
referred (values.Array id) = Some id
referred (values.String id) = Some id
referred (values.Thread id) = Some id
referred (values.ThreadGroup id) = Some id
referred (values.ClassLoader id) = Some id
referred (values.ClassObject id) = Some id
referred (values.Byte x) = None
referred (values.Char x) = None
referred (values.Double x) = None
referred (values.Float x) = None
referred (values.Int x) = None
referred (values.Long x) = None
referred (values.Short x) = None
referred (values.Boolean x) = None
referred values.Void = None

-- a reference is kept behind the tag of what it is; there must be such an object
abbrev pub kept_reference : World → Value → Option ObjectId → Result Value ℕ
kept_reference w value None = Ok value
kept_reference w value (Some id) = ok_or (reference_in w id) invalid_object

-- a value as it is kept
abbrev pub kept_value : World → Value → Result Value ℕ
kept_value w value = kept_reference w value (referred value)

-- the value that bytes are, as it is kept in a place of a kind
abbrev pub value_from : World → List ℕ → Option Tag → Result Value ℕ
value_from w bytes kind =
    and_then (kept_value w) (ok_or (option_and_then (λ tag. untagged_value w.sizes tag bytes) kind) not_implemented)

-- what is put to a field of an object (JDWP, ObjectReference command set, SetValues)
abbrev pub put_of : ObjectId → FieldId → Result Value ℕ → Result Put ℕ
put_of id field (Ok value) = Ok (record { object = id; field = field; value = value })
put_of id field (Err code) = Err code

-- the same of a field that is there
abbrev pub field_put : World → WorldObject → FieldId → List ℕ → Option WorldField → Result Put ℕ
field_put w object field bytes None = Err not_implemented
field_put w object field bytes (Some row) =
    put_of object.id field (value_from w bytes (kind_in row.field.signature))

-- the same of an object that is there
abbrev pub field_stored : World → ObjectId → FieldId → List ℕ → Result Put ℕ
field_stored w id field bytes =
    and_then (λ object. field_put w object field bytes (field_of w object.class field)) (object_at w id)

-- what is put to an element of an array (JDWP, ArrayReference command set, SetValues)
abbrev pub element_put : World → WorldArray → ℤ → List ℕ → Result Value ℕ
element_put w row first bytes =
    if int_lt first (pos 0) || nat_le (length row.values) (nat_abs first) then Err not_implemented
    else value_from w bytes (kind_of_array w row)

-- the same of an array that is there
abbrev pub element_stored : World → ObjectId → ℤ → List ℕ → Result Value ℕ
element_stored w id first bytes = and_then (λ row. element_put w row first bytes) (array_at w id)

-- what is put to a slot of a frame, in the place of a value of the same kind (JDWP, StackFrame command set, SetValues)
abbrev pub slot_put : World → Value → Option Value → Result Value ℕ
slot_put w value None = Err not_implemented
slot_put w value (Some held) =
    if same_kind (tag_of_value held) (tag_of_value value) then kept_value w value else Err not_implemented

-- the same of a frame that is there
abbrev pub slot_stored : World → ThreadId → FrameId → ℤ → Value → Result Value ℕ
slot_stored w thread frame slot value =
    and_then (λ row. slot_put w value (slot_in row.slots slot)) (frame_at w thread frame)
