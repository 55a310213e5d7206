-- Which rows have numbers of the sizes that a world says, and values of the kinds that it says.
use Rattle.std.specs.Prelude.{ℕ, ◌+◌, ◌^◌, nat_lt, Bool, true, false, ◌&&◌, List, length, Option, Some, None}
use Rattle.std.specs.List.{list_all}
use Rattle.std.specs.Option.{option_map_or}
use Rattle.jdwp_values.specs.declared.id.ClassId.{ClassId}
use Rattle.jdwp_values.specs.declared.id.FieldId.{FieldId}
use Rattle.jdwp_values.specs.declared.id.MethodId.{MethodId}
use Rattle.jdwp_values.specs.declared.id.ObjectId.{ObjectId}
use Rattle.jdwp_values.specs.declared.id.ThreadId.{ThreadId}
use Rattle.jdwp_values.specs.declared.sizes.IdSizes.{IdSizes}
use Rattle.jdwp_values.specs.declared.tag.Tag.{Tag}
use Rattle.jdwp_values.specs.declared.value.Value.{Value}
use Rattle.jdwp_values.specs.Parts.{tag_of_value}
use Rattle.world_model.specs.declared.rows.Put.{Put}
use Rattle.slot_values.specs.declared.slot.SlotValue.{SlotValue}
use Rattle.world_model.specs.declared.rows.WorldArray.{WorldArray}
use Rattle.world_model.specs.declared.rows.WorldClass.{WorldClass}
use Rattle.world_model.specs.declared.rows.WorldField.{WorldField}
use Rattle.world_model.specs.declared.rows.WorldFrame.{WorldFrame}
use Rattle.world_model.specs.declared.rows.WorldMethod.{WorldMethod}
use Rattle.world_model.specs.declared.rows.WorldObject.{WorldObject}
use Rattle.world_model.specs.declared.rows.WorldString.{WorldString}
use Rattle.world_model.specs.declared.rows.WorldThread.{WorldThread}
use Rattle.world_model.specs.declared.rows.WorldVariable.{WorldVariable}
use Rattle.world_model.specs.declared.moves.Move.{Move}
use Rattle.world_model.specs.declared.moves.Move.TheVariants as moves
use Rattle.world_model.specs.declared.world.World.{World}
use Rattle.world_model.specs.Classes.{class_in}
use Rattle.world_model.specs.Happenings.{fits}
use Rattle.world_model.specs.Kinds.{same_kind, kind_in, element_kind}
use Rattle.world_model.specs.Requests.{frames_under}
use Rattle.world_model.specs.Storing.{referred}
use Rattle.script_worlds.specs.Given.{field_in_object}

-- a value whose id, where it has one, takes so many bytes as the id of an object
abbrev pub value_fits : IdSizes → Value → Bool
value_fits sizes value = option_map_or (λ id. fits sizes.object id.0) (referred value) true

-- slots whose values do
abbrev pub slots_fit : IdSizes → List SlotValue → Bool
slots_fit sizes slots = list_all (λ row. value_fits sizes row.value) slots

-- a method's ids
abbrev pub place_fits : IdSizes → ClassId → MethodId → Bool
place_fits sizes class method = fits sizes.class class.0 && fits sizes.method method.0

-- a value of a kind, where there is one
abbrev pub is_of_kind : Option Tag → Value → Bool
is_of_kind None value = false
is_of_kind (Some kind) value = same_kind kind (tag_of_value value)

-- values of a kind, where there is one
abbrev pub are_of_kind : Option Tag → List Value → Bool
are_of_kind None values = false
are_of_kind (Some kind) values = list_all (λ value. same_kind kind (tag_of_value value)) values

-- a class's ids, of which its own isn't that of null (JDWP, Detailed Command Information, common data types, objectID)
abbrev pub class_fits : IdSizes → WorldClass → Bool
class_fits sizes row = nat_lt 0 row.id.0 && (fits sizes.class row.id.0 && fits sizes.class row.above.0)

abbrev pub method_fits : IdSizes → WorldMethod → Bool
method_fits sizes row = place_fits sizes row.class row.method.id

abbrev pub variable_fits : IdSizes → WorldVariable → Bool
variable_fits sizes row = place_fits sizes row.class row.method

abbrev pub field_fits : IdSizes → WorldField → Bool
field_fits sizes row = fits sizes.class row.class.0 && fits sizes.field row.field.id.0

abbrev pub object_fits : IdSizes → WorldObject → Bool
object_fits sizes row = fits sizes.object row.id.0 && fits sizes.class row.class.0

-- an array has so many values that an int has room for their number (JDWP, ArrayReference command set, Length)
abbrev pub array_fits : IdSizes → WorldArray → Bool
array_fits sizes row =
    (fits sizes.object row.id.0 && fits sizes.class row.class.0)
    && (list_all (value_fits sizes) row.values && nat_lt (length row.values) (2 ^ 31))

-- an array has values of the kind that its class says, where that was given
abbrev pub has_elements : World → WorldArray → Bool
has_elements w row =
    option_map_or (λ class. are_of_kind (element_kind class.signature) row.values) (class_in w row.class) true

abbrev pub string_fits : IdSizes → WorldString → Bool
string_fits sizes row = fits sizes.object row.id.0 && fits sizes.class row.class.0

-- a value for a field of an object
abbrev pub field_value_fits : IdSizes → ObjectId → FieldId → Value → Bool
field_value_fits sizes object field value =
    (fits sizes.object object.0 && fits sizes.field field.0) && value_fits sizes value

-- it is of the field's kind, where the field was given
abbrev pub is_for_field : World → ObjectId → FieldId → Value → Bool
is_for_field w object field value =
    option_map_or (λ row. is_of_kind (kind_in row.field.signature) value) (field_in_object w object field) true

abbrev pub thread_fits : IdSizes → ThreadId → Bool
thread_fits sizes thread = fits sizes.object thread.0

abbrev pub frame_fits : IdSizes → WorldFrame → Bool
frame_fits sizes row =
    (fits sizes.object row.thread.0 && fits sizes.frame row.id.0)
    && (place_fits sizes row.class row.method && (fits sizes.object row.this.0 && slots_fit sizes row.slots))

-- a thread has so many frames that an int has room for the number of one more
abbrev pub has_room : World → ThreadId → Bool
has_room w thread = nat_lt (frames_under w.frames thread + 1) (2 ^ 31)

-- a move
abbrev pub move_fits : IdSizes → Move → Bool
move_fits sizes (moves.At thread index slots) = thread_fits sizes thread && slots_fit sizes slots
move_fits sizes (moves.Call thread frame class method index this slots) =
    (thread_fits sizes thread && fits sizes.frame frame.0)
    && (place_fits sizes class method && (fits sizes.object this.0 && slots_fit sizes slots))
move_fits sizes (moves.Return thread) = thread_fits sizes thread
move_fits sizes (moves.Prepare class thread) = fits sizes.class class.0 && thread_fits sizes thread
move_fits sizes (moves.Throw thread object class method index) =
    (thread_fits sizes thread && fits sizes.object object.0) && place_fits sizes class method
move_fits sizes (moves.Start thread name) = thread_fits sizes thread
move_fits sizes (moves.Die thread) = thread_fits sizes thread
move_fits sizes (moves.Store object field value) = field_value_fits sizes object field value
move_fits sizes moves.Death = true

-- what a move stores is of its field's kind
abbrev pub move_is_of_kind : World → Move → Bool
move_is_of_kind w (moves.At thread index slots) = true
move_is_of_kind w (moves.Call thread frame class method index this slots) = true
move_is_of_kind w (moves.Return thread) = true
move_is_of_kind w (moves.Prepare class thread) = true
move_is_of_kind w (moves.Throw thread object class method index) = true
move_is_of_kind w (moves.Start thread name) = true
move_is_of_kind w (moves.Die thread) = true
move_is_of_kind w (moves.Store object field value) = is_for_field w object field value
move_is_of_kind w moves.Death = true
