-- What a world says of its objects (JDWP, Detailed Command Information, command sets ObjectReference, StringReference,
-- ArrayReference and StackFrame).
use Rattle.std.specs.Prelude.{ℕ, ◌+◌, ℤ, pos, nat_abs, int_lt, nat_lt, Bool, not, ◌==◌, ◌&&◌, ◌||◌}
use Rattle.std.specs.Prelude.{if◌then◌else◌, List, [], ◌∷◌, find, take, drop, length, Option, Some, None, option_map}
use Rattle.std.specs.Prelude.{option_and_then}
use Rattle.std.specs.Prelude.{unwrap_or, is_some, Result, ok_or}
use Rattle.std.specs.Option.{option_or}
use Rattle.jdwp_values.specs.declared.id.ClassId.{ClassId}
use Rattle.jdwp_values.specs.declared.id.FieldId.{FieldId}
use Rattle.jdwp_values.specs.declared.id.FrameId.{FrameId}
use Rattle.jdwp_values.specs.declared.id.ObjectId.{ObjectId}
use Rattle.jdwp_values.specs.declared.id.ThreadId.{ThreadId}
use Rattle.jdwp_values.specs.declared.tag.Tag.{Tag}
use Rattle.jdwp_values.specs.declared.tag.TypeTag.{TypeTag}
use Rattle.jdwp_values.specs.declared.tag.TypeTag.TheVariants as type_tags
use Rattle.jdwp_values.specs.declared.value.Value.{Value}
use Rattle.jdwp_values.specs.declared.value.Value.TheVariants as values
use Rattle.jdwp_commands.specs.declared.region.Region.{Region}
use Rattle.world_model.specs.declared.rows.WorldArray.{WorldArray}
use Rattle.world_model.specs.declared.rows.WorldClass.{WorldClass}
use Rattle.world_model.specs.declared.rows.WorldField.{WorldField}
use Rattle.world_model.specs.declared.rows.WorldObject.{WorldObject}
use Rattle.world_model.specs.declared.rows.WorldString.{WorldString}
use Rattle.world_model.specs.declared.world.World.{World}
use Rattle.world_model.specs.Classes.{class_in, tag_in, is_threads_class, and_then}
use Rattle.world_model.specs.Codes.{invalid_object, not_implemented}
use Rattle.world_model.specs.Kinds.{element_kind, reference_of, null, zero_in, is_static}
use Rattle.world_model.specs.Scans.{last_of, all_of}
use Rattle.world_model.specs.Threads.{is_alive, counted, frame_at}

-- the object that is neither array nor string nor thread, by its id, if it is there
abbrev pub object_in : World → ObjectId → Option WorldObject
object_in w id = find (λ row. row.id.0 == id.0) w.objects

-- the array with an id, if it is there
abbrev pub array_in : World → ObjectId → Option WorldArray
array_in w id = find (λ row. row.id.0 == id.0) w.arrays

-- the string with an id, if it is there
abbrev pub string_in : World → ObjectId → Option WorldString
string_in w id = find (λ row. row.id.0 == id.0) w.strings

-- an object's id as a thread's: threads are objects, too (JDWP, Detailed Command Information, common data types,
-- threadID)
abbrev pub is_thread : World → ObjectId → Bool
is_thread w id = is_alive w (record { 0 = id.0 })

-- the object's id behind the tag of what it is (JDWP, Detailed Command Information, common data types,
-- tagged-objectID)
abbrev pub reference_to : World → ObjectId → Option Value
reference_to w id =
    option_or (option_map (λ row. reference_of row.tag id) (object_in w id))
    (option_or (option_map (λ row. values.Array id) (array_in w id))
    (option_or (option_map (λ row. values.String id) (string_in w id))
    (if is_thread w id then Some (values.Thread id) else None)))

-- the same of null too, whose id is 0
abbrev pub reference_in : World → ObjectId → Option Value
reference_in w id = if id.0 == 0 then Some null else reference_to w id

-- whether there is an object, of whatever kind
abbrev pub is_there : World → ObjectId → Bool
is_there w id = is_some (reference_to w id)

-- why nothing is said of an object: it isn't there, or it is of another kind
abbrev pub object_fault : World → ObjectId → ℕ
object_fault w id = if is_there w id then not_implemented else invalid_object

-- the class of an object; that of threads has no id
abbrev pub class_of : World → ObjectId → Option ClassId
class_of w id =
    option_or (option_map (λ row. row.class) (object_in w id))
    (option_or (option_map (λ row. row.class) (array_in w id))
    (option_or (option_map (λ row. row.class) (string_in w id))
    (if is_thread w id then Some (record { 0 = 0 }) else None)))

-- what the class of an object is; that of threads is a class (JDWP, Constants, TypeTag)
abbrev pub tag_of_type : World → ClassId → TypeTag
tag_of_type w class = if is_threads_class class then type_tags.Class else tag_in w class

-- the class of an object, and what that is (JDWP, ObjectReference command set, ReferenceType)
abbrev pub type_in : World → ObjectId → Result (TypeTag × ClassId) ℕ
type_in w id = ok_or (option_map (λ class. (tag_of_type w class, class)) (class_of w id)) invalid_object

-- the text of a string (JDWP, StringReference command set, Value)
abbrev pub text_in : World → ObjectId → Result (List ℕ) ℕ
text_in w id = ok_or (option_map (λ row. row.text) (string_in w id)) (object_fault w id)

-- the object with an id, or why it isn't there
abbrev pub object_at : World → ObjectId → Result WorldObject ℕ
object_at w id = ok_or (object_in w id) (object_fault w id)

-- the array with an id, or why it isn't there
abbrev pub array_at : World → ObjectId → Result WorldArray ℕ
array_at w id = ok_or (array_in w id) (object_fault w id)

-- the field of a class itself with an id, where it is a field of objects
abbrev pub field_in : World → ClassId → FieldId → Option WorldField
field_in w class field =
    find (λ row. (row.class.0 == class.0) && (row.field.id.0 == field.0) && not (is_static row.field.bits)) w.fields

-- the same in a class or in one above it, one step up for each of these classes
abbrev pub field_from : List WorldClass → World → ClassId → FieldId → Option WorldField
field_from [] w class field = None
field_from (step ∷ steps) w class field =
    option_or (field_in w class field)
    (option_and_then (λ row. field_from steps w row.above field) (class_in w class))

-- the field that objects of a class have under an id (JDWP, ObjectReference command set, GetValues)
abbrev pub field_of : World → ClassId → FieldId → Option WorldField
field_of w class field = field_from w.classes w class field

-- the value that was put to a field of an object last
abbrev pub put_in : World → ObjectId → FieldId → Option Value
put_in w object field =
    option_map (λ row. row.value) (last_of (λ row. (row.object.0 == object.0) && (row.field.0 == field.0)) w.puts)

-- the value of a field of an object
abbrev pub field_value : World → WorldObject → FieldId → Option Value
field_value w object field =
    option_map (λ row. unwrap_or (put_in w object.id field) (zero_in row.field.signature))
    (field_of w object.class field)

-- the values of some fields of an object (JDWP, ObjectReference command set, GetValues)
abbrev pub fields_of_object : World → ObjectId → List FieldId → Result (List Value) ℕ
fields_of_object w id fields =
    and_then (λ object. ok_or (all_of (field_value w object) fields) not_implemented) (object_at w id)

-- how many elements an array has (JDWP, ArrayReference command set, Length)
abbrev pub length_in : World → ObjectId → Result ℕ ℕ
length_in w id = and_then (λ row. counted (length row.values)) (array_at w id)

-- so many elements from the first one on, where they are all there
abbrev pub elements_from : List Value → ℤ → ℤ → Option (List Value)
elements_from elements first n =
    if int_lt first (pos 0) || int_lt n (pos 0) || nat_lt (length elements) (nat_abs first + nat_abs n) then None
    else Some (take (nat_abs n) (drop (nat_abs first) elements))

-- the kind of the elements of an array
abbrev pub kind_of_array : World → WorldArray → Option Tag
kind_of_array w row = option_and_then (λ class. element_kind class.signature) (class_in w row.class)

-- elements of one kind
abbrev pub region_of : Option Tag → Option (List Value) → Option Region
region_of None elements = None
region_of (Some tag) None = None
region_of (Some tag) (Some elements) = Some (record { tag = tag; values = elements })

-- some elements of an array (JDWP, ArrayReference command set, GetValues)
abbrev pub elements_in : World → ObjectId → ℤ → ℤ → Result Region ℕ
elements_in w id first n =
    and_then (λ row. ok_or (region_of (kind_of_array w row) (elements_from row.values first n)) not_implemented)
    (array_at w id)

-- the object whose method runs in a frame (JDWP, StackFrame command set, ThisObject)
abbrev pub this_in : World → ThreadId → FrameId → Result Value ℕ
this_in w thread frame = and_then (λ row. ok_or (reference_in w row.this) invalid_object) (frame_at w thread frame)
