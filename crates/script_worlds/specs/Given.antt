-- What a world has been given so far: which ids name something in it.
use Rattle.std.specs.Prelude.{ℕ, Bool, true, false, ◌==◌, ◌&&◌, ◌||◌, List, [], ◌∷◌, Option, None, find}
use Rattle.std.specs.List.{list_any}
use Rattle.std.specs.Option.{option_map_or}
use Rattle.jdwp_values.specs.declared.id.ClassId.{ClassId}
use Rattle.jdwp_values.specs.declared.id.FieldId.{FieldId}
use Rattle.jdwp_values.specs.declared.id.FrameId.{FrameId}
use Rattle.jdwp_values.specs.declared.id.MethodId.{MethodId}
use Rattle.jdwp_values.specs.declared.id.ObjectId.{ObjectId}
use Rattle.jdwp_values.specs.declared.id.ThreadId.{ThreadId}
use Rattle.world_model.specs.declared.rows.WorldClass.{WorldClass}
use Rattle.world_model.specs.declared.rows.WorldField.{WorldField}
use Rattle.world_model.specs.declared.rows.WorldFrame.{WorldFrame}
use Rattle.world_model.specs.declared.world.World.{World}
use Rattle.world_model.specs.Objects.{object_in, field_of}

-- a class
abbrev pub is_class : World → ClassId → Bool
is_class w class = list_any (λ row. row.id.0 == class.0) w.classes

-- a method of a class (JDWP, Detailed Command Information, common data types, methodID)
abbrev pub is_method : World → ClassId → MethodId → Bool
is_method w class method = list_any (λ row. (row.class.0 == class.0) && (row.method.id.0 == method.0)) w.methods

-- a class, or one above it, one step up for each of these classes (JDWP, ClassType command set, Superclass)
abbrev pub is_above : List WorldClass → World → ClassId → ClassId → Bool
is_above [] w class above = class.0 == above.0
is_above (step ∷ steps) w class above =
    (class.0 == above.0) || option_map_or (λ row. is_above steps w row.above above)
    (find (λ row. row.id.0 == class.0) w.classes) false

-- one of two classes is above the other, or they are one
abbrev pub are_related : World → ClassId → ClassId → Bool
are_related w a b = is_above w.classes w a b || is_above w.classes w b a

-- A field of a class, of one above it or of one below it. An object's field is named by the object and the field's id
-- alone, so that a field of one class may not have the id of a field of another where one object has both.
abbrev pub is_field : World → ClassId → FieldId → Bool
is_field w class field = list_any (λ row. (row.field.id.0 == field.0) && are_related w class row.class) w.fields

-- a thread
abbrev pub is_thread : World → ThreadId → Bool
is_thread w thread = list_any (λ row. row.id.0 == thread.0) w.threads

-- an array
abbrev pub is_array : World → ObjectId → Bool
is_array w id = list_any (λ row. row.id.0 == id.0) w.arrays

-- an object that is no array, no string and no thread
abbrev pub is_plain : World → ObjectId → Bool
is_plain w id = list_any (λ row. row.id.0 == id.0) w.objects

-- a string
abbrev pub is_string : World → ObjectId → Bool
is_string w id = list_any (λ row. row.id.0 == id.0) w.strings

-- an object, an array, a string or a thread: their ids are of one kind (JDWP, Detailed Command Information, common data
-- types, objectID)
abbrev pub is_object : World → ObjectId → Bool
is_object w id =
    is_array w id || (is_plain w id || (is_string w id || is_thread w (record { 0 = id.0 })))

-- a frame, of whatever thread
abbrev pub is_frame : World → FrameId → Bool
is_frame w frame = list_any (λ row. row.id.0 == frame.0) w.frames

-- the field that an object has under an id, where it is an object that has fields
abbrev pub field_in_object : World → ObjectId → FieldId → Option WorldField
field_in_object w object field = option_map_or (λ row. field_of w row.class field) (object_in w object) None
