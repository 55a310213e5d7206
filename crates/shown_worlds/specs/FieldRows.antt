-- The fields that an object has in a world: those of its class, and of each class above it (JDWP, ReferenceType command
-- set, Fields; JDWP, ClassType command set, Superclass).
use Rattle.std.specs.Prelude.{ℤ, pos, negsuc, ◌/◌, ◌%◌, ◌==◌, Bool, not, List, [], ◌∷◌, filter, map, Option, Some}
use Rattle.std.specs.Prelude.{None, option_and_then}
use Rattle.std.specs.List.{flat_map}
use Rattle.jdwp_values.specs.declared.class.Field.{Field}
use Rattle.jdwp_values.specs.declared.id.ClassId.{ClassId}
use Rattle.jdwp_values.specs.declared.id.FieldId.{FieldId}
use Rattle.jdwp_values.specs.declared.id.ObjectId.{ObjectId}
use Rattle.jdwp_values.specs.declared.value.Value.{Value}
use Rattle.world_model.specs.Classes.{class_in}
use Rattle.world_model.specs.Classes.{fields_of as fields_of_class}
use Rattle.world_model.specs.Objects.{field_value, object_in}
use Rattle.world_model.specs.declared.rows.WorldClass.{WorldClass}
use Rattle.world_model.specs.declared.world.World.{World}

-- a class, and the classes above it
abbrev pub with_above : (ClassId → List WorldClass) → Option WorldClass → List WorldClass
with_above above None = []
with_above above (Some row) = row ∷ above row.above

-- A class, and those above it, up to one that extends none: one step for each class that is there (JDWP, ClassType
-- command set, Superclass).
abbrev pub upwards : List WorldClass → World → ClassId → List WorldClass
upwards [] w class = []
upwards (step ∷ steps) w class = with_above (upwards steps w) (class_in w class)

-- a field of a class itself, and not of its objects: the bit of 8 is set (Java Virtual Machine Specification, Fields,
-- ACC_STATIC)
abbrev pub is_static : ℤ → Bool
is_static (pos bits) = (bits / 8) % 2 == 1
is_static (negsuc bits) = (bits / 8) % 2 == 0

-- a field, and the class that declares it
pub record FieldOf : Type 0 where
  pub class : ClassId
  pub field : Field

abbrev pub of_class : ClassId → Field → FieldOf
of_class class field = record { class = class; field = field }

-- the fields that a class gives to objects, in their order
abbrev pub own_fields : World → WorldClass → List FieldOf
own_fields w row = map (of_class row.id) (filter (λ field. not (is_static field.bits)) (fields_of_class w row.id))

-- the fields of objects of a class: its own, and then those of the class above, and so on
abbrev pub object_fields : World → ClassId → List FieldOf
object_fields w class = flat_map (own_fields w) (upwards w.classes w class)

-- the value of a field of an object (JDWP, ObjectReference command set, GetValues)
abbrev pub value_in : World → ObjectId → FieldId → Option Value
value_in w id field = option_and_then (λ object. field_value w object field) (object_in w id)
