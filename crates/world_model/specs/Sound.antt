-- A world whose rows agree with each other: what a script of a world gives.
use Rattle.std.specs.Prelude.{◌≡◌, ℕ, ◌<◌, ◌^◌, Bool, true, false, ◌==◌, ◌&&◌, nat_eq, if◌then◌else◌, List, [], ◌∷◌}
use Rattle.std.specs.Prelude.{◌++◌}
use Rattle.std.specs.Prelude.{map, find, length, Option, Some, option_and_then, is_some}
use Rattle.std.specs.List.{AllByRecursion, IsDistinct}
use Rattle.std.specs.Option.{option_map_or}
use Rattle.jdwp_values.specs.declared.id.ClassId.{ClassId}
use Rattle.jdwp_values.specs.declared.sizes.IdSizes.{IdSizes}
use Rattle.jdwp_values.specs.declared.tag.Tag.{Tag}
use Rattle.jdwp_values.specs.declared.value.Value.{Value}
use Rattle.jdwp_values.specs.Parts.{tag_of_value}
use Rattle.jdwp_values.specs.Spelling.{FitsValue}
use Rattle.world_model.specs.declared.rows.Installed.{Installed}
use Rattle.world_model.specs.declared.rows.WorldArray.{WorldArray}
use Rattle.world_model.specs.declared.rows.WorldClass.{WorldClass}
use Rattle.world_model.specs.declared.rows.WorldFrame.{WorldFrame}
use Rattle.world_model.specs.declared.rows.WorldMethod.{WorldMethod}
use Rattle.world_model.specs.declared.world.World.{World}
use Rattle.world_model.specs.Kept.{Program, program_of, Values, values_of}
use Rattle.world_model.specs.Kinds.{element_kind, same_kind}
use Rattle.world_model.specs.Requests.{frames_under}

-- an id that takes so many bytes (JDWP, VirtualMachine command set, IDSizes)
abbrev pub IsOfSize : ℕ → ℕ → Type 0
IsOfSize size id = id < 256 ^ size

-- two ids that hold within their classes alone (JDWP, Detailed Command Information, common data types, methodID and
-- fieldID)
abbrev pub same_member : ℕ × ℕ → ℕ × ℕ → Bool
same_member a b = (a.0 == b.0) && (a.1 == b.1)

-- the classes above a class are there, and come to an end (JDWP, ClassType command set, Superclass)
abbrev pub ends : List WorldClass → List WorldClass → ClassId → Bool
ends [] classes class = class.0 == 0
ends (step ∷ steps) classes class =
    if class.0 == 0 then true
    else option_map_or (λ row. ends steps classes row.above) (find (λ row. row.id.0 == class.0) classes) false

-- Classes, methods and fields have ids of their own, which fit their sizes; chains of classes end. No class has the id
-- of null (JDWP, Detailed Command Information, common data types, objectID).
pub record IsProgram (program : Program) : Type 0 where
  pub classes : IsDistinct nat_eq (map (λ row. row.id.0) program.classes)
  pub no_null : AllByRecursion (λ row. 0 < row.id.0) program.classes
  pub class_sizes : AllByRecursion (λ row. IsOfSize program.sizes.class row.id.0) program.classes
  pub chains : AllByRecursion (λ row. ends program.classes program.classes row.id ≡ true) program.classes
  pub methods : IsDistinct same_member (map (λ row. (row.class.0, row.method.id.0)) program.methods)
  pub method_sizes : AllByRecursion (λ row. IsOfSize program.sizes.method row.method.id.0) program.methods
  pub fields : IsDistinct same_member (map (λ row. (row.class.0, row.field.id.0)) program.fields)
  pub field_sizes : AllByRecursion (λ row. IsOfSize program.sizes.field row.field.id.0) program.fields

-- the ids of all objects, threads too (JDWP, Detailed Command Information, common data types, objectID)
abbrev pub object_ids : Program → Values → List ℕ
object_ids program values =
    map (λ row. row.id.0) values.arrays
    ++ (map (λ row. row.id.0) program.objects
    ++ (map (λ row. row.id.0) program.strings ++ map (λ row. row.id.0) program.threads))

-- a value that an array of this kind has, and whose id fits its size
abbrev pub IsElement : IdSizes → Tag → Value → Type 0
IsElement sizes kind value = (same_kind kind (tag_of_value value) ≡ true) × FitsValue sizes value

-- the kind of the elements of an array of this class
abbrev pub kind_of_class : List WorldClass → ClassId → Option Tag
kind_of_class classes class =
    option_and_then (λ row. element_kind row.signature) (find (λ row. row.id.0 == class.0) classes)

-- An array has the elements of its kind, and so many that an int has room for the number.
pub record IsArray (program : Program) (row : WorldArray) : Type 0 where
  pub kind : Tag
  pub is_kind : kind_of_class program.classes row.class ≡ Some kind
  pub elements : AllByRecursion (IsElement program.sizes kind) row.values
  pub few : length row.values < 2 ^ 31

-- whether a method is there
abbrev pub is_method : List WorldMethod → WorldFrame → Bool
is_method methods frame =
    is_some (find (λ row. (row.class.0 == frame.class.0) && (row.method.id.0 == frame.method.0)) methods)

-- A frame stands in a method that is there, and its ids fit their sizes.
pub record IsFrame (program : Program) (row : WorldFrame) : Type 0 where
  pub id_size : IsOfSize program.sizes.frame row.id.0
  pub there : is_method program.methods row ≡ true
  pub this_size : IsOfSize program.sizes.object row.this.0
  pub slots : AllByRecursion (λ slot. FitsValue program.sizes slot.value) row.slots

-- Objects and frames have ids of their own, which fit their sizes; so do the ids in values. Each thread has so many
-- frames that an int has room for the number.
pub record AreValues (program : Program) (values : Values) : Type 0 where
  pub objects : IsDistinct nat_eq (object_ids program values)
  pub object_sizes : AllByRecursion (IsOfSize program.sizes.object) (object_ids program values)
  pub puts : AllByRecursion (λ row. FitsValue program.sizes row.value) values.puts
  pub arrays : AllByRecursion (IsArray program) values.arrays
  pub frame_ids : IsDistinct nat_eq (map (λ row. row.id.0) values.frames)
  pub frames : AllByRecursion (IsFrame program) values.frames
  pub few : AllByRecursion (λ row. frames_under values.frames row.id < 2 ^ 31) program.threads

-- a number that a request may have: 1 to 2^31 - 1
abbrev pub IsRequest : ℕ → Type 0
IsRequest n = (0 < n) × (n < 2 ^ 31)

-- Requests have numbers of their own; suspensions are fewer than 2^64.
pub record IsHold (requests : List Installed) (next count : ℕ) : Type 0 where
  pub distinct : IsDistinct nat_eq (map (λ row. row.request) requests)
  pub numbers : AllByRecursion (λ row. IsRequest row.request) requests
  pub next_number : IsRequest next
  pub few : count < 2 ^ 64

-- A sound world: its program, its values and the hold on it are so.
pub record IsSound (w : World) : Type 0 where
  pub program : IsProgram (program_of w)
  pub values : AreValues (program_of w) (values_of w)
  pub hold : IsHold w.requests w.next_request w.count
