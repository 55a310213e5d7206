-- A world that grows row by row, and what holds of it.
use Rattle.std.specs.Prelude.{◌≡◌, ℕ, ◌<◌, ◌^◌, Bool, true, false, ◌==◌, ◌&&◌, nat_eq, List, [], ◌∷◌, ◌++◌, map, None}
use Rattle.std.specs.List.{AllByRecursion, IsDistinct}
use Rattle.jdwp_values.specs.declared.id.ThreadId.{ThreadId}
use Rattle.jdwp_values.specs.declared.sizes.IdSizes.{IdSizes}
use Rattle.jdwp_values.specs.Spelling.{FitsValue}
use Rattle.world_model.specs.declared.rows.Put.{Put}
use Rattle.world_model.specs.declared.rows.WorldArray.{WorldArray}
use Rattle.world_model.specs.declared.rows.WorldClass.{WorldClass}
use Rattle.world_model.specs.declared.rows.WorldField.{WorldField}
use Rattle.world_model.specs.declared.rows.WorldFrame.{WorldFrame}
use Rattle.world_model.specs.declared.rows.WorldMethod.{WorldMethod}
use Rattle.world_model.specs.declared.rows.WorldObject.{WorldObject}
use Rattle.world_model.specs.declared.rows.WorldString.{WorldString}
use Rattle.world_model.specs.declared.rows.WorldThread.{WorldThread}
use Rattle.world_model.specs.declared.rows.WorldVariable.{WorldVariable}
use Rattle.world_model.specs.declared.world.World.{World}
use Rattle.world_model.specs.Kept.{Program, program_of, values_of}
use Rattle.world_model.specs.Requests.{frames_under}
use Rattle.world_model.specs.Sound.{IsOfSize, IsArray, IsFrame, object_ids, same_member, ends}

-- Rows ---------------------------------------------------------------------------------------------------------------

-- a world of which nothing was said but how many bytes ids take
abbrev pub empty_world : IdSizes → World
empty_world sizes = record {
  sizes = sizes;
  classes = [];
  methods = [];
  variables = [];
  fields = [];
  objects = [];
  arrays = [];
  strings = [];
  puts = [];
  threads = [];
  frames = [];
  requests = [];
  steps = [];
  next_request = 1;
  count = 0;
  dead = false;
}

abbrev pub with_class : World → WorldClass → World
with_class w row = record w { classes = w.classes ++ row ∷ [] }

abbrev pub with_method : World → WorldMethod → World
with_method w row = record w { methods = w.methods ++ row ∷ [] }

abbrev pub with_variable : World → WorldVariable → World
with_variable w row = record w { variables = w.variables ++ row ∷ [] }

abbrev pub with_field : World → WorldField → World
with_field w row = record w { fields = w.fields ++ row ∷ [] }

abbrev pub with_object : World → WorldObject → World
with_object w row = record w { objects = w.objects ++ row ∷ [] }

abbrev pub with_array : World → WorldArray → World
with_array w row = record w { arrays = w.arrays ++ row ∷ [] }

abbrev pub with_string : World → WorldString → World
with_string w row = record w { strings = w.strings ++ row ∷ [] }

abbrev pub with_put : World → Put → World
with_put w row = record w { puts = w.puts ++ row ∷ [] }

abbrev pub with_thread : World → WorldThread → World
with_thread w row = record w { threads = w.threads ++ row ∷ [] }

-- a thread's frames stand from the innermost on
abbrev pub with_frame : World → WorldFrame → World
with_frame w row = record w { frames = w.frames ++ row ∷ [] }

-- What holds of it ---------------------------------------------------------------------------------------------------

-- Classes, methods and fields have ids of their own, which fit their sizes, and no class has the id of null. Whether
-- chains of classes end is said of a whole world alone, since a class may stand before the one above it.
pub record HasOwnIds (program : Program) : Type 0 where
  pub classes : IsDistinct nat_eq (map (λ row. row.id.0) program.classes)
  pub no_null : AllByRecursion (λ row. 0 < row.id.0) program.classes
  pub class_sizes : AllByRecursion (λ row. IsOfSize program.sizes.class row.id.0) program.classes
  pub methods : IsDistinct same_member (map (λ row. (row.class.0, row.method.id.0)) program.methods)
  pub method_sizes : AllByRecursion (λ row. IsOfSize program.sizes.method row.method.id.0) program.methods
  pub fields : IsDistinct same_member (map (λ row. (row.class.0, row.field.id.0)) program.fields)
  pub field_sizes : AllByRecursion (λ row. IsOfSize program.sizes.field row.field.id.0) program.fields

-- A world as it grows: sound, but that chains of classes may be open; no request stands, and nothing is suspended.
pub record IsGrowing (w : World) : Type 0 where
  pub own : HasOwnIds (program_of w)
  pub objects : IsDistinct nat_eq (object_ids (program_of w) (values_of w))
  pub object_sizes : AllByRecursion (IsOfSize w.sizes.object) (object_ids (program_of w) (values_of w))
  pub puts : AllByRecursion (λ row. FitsValue w.sizes row.value) w.puts
  pub arrays : AllByRecursion (IsArray (program_of w)) w.arrays
  pub frame_ids : IsDistinct nat_eq (map (λ row. row.id.0) w.frames)
  pub frames : AllByRecursion (IsFrame (program_of w)) w.frames
  pub few : (thread : ThreadId) → frames_under w.frames thread < 2 ^ 31
  pub requests : w.requests ≡ []
  pub next_request : w.next_request ≡ 1
  pub count : w.count ≡ 0
  pub alive : w.dead ≡ false

-- chains of classes end
abbrev pub HasChains : World → Type 0
HasChains w = AllByRecursion (λ row. ends w.classes w.classes row.id ≡ true) w.classes
