-- A small world: two classes, one method, two threads that stand in it, and two event requests.
use Rattle.std.specs.Prelude.{ℕ, pos, Bool, true, false, List, [], ◌∷◌, None}
use Rattle.jdwp_events.specs.declared.kind.EventKind.TheVariants as kinds
use Rattle.jdwp_events.specs.declared.kind.Policy.TheVariants.{All, NoThread}
use Rattle.jdwp_events.specs.declared.modifier.Modifier.TheVariants as modifiers
use Rattle.jdwp_values.specs.Sizes.{IsSize}
use Rattle.jdwp_values.specs.declared.id.ClassId.{ClassId}
use Rattle.jdwp_values.specs.declared.id.ThreadId.{ThreadId}
use Rattle.jdwp_values.specs.declared.location.Location.{Location}
use Rattle.jdwp_values.specs.declared.sizes.IdSizes.{IdSizes}
use Rattle.jdwp_values.specs.declared.tag.Tag.TheVariants as tags
use Rattle.jdwp_values.specs.declared.tag.TypeTag.TheVariants as type_tags
use Rattle.world_model.specs.declared.rows.Installed.{Installed}
use Rattle.world_model.specs.declared.rows.WorldClass.{WorldClass}
use Rattle.world_model.specs.declared.rows.WorldFrame.{WorldFrame}
use Rattle.world_model.specs.declared.rows.WorldMethod.{WorldMethod}
use Rattle.world_model.specs.declared.rows.WorldThread.{WorldThread}
use Rattle.world_model.specs.declared.world.World.{World}

-- ids of eight bytes
abbrev pub eight : IsSize 8 → IdSizes
eight fits = record {
  field = 8;
  method = 8;
  object = 8;
  class = 8;
  frame = 8;
  field_is_size = fits;
  method_is_size = fits;
  object_is_size = fits;
  class_is_size = fits;
  frame_is_size = fits;
}

abbrev pub thread_of : ℕ → ThreadId
thread_of id = record { 0 = id }

abbrev pub class_of : ℕ → ClassId
class_of id = record { 0 = id }

-- a class with no source file, and no class above it
abbrev pub class_row : ℕ → List ℕ → Bool → WorldClass
class_row id signature prepared = record {
  id = class_of id;
  tag = type_tags.Class;
  signature = signature;
  source = None;
  above = class_of 0;
  prepared = prepared;
}

-- one method of the first class, with no lines
abbrev pub method_row : WorldMethod
method_row = record {
  class = class_of 16;
  method = record { id = record { 0 = 3 }; name = 109 ∷ []; signature = 40 ∷ 41 ∷ 86 ∷ []; bits = pos 0 };
  start = pos 0;
  end = pos 9;
  lines = None;
}

-- the place in it where the threads stand
abbrev pub place : Location
place = record { tag = type_tags.Class; class = class_of 16; method = record { 0 = 3 }; index = 5 }

abbrev pub thread_row : ℕ → WorldThread
thread_row id = record { id = thread_of id; name = 109 ∷ [] }

-- a thread's frame, which stands there
abbrev pub frame_row : ℕ → ℕ → WorldFrame
frame_row thread id = record {
  thread = thread_of thread;
  id = record { 0 = id };
  class = class_of 16;
  method = record { 0 = 3 };
  index = 5;
  this = record { 0 = 0 };
  slots = [];
}

-- an event request for that place under ALL, and one for threads that start
abbrev pub hit_request : Installed
hit_request = record {
  request = 7;
  wish_kind = kinds.Breakpoint;
  policy = All;
  modifiers = modifiers.LocationOnly place ∷ [];
}

abbrev pub start_request : Installed
start_request = record { request = 9; wish_kind = kinds.ThreadStart; policy = NoThread; modifiers = [] }

-- the world with these suspensions; the next id that it would choose by itself is 1
abbrev pub world : IsSize 8 → ℕ → World
world fits count = record {
  sizes = eight fits;
  classes = class_row 16 (76 ∷ 65 ∷ 59 ∷ []) true ∷ class_row 17 (76 ∷ 66 ∷ 59 ∷ []) false ∷ [];
  methods = method_row ∷ [];
  variables = [];
  fields = [];
  objects = [];
  arrays = [];
  strings = [];
  puts = [];
  threads = thread_row 1 ∷ thread_row 2 ∷ [];
  frames = frame_row 1 64 ∷ frame_row 2 65 ∷ [];
  requests = hit_request ∷ start_request ∷ [];
  steps = [];
  next_request = 1;
  count = count;
  dead = false;
}

-- The same a while later: the first thread has ended, a third has begun, the second has called the method once more, an
-- object was made, and the second class is prepared.
abbrev pub later : IsSize 8 → World
later fits = record (world fits 0) {
  classes = class_row 16 (76 ∷ 65 ∷ 59 ∷ []) true ∷ class_row 17 (76 ∷ 66 ∷ 59 ∷ []) true ∷ [];
  objects = record { id = record { 0 = 80 }; tag = tags.Object; class = class_of 16 } ∷ [];
  threads = thread_row 2 ∷ thread_row 3 ∷ [];
  frames = frame_row 2 66 ∷ frame_row 2 65 ∷ [];
}
