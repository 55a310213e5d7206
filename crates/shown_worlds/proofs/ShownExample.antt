-- A world with a nested block, an object of two classes and an array, and what is shown of it, by computation. Its ids
-- and its values are those that a Java machine told of such a program.
use Rattle.std.proofs.Common.{◌≡◌, ℕ, true, false, List, [], ◌∷◌, Option, Some, None, refl, arith}
use Rattle.std.specs.Fmt.{digits}
use Rattle.std.specs.List.{IsDistinct}
use Rattle.std.specs.Prelude.{codes, negsuc, pos}
use Rattle.std.specs.Str.{chars, is_utf8}
use Rattle.class_tables.specs.Views.{Key}
use Rattle.dap_messages.specs.Telling.{bad_index, no_such_name}
use Rattle.dap_messages.specs.declared.requests.Filter.TheVariants.{Both, Indexed}
use Rattle.dap_messages.specs.declared.told.BreakMode.TheVariants.{Unhandled}
use Rattle.field_exprs.specs.declared.expr.Head.TheVariants as heads
use Rattle.field_exprs.specs.declared.expr.Hop.TheVariants as hops
use Rattle.jdwp_values.specs.Lossy.{lossy, lossy_after}
use Rattle.jdwp_values.specs.declared.class.Line.{Line}
use Rattle.jdwp_values.specs.declared.id.ClassId.{ClassId}
use Rattle.jdwp_values.specs.declared.id.MethodId.{MethodId}
use Rattle.jdwp_values.specs.declared.id.ObjectId.{ObjectId}
use Rattle.jdwp_values.specs.declared.id.ThreadId.{ThreadId}
use Rattle.jdwp_values.specs.declared.location.Location.{Location}
use Rattle.jdwp_values.specs.declared.sizes.IdSizes.{IdSizes}
use Rattle.jdwp_values.specs.declared.tag.Tag.TheVariants as tags
use Rattle.jdwp_values.specs.declared.tag.TypeTag.{TypeTag}
use Rattle.jdwp_values.specs.declared.tag.TypeTag.TheVariants as type_tags
use Rattle.jdwp_values.specs.declared.value.Value.{Value}
use Rattle.jdwp_values.specs.declared.value.Value.TheVariants as values
use Rattle.machine_model.specs.declared.parts.Finding.TheVariants as found
use Rattle.machine_model.specs.State.{nothing_known}
use Rattle.machine_model.specs.declared.parts.Lookup.TheVariants as look_ups
use Rattle.machine_model.specs.declared.parts.Seen.{Seen}
use Rattle.machine_model.specs.declared.parts.ShownFrame.{ShownFrame}
use Rattle.machine_model.specs.declared.parts.ShownVariable.{ShownVariable}
use Rattle.machine_model.specs.declared.parts.Store.TheVariants as stores
use Rattle.shown_worlds.specs.ChildRows.{world_children}
use Rattle.shown_worlds.specs.ExpressionRows.{world_value}
use Rattle.shown_worlds.specs.FrameRows.{world_frames}
use Rattle.shown_worlds.specs.ThreadRows.{world_threads, world_thrown}
use Rattle.shown_worlds.specs.WriteRows.{Wish, world_write}
use Rattle.shown_worlds.specs.Laws.{IsLive, found_in}
use Rattle.shown_worlds.proofs.ChildrenLaws.{shows_children}
use Rattle.slot_values.specs.declared.slot.SlotValue.{SlotValue}
use Rattle.stop_refs.specs.declared.thing.FrameThing.{FrameThing}
use Rattle.stop_refs.specs.declared.thing.Thing.{Thing}
use Rattle.stop_refs.specs.declared.thing.Thing.TheVariants as things
use Rattle.value_views.specs.Quotes.{quote}
use Rattle.value_views.specs.Reads.{write_value}
use Rattle.world_model.specs.Kept.{program_of, values_of}
use Rattle.world_model.specs.Sound.{AreValues, IsHold, IsProgram}
use Rattle.world_model.specs.declared.rows.Put.{Put}
use Rattle.world_model.specs.declared.rows.WorldClass.{WorldClass}
use Rattle.world_model.specs.declared.rows.WorldField.{WorldField}
use Rattle.world_model.specs.declared.rows.WorldFrame.{WorldFrame}
use Rattle.world_model.specs.declared.rows.WorldMethod.{WorldMethod}
use Rattle.world_model.specs.declared.rows.WorldVariable.{WorldVariable}
use Rattle.world_model.specs.declared.world.World.{World}
use lib.Utf8.{encode}

-- The world -----------------------------------------------------------------------------------------------------------

abbrev class : ℕ → ClassId
class n = record { 0 = n }

abbrev object : ℕ → ObjectId
object n = record { 0 = n }

abbrev main : ThreadId
main = record { 0 = 1 }

abbrev kinds : MethodId
kinds = record { 0 = 140511063112112 }

abbrev entry : MethodId
entry = record { 0 = 140511063112008 }

abbrev class_row : ℕ → TypeTag → List ℕ → Option (List ℕ) → ℕ → WorldClass
class_row id tag signature source above = record {
  id = class id;
  tag = tag;
  signature = signature;
  source = source;
  above = class above;
  prepared = true;
}

abbrev line : ℕ → ℕ → Line
line index number = record { index = index; line = pos number }

abbrev method_row : MethodId → List ℕ → List Line → WorldMethod
method_row id name lines = record {
  class = class 367;
  method = record { id = id; name = name; signature = codes "(I)I"; bits = pos 8 };
  start = pos 0;
  end = pos 461;
  lines = Some lines;
}

-- a variable from an index on, for so many
abbrev variable : List ℕ → List ℕ → ℕ → ℕ → ℕ → WorldVariable
variable name signature slot index length = record {
  class = class 367;
  method = kinds;
  variable = record { index = index; name = name; signature = signature; length = length; slot = pos slot };
}

abbrev field : ℕ → ℕ → List ℕ → List ℕ → ℕ → WorldField
field owner id name signature bits = record {
  class = class owner;
  field = record { id = record { 0 = id }; name = name; signature = signature; bits = pos bits };
}

abbrev put : ℕ → Value → Put
put id value = record { object = object 393; field = record { 0 = id }; value = value }

abbrev slot : ℕ → Value → SlotValue
slot n value = record { slot = pos n; value = value }

abbrev frame_row : ℕ → MethodId → ℕ → List SlotValue → WorldFrame
frame_row id method index slots = record {
  thread = main;
  id = record { 0 = id };
  class = class 367;
  method = method;
  index = index;
  this = object 0;
  slots = slots;
}

abbrev sizes : IdSizes
sizes = record {
  field = 8;
  method = 8;
  object = 8;
  class = 8;
  frame = 8;
  field_is_size = (omega arith, omega arith);
  method_is_size = (omega arith, omega arith);
  object_is_size = (omega arith, omega arith);
  class_is_size = (omega arith, omega arith);
  frame_is_size = (omega arith, omega arith);
}

abbrev circles : World
circles = record {
  sizes = sizes;
  classes = class_row 364 type_tags.Class (codes "Ljava/lang/Object;") None 0
      ∷ class_row 369 type_tags.Class (codes "Lcom/acme/Shape;") (Some (codes "Shape.java")) 364
      ∷ class_row 370 type_tags.Class (codes "Lcom/acme/Circle;") (Some (codes "Circle.java")) 369
      ∷ class_row 367 type_tags.Class (codes "Lcom/acme/Foo;") (Some (codes "Foo.java")) 364
      ∷ class_row 154 type_tags.Array (codes "[I") None 364
      ∷ class_row 351 type_tags.Class (codes "Ljava/lang/String;") None 364 ∷ [];
  methods = method_row kinds (codes "kinds") (line 0 60 ∷ line 401 103 ∷ line 405 104 ∷ line 413 105 ∷ [])
      ∷ method_row entry (codes "main") (line 0 249 ∷ line 54 253 ∷ line 69 254 ∷ []) ∷ [];
  variables = variable (codes "circle") (codes "Lcom/acme/Circle;") 33 302 160
      ∷ variable (codes "i") (codes "I") 44 401 12 ∷ variable (codes "i") (codes "J") 45 413 40
      ∷ variable (codes "n") (codes "I") 0 0 462 ∷ variable (codes "ints") (codes "[I") 21 160 302 ∷ [];
  fields = field 370 162 (codes "id") (codes "I") 0 ∷ field 370 178 (codes "name") (codes "Ljava/lang/String;") 0
      ∷ field 370 130 (codes "radius") (codes "D") 0 ∷ field 370 194 (codes "weights") (codes "[I") 0
      ∷ field 370 210 (codes "nothing") (codes "Ljava/lang/Object;") 0 ∷ field 369 50 (codes "id") (codes "I") 0
      ∷ field 369 98 (codes "name") (codes "Ljava/lang/String;") 4 ∷ field 369 66 (codes "secret") (codes "J") 2
      ∷ field 369 140510928836624 (codes "made") (codes "I") 8
      ∷ field 369 114 (codes "inner") (codes "Lcom/acme/Shape;") 0 ∷ [];
  objects = record { id = object 393; tag = tags.Object; class = class 370 }
      ∷ record { id = object 413; tag = tags.Object; class = class 369 } ∷ [];
  arrays = record {
    id = object 411;
    class = class 154;
    values = values.Int (pos 1) ∷ values.Int (pos 2)
        ∷ values.Int (pos 3) ∷ [];
  } ∷ record {
    id = object 381;
    class = class 154;
    values = values.Int (pos 1)
        ∷ values.Int (pos 2) ∷ values.Int (pos 3) ∷ [];
  } ∷ [];
  strings = record { id = object 410; class = class 351; text = codes "circle" }
      ∷ record { id = object 412; class = class 351; text = codes "shape" } ∷ [];
  puts = put 162 (values.Int (pos 7)) ∷ put 162 (values.Int (pos 30)) ∷ put 178 (values.String (object 410))
      ∷ put 130 (values.Double 4612811918334230528) ∷ put 194 (values.Array (object 411)) ∷ put 50 (values.Int (pos 3))
      ∷ put 98 (values.String (object 412)) ∷ put 66 (values.Long (pos 41)) ∷ put 114 (values.Object (object 413)) ∷ [];
  threads = record { id = main; name = codes "main" } ∷ record
      { id = record { 0 = 365 }; name = codes "Finalizer" } ∷ [];
  frames = frame_row 589824 kinds 405 (slot 0 (values.Int (pos 3)) ∷ slot 21 (values.Array (object 381))
      ∷ slot 33 (values.Object (object 393)) ∷ slot 44 (values.Int (negsuc 1)) ∷ [])
      ∷ frame_row 589825 entry 58 [] ∷ [];
  requests = [];
  steps = [];
  next_request = 2;
  count = 1;
  dead = false;
}

-- What is shown -------------------------------------------------------------------------------------------------------

threads : world_threads circles ≡ found.Threads (record { thread = main; name = codes "main" }
    ∷ record { thread = record { 0 = 365 }; name = codes "Finalizer" } ∷ [])
threads = refl

abbrev place : MethodId → ℕ → Location
place method index = record { tag = type_tags.Class; class = class 367; method = method; index = index }

abbrev inner_frame : FrameThing
inner_frame = record { thread = main; frame = record { 0 = 589824 }; at = place kinds 405 }

abbrev at_line : ℕ → FrameThing → List ℕ → ShownFrame
at_line number frame name = record {
  frame = frame;
  name = name;
  spot = Some (record { source = record { name = codes "Foo.java"; path = codes "com/acme" }; line = pos number });
}

-- the line of an index is that of the entry at it or before it
frames : world_frames (λ (key : Key). key.package_path) circles main 0 0
    ≡ Some (found.Frames 2 (at_line 104 inner_frame (codes "com.acme.Foo.kinds")
    ∷ at_line 253 (record { thread = main; frame = record { 0 = 589825 }; at = place entry 58 })
    (codes "com.acme.Foo.main") ∷ []))
unfolding chars encode lossy lossy_after is_utf8
frames = refl

one_frame : world_frames (λ (key : Key). key.package_path) circles main 0 1
    ≡ Some (found.Frames 2 (at_line 104 inner_frame (codes "com.acme.Foo.kinds") ∷ []))
unfolding chars encode lossy lossy_after is_utf8
one_frame = refl

abbrev plain : List ℕ → List ℕ → ShownVariable
plain name text = record { name = name; seen = record { text = text; kind = None; indexed = None; thing = None } }

abbrev container : List ℕ → List ℕ → Option ℕ → Thing → ShownVariable
container name text indexed thing =
    record { name = name; seen = record { text = text; kind = None; indexed = indexed; thing = Some thing } }

-- by slots; the second `i` stands in another block
locals : world_children circles false (things.Locals inner_frame) Both 0 0
    ≡ Some (found.Variables (plain (codes "n") (codes "3")
    ∷ container (codes "ints") (codes "int[3]") (Some 3) (things.Array (object 381))
    ∷ container (codes "circle") (codes "com.acme.Circle@189") None (things.Object (object 393))
    ∷ plain (codes "i") (codes "-2") ∷ []))
unfolding chars encode lossy lossy_after is_utf8 digits quote
locals = refl

-- the fields of the class, and of the class above it behind them; a static one is none
fields : world_children circles false (things.Object (object 393)) Both 0 0
    ≡ Some (found.Variables (plain (codes "id") (codes "30") ∷ plain (codes "name") (codes "\"circle\"")
    ∷ plain (codes "radius") (codes "double:0x4004000000000000")
    ∷ container (codes "weights") (codes "int[3]") (Some 3) (things.Array (object 411))
    ∷ plain (codes "nothing") (codes "null") ∷ plain (codes "id@com.acme.Shape") (codes "3")
    ∷ plain (codes "name@com.acme.Shape") (codes "\"shape\"") ∷ plain (codes "secret") (codes "41")
    ∷ container (codes "inner") (codes "com.acme.Shape@19d") None (things.Object (object 413)) ∷ []))
unfolding chars encode lossy lossy_after is_utf8 digits quote
fields = refl

-- a page of an array
elements : world_children circles false (things.Array (object 381)) Indexed 1 2
    ≡ Some (found.Variables (plain (codes "[1]") (codes "2") ∷ plain (codes "[2]") (codes "3") ∷ []))
unfolding chars encode lossy lossy_after is_utf8 digits
elements = refl

-- null and a number have the types of their places
types : world_children circles true (things.Object (object 393)) Both 4 2
    ≡ Some (found.Variables (record {
      name = codes "nothing";
      seen = record {
        text = codes "null";
        kind = Some (codes "java.lang.Object");
        indexed = None;
        thing = None;
      };
    } ∷ record {
      name = codes "id@com.acme.Shape";
      seen = record { text = codes "3"; kind = Some (codes "int"); indexed = None; thing = None };
    } ∷ []))
unfolding chars encode lossy lossy_after is_utf8 digits quote
types = refl

abbrev seen : List ℕ → Seen
seen text = record { text = text; kind = None; indexed = None; thing = None }

-- the first field of a name hides that of the class above
element : world_value circles false inner_frame (record {
  head = heads.Name (codes "circle");
  steps = hops.Field (codes "weights") ∷ hops.Index 1 ∷ [];
}) ≡ Some (found.Value (seen (codes "2")))
unfolding chars encode lossy lossy_after is_utf8 digits
element = refl

hidden : world_value circles false inner_frame (record {
  head = heads.Name (codes "circle");
  steps = hops.Field (codes "id") ∷ [];
}) ≡ Some (found.Value (seen (codes "30")))
unfolding chars encode lossy lossy_after is_utf8 digits
hidden = refl

outside : world_value circles false inner_frame (record { head = heads.Name (codes "ints"); steps = hops.Index 3 ∷ [] })
    ≡ Some (found.NoValue bad_index)
outside = refl

static_frame : world_value circles false inner_frame (record { head = heads.This; steps = [] })
    ≡ Some (found.NoValue no_such_name)
static_frame = refl

abbrev wish : List ℕ → Wish
wish text = record { types = false; size = 8; text = text }

written : world_write circles (wish (codes "12")) (things.Locals inner_frame) (codes "i")
    ≡ Some (found.Write (record {
      store = stores.Slot main (record { 0 = 589824 }) (pos 44);
      value = values.Int
          (pos 12);
      size = 8;
    }) (seen (codes "12")))
unfolding chars encode lossy lossy_after is_utf8 digits write_value
written = refl

-- another spelling of an index is no element's name
no_element : world_write circles (wish (codes "12")) (things.Array (object 381)) (codes "[01]")
    ≡ Some (found.NoValue no_such_name)
unfolding digits
no_element = refl

thrown : world_thrown circles (record { thread = main; object = object 413; caught = false })
    ≡ Some (found.Exception (codes "com.acme.Shape") Unhandled)
unfolding chars encode lossy lossy_after is_utf8
thrown = refl

-- of a thread that has ended nothing is shown
ended : world_frames (λ (key : Key). key.package_path) circles (record { 0 = 2 }) 0 0 ≡ None
ended = refl

-- What the machine finds ----------------------------------------------------------------------------------------------

live_program : IsProgram (program_of circles)
unfolding IsDistinct
live_program = record {
  classes = (
    (refl, (refl, (refl, (refl, (refl, tt))))),
    (
      (refl, (refl, (refl, (refl, tt)))),
      (
        (
          refl,
          (
            refl,
            (refl, tt),
          ),
        ),
        ((refl, (refl, tt)), ((refl, tt), (tt, tt))),
      ),
    ),
  );
  no_null = (omega arith, (omega arith, (omega arith, (omega arith, (omega arith, (omega arith, tt))))));
  class_sizes = (omega arith, (omega arith, (omega arith, (omega arith, (omega arith, (omega arith, tt))))));
  chains = (refl, (refl, (refl, (refl, (refl, (refl, tt))))));
  methods = ((refl, tt), (tt, tt));
  method_sizes = (omega arith, (omega arith, tt));
  fields = (
    (refl, (refl, (refl, (refl, (refl, (refl, (refl, (refl, (refl, tt))))))))),
    (
      (
        refl,
        (
          refl,
          (
            refl,
            (refl, (refl, (refl, (refl, (refl, tt))))),
          ),
        ),
      ),
      (
        (
          refl,
          (
            refl,
            (
              refl,
              (
                refl,
                (
                  refl,
                  (
                    refl,
                    (
                      refl,
                      tt,
                    ),
                  ),
                ),
              ),
            ),
          ),
        ),
        (
          (refl, (refl, (refl, (refl, (refl, (refl, tt)))))),
          (
            (
              refl,
              (
                refl,
                (
                  refl,
                  (
                    refl,
                    (
                      refl,
                      tt,
                    ),
                  ),
                ),
              ),
            ),
            (
              (refl, (refl, (refl, (refl, tt)))),
              (
                (refl, (refl, (refl, tt))),
                (
                  (refl, (refl, tt)),
                  (
                    (
                      refl,
                      tt,
                    ),
                    (tt, tt),
                  ),
                ),
              ),
            ),
          ),
        ),
      ),
    ),
  );
  field_sizes = (
    omega arith,
    (
      omega arith,
      (
        omega arith,
        (
          omega arith,
          (
            omega arith,
            (
              omega arith,
              (
                omega
                    arith,
                (omega arith, (omega arith, (omega arith, tt))),
              ),
            ),
          ),
        ),
      ),
    ),
  );
}

live_values : AreValues (program_of circles) (values_of circles)
unfolding IsDistinct
live_values = record {
  objects = (
    (refl, (refl, (refl, (refl, (refl, (refl, (refl, tt))))))),
    (
      (
        refl,
        (
          refl,
          (
            refl,
            (
              refl,
              (
                refl,
                (refl, tt),
              ),
            ),
          ),
        ),
      ),
      (
        (refl, (refl, (refl, (refl, (refl, tt))))),
        (
          (refl, (refl, (refl, (refl, tt)))),
          (
            (
              refl,
              (refl, (refl, tt)),
            ),
            ((refl, (refl, tt)), ((refl, tt), (tt, tt))),
          ),
        ),
      ),
    ),
  );
  object_sizes = (
    omega arith,
    (
      omega arith,
      (
        omega arith,
        (
          omega arith,
          (
            omega arith,
            (
              omega arith,
              (
                omega
                    arith,
                (omega arith, tt),
              ),
            ),
          ),
        ),
      ),
    ),
  );
  puts = (tt, (tt, (omega arith, (tt, (omega arith, (tt, (omega arith, (tt, (omega arith, tt)))))))));
  arrays = (
    record {
      kind = tags.Int;
      is_kind = refl;
      elements = ((refl, tt), ((refl, tt), ((refl, tt), tt)));
      few = omega arith;
    },
    (
      record {
        kind = tags.Int;
        is_kind = refl;
        elements = (
          (refl, tt),
          (
            (refl, tt),
            ((refl, tt), tt),
          ),
        );
        few = omega arith;
      },
      tt,
    ),
  );
  frame_ids = ((refl, tt), (tt, tt));
  frames = (
    record {
      id_size = omega arith;
      there = refl;
      this_size = omega arith;
      slots = (
        tt,
        (
          omega arith,
          (omega arith, (tt, tt)),
        ),
      );
    },
    (
      record {
        id_size = omega arith;
        there = refl;
        this_size = omega arith;
        slots
            = tt;
      },
      tt,
    ),
  );
  few = (omega arith, (omega arith, tt));
}

live_hold : IsHold [] 2 1
unfolding IsDistinct
live_hold = record { distinct = tt; numbers = tt; next_number = (omega arith, omega arith); few = omega arith }

live : IsLive circles
live = record {
  alive = refl;
  sound = record { program = live_program; values = live_values; hold = live_hold };
  few = omega arith;
}

-- the look-up itself finds the fields
fields_found : found_in circles nothing_known (look_ups.Variables (things.Object (object 393)) Both 0 0)
    ≡ world_children circles false (things.Object (object 393)) Both 0 0
fields_found = shows_children circles nothing_known (things.Object (object 393)) Both 0 0 live
