-- A stop in a nested block, whose variable hides a field, and one behind it: what is shown of them, by computation. The
-- rows are those that OpenJDK 17 told of this program at line 19, and but for an id the same at line 21. Of the ids of
-- methods and of the static field the last digits are kept.
--
--     5   class Circle extends Shape {           // in Shape:  int id = 3;  protected String name = "shape";
--     6       int id = 30;
--     7       int[] weights = {1, 2, 3};
--     8       Object nothing;
--     9       int grow(int by) {                 // by is 7
--     10          int[] ints = {by, 5};
--     11          {
--     12              int i = by + 1;
--     13              ints[0] = i;
--     14          }
--     15          {
--     16              long i = by + 2;
--     17              {
--     18                  String id = "hides";
--     19                  ints[1] = id.length();
--     20              }
--     21              return (int) i + ints[0];
use Rattle.std.proofs.Common.{◌≡◌, ℕ, true, false, List, [], ◌∷◌, Option, Some, None, refl, arith}
use Rattle.std.specs.Fmt.{digits}
use Rattle.std.specs.Prelude.{codes, pos}
use Rattle.std.specs.Str.{chars, is_utf8}
use Rattle.class_tables.specs.Views.{Key}
use Rattle.dap_messages.specs.Telling.{target_error, unknown_thread}
use Rattle.dap_messages.specs.declared.requests.Filter.TheVariants.{Both, Indexed, Named}
use Rattle.field_exprs.specs.declared.expr.Expr.{Expr}
use Rattle.field_exprs.specs.declared.expr.Head.TheVariants as heads
use Rattle.field_exprs.specs.declared.expr.Hop.TheVariants as hops
use Rattle.jdwp_values.specs.Lossy.{lossy, lossy_after}
use Rattle.jdwp_values.specs.declared.class.Line.{Line}
use Rattle.jdwp_values.specs.declared.id.ClassId.{ClassId}
use Rattle.jdwp_values.specs.declared.id.MethodId.{MethodId}
use Rattle.jdwp_values.specs.declared.id.ObjectId.{ObjectId}
use Rattle.jdwp_values.specs.declared.id.ThreadId.{ThreadId}
use Rattle.jdwp_values.specs.declared.location.Location.{Location}
use Rattle.jdwp_values.specs.declared.sizes.IdSizes.{IdSizes}
use Rattle.jdwp_values.specs.declared.tag.Tag.TheVariants as tags
use Rattle.jdwp_values.specs.declared.tag.TypeTag.{TypeTag}
use Rattle.jdwp_values.specs.declared.tag.TypeTag.TheVariants as type_tags
use Rattle.jdwp_values.specs.declared.value.Value.{Value}
use Rattle.jdwp_values.specs.declared.value.Value.TheVariants as values
use Rattle.machine_model.specs.Lookups.{refusal}
use Rattle.machine_model.specs.declared.parts.Finding.TheVariants as found
use Rattle.machine_model.specs.declared.parts.Seen.{Seen}
use Rattle.machine_model.specs.declared.parts.ShownVariable.{ShownVariable}
use Rattle.machine_model.specs.declared.parts.Store.TheVariants as stores
use Rattle.shown_worlds.specs.ChildRows.{world_children}
use Rattle.shown_worlds.specs.ExpressionRows.{world_value}
use Rattle.shown_worlds.specs.FailureRows.{children_errors, why_no_children, why_no_value}
use Rattle.shown_worlds.specs.FrameRows.{world_frames}
use Rattle.shown_worlds.specs.WriteRows.{world_write}
use Rattle.slot_values.specs.declared.slot.SlotValue.{SlotValue}
use Rattle.stop_refs.specs.declared.thing.FrameThing.{FrameThing}
use Rattle.stop_refs.specs.declared.thing.Thing.{Thing}
use Rattle.stop_refs.specs.declared.thing.Thing.TheVariants as things
use Rattle.value_views.specs.Quotes.{quote}
use Rattle.value_views.specs.Reads.{write_value}
use Rattle.world_model.specs.declared.rows.Put.{Put}
use Rattle.world_model.specs.declared.rows.WorldClass.{WorldClass}
use Rattle.world_model.specs.declared.rows.WorldField.{WorldField}
use Rattle.world_model.specs.declared.rows.WorldFrame.{WorldFrame}
use Rattle.world_model.specs.declared.rows.WorldMethod.{WorldMethod}
use Rattle.world_model.specs.declared.rows.WorldString.{WorldString}
use Rattle.world_model.specs.declared.rows.WorldVariable.{WorldVariable}
use Rattle.world_model.specs.declared.world.World.{World}
use lib.Utf8.{encode}

-- The world -----------------------------------------------------------------------------------------------------------

abbrev class : ℕ → ClassId
class n = record { 0 = n }

abbrev object : ℕ → ObjectId
object n = record { 0 = n }

abbrev main : ThreadId
main = record { 0 = 1 }

abbrev grow : MethodId
grow = record { 0 = 290920 }

abbrev entry : MethodId
entry = record { 0 = 290912 }

abbrev class_row : ℕ → TypeTag → List ℕ → Option (List ℕ) → ℕ → WorldClass
class_row id tag signature source above = record {
  id = class id;
  tag = tag;
  signature = signature;
  source = source;
  above = class above;
  prepared = true;
}

abbrev line : ℕ → ℕ → Line
line index number = record { index = index; line = pos number }

abbrev method_row : MethodId → List ℕ → List ℕ → ℕ → ℕ → List Line → WorldMethod
method_row id name signature bits end lines = record {
  class = class 2;
  method = record { id = id; name = name; signature = signature; bits = pos bits };
  start = pos 0;
  end = pos end;
  lines = Some lines;
}

-- a variable from an index on, for so many
abbrev variable : ℕ → List ℕ → List ℕ → ℕ → ℕ → WorldVariable
variable index name signature length slot = record {
  class = class 2;
  method = grow;
  variable = record { index = index; name = name; signature = signature; length = length; slot = pos slot };
}

abbrev field : ℕ → ℕ → List ℕ → List ℕ → ℕ → WorldField
field owner id name signature bits = record {
  class = class owner;
  field = record { id = record { 0 = id }; name = name; signature = signature; bits = pos bits };
}

abbrev put : ℕ → Value → Put
put id value = record { object = object 3; field = record { 0 = id }; value = value }

abbrev slot : ℕ → Value → SlotValue
slot n value = record { slot = pos n; value = value }

abbrev frame_row : ℕ → MethodId → ℕ → ℕ → List SlotValue → WorldFrame
frame_row id method index this slots = record {
  thread = main;
  id = record { 0 = id };
  class = class 2;
  method = method;
  index = index;
  this = object this;
  slots = slots;
}

abbrev sizes : IdSizes
sizes = record {
  field = 8;
  method = 8;
  object = 8;
  class = 8;
  frame = 8;
  field_is_size = (omega arith, omega arith);
  method_is_size = (omega arith, omega arith);
  object_is_size = (omega arith, omega arith);
  class_is_size = (omega arith, omega arith);
  frame_is_size = (omega arith, omega arith);
}

abbrev texts : List WorldString
texts = record { id = object 8; class = class 9; text = codes "shape" }
    ∷ record { id = object 10; class = class 9; text = codes "hides" } ∷ []

-- the program at a code index of `grow`, with these variables that its blocks have, and these strings
abbrev grown : ℕ → List WorldVariable → List WorldString → World
grown index blocks strings = record {
  sizes = sizes;
  classes = class_row 5 type_tags.Class (codes "Ljava/lang/Object;") (Some (codes "Object.java")) 0
      ∷ class_row 4 type_tags.Class (codes "Lcom/acme/Shape;") (Some (codes "Shape.java")) 5
      ∷ class_row 2 type_tags.Class (codes "Lcom/acme/Circle;") (Some (codes "Circle.java")) 4
      ∷ class_row 7 type_tags.Array (codes "[I") None 5
      ∷ class_row 9 type_tags.Class (codes "Ljava/lang/String;") (Some (codes "String.java")) 5 ∷ [];
  methods = method_row grow (codes "grow") (codes "(I)I") 0 43 (line 0 10 ∷ line 12 12 ∷ line 16 13 ∷ line 20 16
      ∷ line 25 18 ∷ line 29 19 ∷ line 37 21 ∷ [])
      ∷ method_row entry (codes "main") (codes "([Ljava/lang/String;)V") 9 18 (line 0 26 ∷ line 18 27 ∷ []) ∷ [];
  variables = blocks;
  fields = field 2 290224 (codes "made") (codes "I") 8 ∷ field 2 82 (codes "id") (codes "I") 0
      ∷ field 2 98 (codes "weights") (codes "[I") 0 ∷ field 2 114 (codes "nothing") (codes "Ljava/lang/Object;") 0
      ∷ field 4 50 (codes "id") (codes "I") 0 ∷ field 4 66 (codes "name") (codes "Ljava/lang/String;") 4 ∷ [];
  objects = record { id = object 3; tag = tags.Object; class = class 2 } ∷ [];
  arrays = record {
    id = object 6;
    class = class 7;
    values = values.Int (pos 1) ∷ values.Int (pos 2) ∷ values.Int (pos 3) ∷ [];
  } ∷ record { id = object 11; class = class 7; values = values.Int (pos 8) ∷ values.Int (pos 5) ∷ [] } ∷ [];
  strings = strings;
  puts = put 82 (values.Int (pos 30)) ∷ put 98 (values.Array (object 6)) ∷ put 114 (values.Object (object 0))
      ∷ put 50 (values.Int (pos 3)) ∷ put 66 (values.String (object 8)) ∷ [];
  threads = record { id = main; name = codes "main" } ∷ [];
  frames = frame_row 131072 grow index 3 (slot 5 (values.String (object 10)) ∷ slot 3 (values.Long (pos 9))
      ∷ slot 1 (values.Int (pos 7)) ∷ slot 2 (values.Array (object 11)) ∷ [])
      ∷ frame_row 131073 entry 12 0 [] ∷ [];
  requests = [];
  steps = [];
  next_request = 2;
  count = 1;
  dead = false;
}

-- the variables as the target lists them, those of inner blocks first
abbrev listed : List WorldVariable
listed = variable 16 (codes "i") (codes "I") 4 3 ∷ variable 29 (codes "id") (codes "Ljava/lang/String;") 8 5
    ∷ variable 25 (codes "i") (codes "J") 19 3 ∷ variable 0 (codes "this") (codes "Lcom/acme/Circle;") 44 0
    ∷ variable 0 (codes "by") (codes "I") 44 1 ∷ variable 12 (codes "ints") (codes "[I") 32 2 ∷ []

abbrev inner : World
inner = grown 29 listed texts

abbrev behind : World
behind = grown 37 listed texts

abbrev place : MethodId → ℕ → Location
place method index = record { tag = type_tags.Class; class = class 2; method = method; index = index }

abbrev frame_at : ℕ → FrameThing
frame_at index = record { thread = main; frame = record { 0 = 131072 }; at = place grow index }

-- What is shown -------------------------------------------------------------------------------------------------------

frames : world_frames (λ (key : Key). key.package_path) inner main 0 0 ≡ Some (found.Frames 2 (record {
  frame = frame_at 29;
  name = codes "com.acme.Circle.grow";
  spot = Some (record { source = record { name = codes "Circle.java"; path = codes "com/acme" }; line = pos 19 });
} ∷ record {
  frame = record { thread = main; frame = record { 0 = 131073 }; at = place entry 12 };
  name = codes "com.acme.Circle.main";
  spot = Some (record { source = record { name = codes "Circle.java"; path = codes "com/acme" }; line = pos 26 });
} ∷ []))
unfolding chars encode lossy lossy_after is_utf8
frames = refl

abbrev seen : List ℕ → Seen
seen text = record { text = text; kind = None; indexed = None; thing = None }

abbrev plain : List ℕ → List ℕ → ShownVariable
plain name text = record { name = name; seen = seen text }

abbrev container : List ℕ → List ℕ → Option ℕ → Thing → ShownVariable
container name text indexed thing =
    record { name = name; seen = record { text = text; kind = None; indexed = indexed; thing = Some thing } }

-- the `i` of the block before it has had the same slot
locals : world_children inner false (things.Locals (frame_at 29)) Both 0 0
    ≡ Some (found.Variables (container (codes "this") (codes "com.acme.Circle@3") None (things.Object (object 3))
    ∷ plain (codes "by") (codes "7") ∷ container (codes "ints") (codes "int[2]") (Some 2) (things.Array (object 11))
    ∷ plain (codes "i") (codes "9") ∷ plain (codes "id") (codes "\"hides\"") ∷ []))
unfolding chars encode lossy lossy_after is_utf8 digits quote
locals = refl

locals_behind : world_children behind false (things.Locals (frame_at 37)) Both 1 0
    ≡ Some (found.Variables (plain (codes "by") (codes "7")
    ∷ container (codes "ints") (codes "int[2]") (Some 2) (things.Array (object 11))
    ∷ plain (codes "i") (codes "9") ∷ []))
unfolding chars encode lossy lossy_after is_utf8 digits quote
locals_behind = refl

fields : world_children inner false (things.Object (object 3)) Both 0 0
    ≡ Some (found.Variables (plain (codes "id") (codes "30")
    ∷ container (codes "weights") (codes "int[3]") (Some 3) (things.Array (object 6))
    ∷ plain (codes "nothing") (codes "null") ∷ plain (codes "id@com.acme.Shape") (codes "3")
    ∷ plain (codes "name") (codes "\"shape\"") ∷ []))
unfolding chars encode lossy lossy_after is_utf8 digits quote
fields = refl

abbrev name : List ℕ → Expr
name text = record { head = heads.Name text; steps = [] }

-- in the block the variable hides the field, behind it the field is named
hiding : world_value inner false (frame_at 29) (name (codes "id")) ≡ Some (found.Value (seen (codes "\"hides\"")))
unfolding chars encode lossy lossy_after is_utf8 digits quote
hiding = refl

not_hidden : world_value behind false (frame_at 37) (name (codes "id")) ≡ Some (found.Value (seen (codes "30")))
unfolding chars encode lossy lossy_after is_utf8 digits
not_hidden = refl

by_this : world_value inner false (frame_at 29)
    (record { head = heads.This; steps = hops.Field (codes "id") ∷ [] }) ≡ Some (found.Value (seen (codes "30")))
unfolding chars encode lossy lossy_after is_utf8 digits
by_this = refl

-- what is written to `i` is a `long`, as that of its own block
written : world_write inner (record { types = false; size = 8; text = codes "4294967296" }) (things.Locals (frame_at 29))
    (codes "i") ≡ Some (found.Write (record {
      store = stores.Slot main (record { 0 = 131072 }) (pos 3);
      value = values.Long (pos 4294967296);
      size = 8;
    }) (seen (codes "4294967296")))
unfolding chars encode lossy lossy_after is_utf8 digits write_value
written = refl

-- Edges ---------------------------------------------------------------------------------------------------------------

-- a page that begins at the end, and one that goes beyond it
at_end : world_children inner false (things.Array (object 6)) Both 3 2 ≡ Some (found.Variables [])
at_end = refl

over_end : world_children inner false (things.Array (object 6)) Indexed 2 5
    ≡ Some (found.Variables (plain (codes "[2]") (codes "3") ∷ []))
unfolding chars encode lossy lossy_after is_utf8 digits
over_end = refl

-- by a filter that leaves nothing nothing is asked, nor of null
no_named : world_children inner false (things.Array (object 77)) Named 0 0 ≡ Some (found.Variables [])
no_named = refl

no_indexed : world_children inner false (things.Object (object 77)) Indexed 0 0 ≡ Some (found.Variables [])
no_indexed = refl

of_null : world_children inner false (things.Object (object 0)) Both 0 0 ≡ Some (found.Variables [])
of_null = refl

-- Two of a name -------------------------------------------------------------------------------------------------------

-- Of two variables of one name that are both in scope, as no compiler of Java writes them, both are shown. The one in the
-- lower slot is meant, which is that of the outer block. (The Java Debug Interface means the one whose scope begins later.)
abbrev two_of_a_name : World
two_of_a_name = grown 29 (variable 29 (codes "i") (codes "Ljava/lang/String;") 8 5
    ∷ variable 25 (codes "i") (codes "J") 19 3 ∷ []) texts

both_shown : world_children two_of_a_name false (things.Locals (frame_at 29)) Both 1 0
    ≡ Some (found.Variables (plain (codes "i") (codes "9") ∷ plain (codes "i") (codes "\"hides\"") ∷ []))
unfolding chars encode lossy lossy_after is_utf8 digits quote
both_shown = refl

lower_meant : world_value two_of_a_name false (frame_at 29) (name (codes "i")) ≡ Some (found.Value (seen (codes "9")))
unfolding chars encode lossy lossy_after is_utf8 digits
lower_meant = refl

-- What is refused -----------------------------------------------------------------------------------------------------

-- the same without its strings, of which one is the value of a variable
abbrev bare : World
bare = grown 29 listed []

no_locals : world_children bare false (things.Locals (frame_at 29)) Both 0 0 ≡ None
no_locals = refl

gone : children_errors bare false (things.Locals (frame_at 29)) Both 0 0 ≡ 20 ∷ []
gone = refl

gone_value : why_no_value bare (frame_at 29) (name (codes "id")) ≡ 20
gone_value = refl

-- a page without that variable has no error
no_error : children_errors bare false (things.Locals (frame_at 29)) Both 0 4 ≡ []
unfolding chars encode lossy lossy_after is_utf8 digits quote
no_error = refl

-- a variable without a value in its slot
no_slot : children_errors (grown 29 (variable 0 (codes "lost") (codes "I") 44 4 ∷ listed) texts) false
    (things.Locals (frame_at 29)) Both 0 0 ≡ 99 ∷ []
no_slot = refl

-- an object that is taken for an array
no_array : why_no_children inner (things.Array (object 3)) ≡ 99
no_array = refl

-- a thread that has ended
abbrev lost : Thing
lost = things.Locals (record { thread = record { 0 = 4 }; frame = record { 0 = 131072 }; at = place grow 29 })

ended : why_no_children inner lost ≡ 10
ended = refl

-- the client is told that there is no such thread, or which error the target had
told_ended : refusal (why_no_children inner lost) ≡ unknown_thread
told_ended = refl

told_gone : refusal (why_no_value bare (frame_at 29) (name (codes "id"))) ≡ target_error 20
told_gone = refl
