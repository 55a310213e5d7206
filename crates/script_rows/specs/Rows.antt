-- The lines of a script: for each name the parts that stand behind it, and the row that they make.
use Rattle.std.specs.Prelude.{ℕ, ◌+◌, ◌^◌, List, [], ◌∷◌, codes, bytes_eq, if◌then◌else◌, Option, Some, None}
use Rattle.std.specs.Prelude.{option_map, option_and_then}
use Rattle.serde_json.specs.Data.{Data, Items, no_items, item}
use Rattle.serde_json.specs.Find.{as_array, as_str}
use Rattle.world_model.specs.declared.rows.WorldClass.{WorldClass}
use Rattle.world_model.specs.declared.rows.WorldMethod.{WorldMethod}
use Rattle.world_model.specs.declared.rows.WorldVariable.{WorldVariable}
use Rattle.world_model.specs.declared.rows.WorldField.{WorldField}
use Rattle.world_model.specs.declared.rows.WorldObject.{WorldObject}
use Rattle.world_model.specs.declared.rows.WorldArray.{WorldArray}
use Rattle.world_model.specs.declared.rows.WorldString.{WorldString}
use Rattle.world_model.specs.declared.rows.WorldThread.{WorldThread}
use Rattle.world_model.specs.declared.rows.WorldFrame.{WorldFrame}
use Rattle.world_model.specs.declared.rows.Put.{Put}
use Rattle.world_model.specs.declared.moves.Move.{Move}
use Rattle.world_model.specs.declared.moves.Move.TheVariants as moves
use Rattle.script_rows.specs.declared.kinds.Kind.{Kind}
use Rattle.script_rows.specs.declared.kinds.Kind.TheVariants as kinds
use Rattle.script_rows.specs.declared.kinds.WorldKind.{WorldKind}
use Rattle.script_rows.specs.declared.kinds.WorldKind.TheVariants as world
use Rattle.script_rows.specs.declared.kinds.MoveKind.{MoveKind}
use Rattle.script_rows.specs.declared.kinds.MoveKind.TheVariants as move
use Rattle.script_rows.specs.declared.kinds.TurnKind.{TurnKind}
use Rattle.script_rows.specs.declared.kinds.TurnKind.TheVariants as turn
use Rattle.script_rows.specs.declared.rows.Row.{Row}
use Rattle.script_rows.specs.declared.rows.Row.TheVariants as rows
use Rattle.script_rows.specs.declared.script.Begin.{Begin}
use Rattle.script_rows.specs.declared.script.Turn.{Turn}
use Rattle.script_rows.specs.declared.script.Turn.TheVariants as turns
use Rattle.line_elements.specs.declared.version.Version.{Version}
use Rattle.line_elements.specs.declared.version.Version.TheVariants.{First, Second}
use Rattle.line_elements.specs.Parts.{Part, natural, int, long, index, text, text_or_null, word, truth, class_tag}
use Rattle.line_elements.specs.Parts.{object_tag}
use Rattle.line_elements.specs.Parts.{policy, side, value, values, slots, lines, arguments}
use Rattle.line_elements.specs.Parts.{version as version_part, From, row_at}

-- ---- names

abbrev pub world_kind : List ℕ → Option WorldKind
world_kind name =
    if bytes_eq name (codes "script") then Some world.Script else
    (if bytes_eq name (codes "sizes") then Some world.Sizes else
    (if bytes_eq name (codes "limits") then Some world.Limits else
    (if bytes_eq name (codes "class") then Some world.Class else
    (if bytes_eq name (codes "method") then Some world.Method else
    (if bytes_eq name (codes "variable") then Some world.Variable else
    (if bytes_eq name (codes "field") then Some world.Field else
    (if bytes_eq name (codes "object") then Some world.Object else
    (if bytes_eq name (codes "array") then Some world.Array else
    (if bytes_eq name (codes "string") then Some world.String else
    (if bytes_eq name (codes "put") then Some world.Put else
    (if bytes_eq name (codes "thread") then Some world.Thread else
    (if bytes_eq name (codes "frame") then Some world.Frame else
    (if bytes_eq name (codes "begin") then Some world.Begin else
    (if bytes_eq name (codes "end") then Some world.End else None))))))))))))))

abbrev pub move_kind : List ℕ → Option MoveKind
move_kind name =
    if bytes_eq name (codes "at") then Some move.At else
    (if bytes_eq name (codes "call") then Some move.Call else
    (if bytes_eq name (codes "return") then Some move.Return else
    (if bytes_eq name (codes "prepare") then Some move.Prepare else
    (if bytes_eq name (codes "throw") then Some move.Throw else
    (if bytes_eq name (codes "start") then Some move.Start else
    (if bytes_eq name (codes "die") then Some move.Die else
    (if bytes_eq name (codes "store") then Some move.Store else
    (if bytes_eq name (codes "death") then Some move.Death else None))))))))

abbrev pub turn_kind : List ℕ → Option TurnKind
turn_kind name =
    if bytes_eq name (codes "ask") then Some turn.Ask else
    (if bytes_eq name (codes "client") then Some turn.Client else
    (if bytes_eq name (codes "target") then Some turn.Target else
    (if bytes_eq name (codes "serve") then Some turn.Serve else
    (if bytes_eq name (codes "move") then Some turn.Move else
    (if bytes_eq name (codes "settle") then Some turn.Settle else
    (if bytes_eq name (codes "deliver") then Some turn.Deliver else
    (if bytes_eq name (codes "shut") then Some turn.Shut else None)))))))

-- the first kind that there is
abbrev pub first_kind : Option WorldKind → Option MoveKind → Option TurnKind → Option Kind
first_kind (Some kind) m t = Some (kinds.World kind)
first_kind None (Some kind) t = Some (kinds.Move kind)
first_kind None None (Some kind) = Some (kinds.Turn kind)
first_kind None None None = None

unfoldable pub kind_of : List ℕ → Option Kind
kind_of name = first_kind (world_kind name) (move_kind name) (turn_kind name)

-- ---- parts

-- an id, and an id or a number that is 0 where there is none
abbrev pub id : Part
id = natural 1 (2 ^ 63)

abbrev pub id_or_none : Part
id_or_none = natural 0 (2 ^ 63)

-- a number of bytes that an id takes
abbrev pub size : Part
size = natural 1 9

abbrev pub sizes_parts : List Part
sizes_parts = size ∷ size ∷ size ∷ size ∷ size ∷ []

-- the happenings that a session takes, its waits in vain in a row and its waiting items
abbrev pub limits_parts : List Part
limits_parts = natural 1 (2 ^ 40 + 1) ∷ natural 1 (2 ^ 63) ∷ natural 1 (2 ^ 32) ∷ []

abbrev pub class_parts : List Part
class_parts = id ∷ class_tag ∷ text ∷ text_or_null ∷ id_or_none ∷ truth ∷ []

abbrev pub method_parts : List Part
method_parts = id ∷ id ∷ text ∷ text ∷ int ∷ long ∷ long ∷ lines ∷ []

abbrev pub variable_parts : List Part
variable_parts = id ∷ id ∷ id_or_none ∷ natural 0 (2 ^ 32) ∷ text ∷ text ∷ int ∷ []

abbrev pub field_parts : List Part
field_parts = id ∷ id ∷ text ∷ text ∷ int ∷ []

abbrev pub object_parts : List Part
object_parts = id ∷ object_tag ∷ id ∷ []

abbrev pub array_parts : Version → List Part
array_parts version = id ∷ id ∷ values version ∷ []

abbrev pub string_parts : List Part
string_parts = id ∷ id ∷ text ∷ []

abbrev pub put_parts : Version → List Part
put_parts version = id ∷ id ∷ value version ∷ []

abbrev pub thread_parts : List Part
thread_parts = id ∷ text ∷ []

abbrev pub frame_parts : Version → List Part
frame_parts version = id ∷ id ∷ id ∷ id ∷ index ∷ id_or_none ∷ slots version ∷ []

abbrev pub begin_parts : List Part
begin_parts = id ∷ policy ∷ []

abbrev pub at_parts : Version → List Part
at_parts version = id ∷ index ∷ slots version ∷ []

abbrev pub call_parts : Version → List Part
call_parts version = id ∷ id ∷ id ∷ id ∷ index ∷ id_or_none ∷ slots version ∷ []

abbrev pub prepare_parts : List Part
prepare_parts = id ∷ id ∷ []

abbrev pub throw_parts : List Part
throw_parts = id ∷ id ∷ id_or_none ∷ id_or_none ∷ id_or_none ∷ []

abbrev pub ask_parts : List Part
ask_parts = word ∷ arguments ∷ []

-- at least one byte, and at most 65,536
abbrev pub bytes_parts : List Part
bytes_parts = natural 1 65537 ∷ []

abbrev pub serve_parts : List Part
serve_parts = natural 0 (2 ^ 32) ∷ []

-- ---- what they make

abbrev pub sizes_made : From sizes_parts Row
sizes_made = λ field method object class frame. rows.Sizes (field ∷ method ∷ object ∷ class ∷ frame ∷ [])

abbrev pub limits_made : From limits_parts Row
limits_made = λ turns quiet waiting. rows.Limits turns quiet waiting

abbrev pub class_made : From class_parts WorldClass
class_made = λ id tag signature source above prepared. record {
  id = record { 0 = id };
  tag = tag;
  signature = signature;
  source = source;
  above = record { 0 = above };
  prepared = prepared;
}

abbrev pub method_made : From method_parts WorldMethod
method_made = λ class id name signature bits start end lines. record {
  class = record { 0 = class };
  method = record { id = record { 0 = id }; name = name; signature = signature; bits = bits };
  start = start;
  end = end;
  lines = lines;
}

abbrev pub variable_made : From variable_parts WorldVariable
variable_made = λ class method index len name signature slot. record {
  class = record { 0 = class };
  method = record { 0 = method };
  variable = record { index = index; name = name; signature = signature; length = len; slot = slot };
}

abbrev pub field_made : From field_parts WorldField
field_made = λ class id name signature bits. record {
  class = record { 0 = class };
  field = record { id = record { 0 = id }; name = name; signature = signature; bits = bits };
}

abbrev pub object_made : From object_parts WorldObject
object_made = λ id tag class. record { id = record { 0 = id }; tag = tag; class = record { 0 = class } }

abbrev pub array_made : (version : Version) → From (array_parts version) WorldArray
array_made version = λ id class values. record { id = record { 0 = id }; class = record { 0 = class }; values = values }

abbrev pub string_made : From string_parts WorldString
string_made = λ id class text. record { id = record { 0 = id }; class = record { 0 = class }; text = text }

abbrev pub put_made : (version : Version) → From (put_parts version) Put
put_made version = λ object field value. record { object = record { 0 = object }; field = record { 0 = field }; value = value }

abbrev pub thread_made : From thread_parts WorldThread
thread_made = λ id name. record { id = record { 0 = id }; name = name }

abbrev pub frame_made : (version : Version) → From (frame_parts version) WorldFrame
frame_made version = λ thread id class method index this slots. record {
  thread = record { 0 = thread };
  id = record { 0 = id };
  class = record { 0 = class };
  method = record { 0 = method };
  index = index;
  this = record { 0 = this };
  slots = slots;
}

abbrev pub begin_made : From begin_parts Begin
begin_made = λ thread policy. record { thread = record { 0 = thread }; policy = policy }

abbrev pub at_made : (version : Version) → From (at_parts version) Move
at_made version = λ thread index slots. moves.At (record { 0 = thread }) index slots

abbrev pub call_made : (version : Version) → From (call_parts version) Move
call_made version = λ thread frame class method index this slots.
    moves.Call (record { 0 = thread }) (record { 0 = frame }) (record { 0 = class }) (record { 0 = method }) index
    (record { 0 = this }) slots

abbrev pub throw_made : From throw_parts Move
throw_made = λ thread object class method index.
    moves.Throw (record { 0 = thread }) (record { 0 = object }) (record { 0 = class }) (record { 0 = method }) index

-- ---- rows

-- what is read, as a row
abbrev pub as_row : {A B : Type 0} → (A → B) → Option (A × Items) → Option (B × Items)
as_row wrap read = option_map (λ x. (wrap x.0, x.1)) read

-- limits stand in the second version alone
abbrev pub limits_row : Version → Items → Option (Row × Items)
limits_row First items = None
limits_row Second items = row_at limits_parts limits_made items

abbrev pub world_row : Version → WorldKind → Items → Option (Row × Items)
world_row version world.Script items = row_at (version_part ∷ []) (λ told. rows.Head told) items
world_row version world.Sizes items = row_at sizes_parts sizes_made items
world_row version world.Limits items = limits_row version items
world_row version world.Class items = as_row rows.Class (row_at class_parts class_made items)
world_row version world.Method items = as_row rows.Method (row_at method_parts method_made items)
world_row version world.Variable items = as_row rows.Variable (row_at variable_parts variable_made items)
world_row version world.Field items = as_row rows.Field (row_at field_parts field_made items)
world_row version world.Object items = as_row rows.Object (row_at object_parts object_made items)
world_row version world.Array items = as_row rows.Array (row_at (array_parts version) (array_made version) items)
world_row version world.String items = as_row rows.Text (row_at string_parts string_made items)
world_row version world.Put items = as_row rows.Put (row_at (put_parts version) (put_made version) items)
world_row version world.Thread items = as_row rows.Thread (row_at thread_parts thread_made items)
world_row version world.Frame items = as_row rows.Frame (row_at (frame_parts version) (frame_made version) items)
world_row version world.Begin items = as_row rows.Begin (row_at begin_parts begin_made items)
world_row version world.End items = Some (rows.End, items)

abbrev pub move_of : Version → MoveKind → Items → Option (Move × Items)
move_of version move.At items = row_at (at_parts version) (at_made version) items
move_of version move.Call items = row_at (call_parts version) (call_made version) items
move_of version move.Return items = row_at (id ∷ []) (λ thread. moves.Return (record { 0 = thread })) items
move_of version move.Prepare items =
    row_at prepare_parts (λ class thread. moves.Prepare (record { 0 = class }) (record { 0 = thread })) items
move_of version move.Throw items = row_at throw_parts throw_made items
move_of version move.Start items =
    row_at thread_parts (λ thread name. moves.Start (record { 0 = thread }) name) items
move_of version move.Die items = row_at (id ∷ []) (λ thread. moves.Die (record { 0 = thread })) items
move_of version move.Store items =
    row_at (put_parts version)
    (λ object field value. moves.Store (record { 0 = object }) (record { 0 = field }) value) items
move_of version move.Death items = Some (moves.Death, items)

abbrev pub turn_of : TurnKind → Items → Option (Turn × Items)
turn_of turn.Ask items = row_at ask_parts (λ command arguments. turns.Ask command arguments) items
turn_of turn.Client items = row_at bytes_parts (λ n. turns.Client n) items
turn_of turn.Target items = row_at bytes_parts (λ n. turns.Target n) items
turn_of turn.Serve items = row_at serve_parts (λ n. turns.Serve n) items
turn_of turn.Move items = Some (turns.Move, items)
turn_of turn.Settle items = Some (turns.Settle, items)
turn_of turn.Deliver items = Some (turns.Deliver, items)
turn_of turn.Shut items = row_at (side ∷ []) (λ s. turns.Shut s) items

abbrev pub kind_row : Version → Kind → Items → Option (Row × Items)
kind_row version (kinds.World kind) items = world_row version kind items
kind_row version (kinds.Move kind) items = as_row rows.Move (move_of version kind items)
kind_row version (kinds.Turn kind) items = as_row rows.Turn (turn_of kind items)

-- nothing stands behind what was read
abbrev pub whole : Row → Items → Option Row
whole row no_items = Some row
whole row (item d ds) = None

-- the row of a kind, of all elements behind the name
unfoldable pub row_in : Version → Kind → Items → Option Row
row_in version kind items = option_and_then (λ x. whole x.0 x.1) (kind_row version kind items)

-- the row of these elements
abbrev pub row_of_items : Version → Items → Option Row
row_of_items version no_items = None
row_of_items version (item name items) =
    option_and_then (λ kind. row_in version kind items) (option_and_then kind_of (as_str name))

-- the row that a value is in a script of this version, where it is one
abbrev pub row_of : Version → Data → Option Row
row_of version d = option_and_then (row_of_items version) (as_array d)
