-- The JSON value of a row, as it is printed: in the second version.
use Rattle.std.specs.Prelude.{ℕ, List, [], ◌∷◌, map, codes, Option}
use Rattle.serde_json.specs.Data.{Data, string}
use Rattle.world_model.specs.declared.rows.WorldClass.{WorldClass}
use Rattle.world_model.specs.declared.rows.WorldMethod.{WorldMethod}
use Rattle.world_model.specs.declared.rows.WorldVariable.{WorldVariable}
use Rattle.world_model.specs.declared.rows.WorldField.{WorldField}
use Rattle.world_model.specs.declared.rows.WorldObject.{WorldObject}
use Rattle.world_model.specs.declared.rows.WorldArray.{WorldArray}
use Rattle.world_model.specs.declared.rows.WorldString.{WorldString}
use Rattle.world_model.specs.declared.rows.WorldThread.{WorldThread}
use Rattle.world_model.specs.declared.rows.WorldFrame.{WorldFrame}
use Rattle.world_model.specs.declared.rows.Put.{Put}
use Rattle.world_model.specs.declared.moves.Move.{Move}
use Rattle.world_model.specs.declared.moves.Move.TheVariants as moves
use Rattle.script_rows.specs.declared.rows.Row.{Row}
use Rattle.script_rows.specs.declared.rows.Row.TheVariants as rows
use Rattle.script_rows.specs.declared.script.Begin.{Begin}
use Rattle.script_rows.specs.declared.script.Turn.{Turn}
use Rattle.script_rows.specs.declared.script.Turn.TheVariants as turns
use Rattle.line_elements.specs.Numbers.{natural_data}
use Rattle.line_elements.specs.Values.{array_of}
use Rattle.line_elements.specs.Parts.{Part, version, side, Holds, row_data}
use Rattle.line_elements.specs.declared.version.Version.{Version}
use Rattle.line_elements.specs.declared.version.Version.TheVariants.{Second}
use Rattle.script_rows.specs.Rows.{id, limits_parts, class_parts, method_parts, variable_parts, field_parts, object_parts, array_parts}
use Rattle.script_rows.specs.Rows.{string_parts, put_parts, thread_parts, frame_parts, begin_parts, at_parts, call_parts}
use Rattle.script_rows.specs.Rows.{prepare_parts, throw_parts, ask_parts, bytes_parts, serve_parts}

-- a name, and the parts behind it
abbrev pub named : List ℕ → (row : List Part) → Holds row → Data
named name row held = array_of (string name ∷ row_data row held)

abbrev pub head_data : Option Version → Data
head_data told = named (codes "script") (version ∷ []) (told, tt)

abbrev pub sizes_data : List ℕ → Data
sizes_data sizes = array_of (string (codes "sizes") ∷ map natural_data sizes)

abbrev pub limits_data : ℕ → ℕ → ℕ → Data
limits_data turns quiet waiting = named (codes "limits") limits_parts (turns, (quiet, (waiting, tt)))

abbrev pub class_data : WorldClass → Data
class_data c = named (codes "class") class_parts (c.id.0, (c.tag, (c.signature, (c.source, (c.above.0, (c.prepared, tt))))))

abbrev pub method_data : WorldMethod → Data
method_data m = named (codes "method") method_parts (
  m.class.0,
  (
    m.method.id.0,
    (
      m.method.name,
      (m.method.signature, (m.method.bits, (m.start, (m.end, (m.lines, tt))))),
    ),
  ),
)

abbrev pub variable_data : WorldVariable → Data
variable_data v = named (codes "variable") variable_parts (
  v.class.0,
  (
    v.method.0,
    (
      v.variable.index,
      (v.variable.length, (v.variable.name, (v.variable.signature, (v.variable.slot, tt)))),
    ),
  ),
)

abbrev pub field_data : WorldField → Data
field_data f = named (codes "field") field_parts (
  f.class.0,
  (
    f.field.id.0,
    (
      f.field.name,
      (
        f.field.signature,
        (f.field.bits, tt),
      ),
    ),
  ),
)

abbrev pub object_data : WorldObject → Data
object_data o = named (codes "object") object_parts (o.id.0, (o.tag, (o.class.0, tt)))

abbrev pub array_data : WorldArray → Data
array_data a = named (codes "array") (array_parts Second) (a.id.0, (a.class.0, (a.values, tt)))

abbrev pub string_data : WorldString → Data
string_data s = named (codes "string") string_parts (s.id.0, (s.class.0, (s.text, tt)))

abbrev pub put_data : Put → Data
put_data p = named (codes "put") (put_parts Second) (p.object.0, (p.field.0, (p.value, tt)))

abbrev pub thread_data : WorldThread → Data
thread_data t = named (codes "thread") thread_parts (t.id.0, (t.name, tt))

abbrev pub frame_data : WorldFrame → Data
frame_data f = named (codes "frame") (frame_parts Second) (
  f.thread.0,
  (
    f.id.0,
    (
      f.class.0,
      (
        f.method.0,
        (
          f.index,
          (
            f.this.0,
            (f.slots, tt),
          ),
        ),
      ),
    ),
  ),
)

abbrev pub begin_data : Begin → Data
begin_data b = named (codes "begin") begin_parts (b.thread.0, (b.policy, tt))

abbrev pub move_data : Move → Data
move_data (moves.At thread index slots) = named (codes "at") (at_parts Second) (thread.0, (index, (slots, tt)))
move_data (moves.Call thread frame class method index this slots) =
    named (codes "call") (call_parts Second) (thread.0, (frame.0, (class.0, (method.0, (index, (this.0, (slots, tt)))))))
move_data (moves.Return thread) = named (codes "return") (id ∷ []) (thread.0, tt)
move_data (moves.Prepare class thread) = named (codes "prepare") prepare_parts (class.0, (thread.0, tt))
move_data (moves.Throw thread object class method index) =
    named (codes "throw") throw_parts (thread.0, (object.0, (class.0, (method.0, (index, tt)))))
move_data (moves.Start thread name) = named (codes "start") thread_parts (thread.0, (name, tt))
move_data (moves.Die thread) = named (codes "die") (id ∷ []) (thread.0, tt)
move_data (moves.Store object field value) = named (codes "store") (put_parts Second) (object.0, (field.0, (value, tt)))
move_data moves.Death = named (codes "death") [] tt

abbrev pub turn_data : Turn → Data
turn_data (turns.Ask command arguments) = named (codes "ask") ask_parts (command, (arguments, tt))
turn_data (turns.Client n) = named (codes "client") bytes_parts (n, tt)
turn_data (turns.Target n) = named (codes "target") bytes_parts (n, tt)
turn_data (turns.Serve n) = named (codes "serve") serve_parts (n, tt)
turn_data turns.Move = named (codes "move") [] tt
turn_data turns.Settle = named (codes "settle") [] tt
turn_data turns.Deliver = named (codes "deliver") [] tt
turn_data (turns.Shut s) = named (codes "shut") (side ∷ []) (s, tt)

-- the value of a row, in a script of the second version
abbrev pub data_of : Row → Data
data_of (rows.Head told) = head_data told
data_of (rows.Sizes sizes) = sizes_data sizes
data_of (rows.Limits turns quiet waiting) = limits_data turns quiet waiting
data_of (rows.Class c) = class_data c
data_of (rows.Method m) = method_data m
data_of (rows.Variable v) = variable_data v
data_of (rows.Field f) = field_data f
data_of (rows.Object o) = object_data o
data_of (rows.Array a) = array_data a
data_of (rows.Text s) = string_data s
data_of (rows.Put p) = put_data p
data_of (rows.Thread t) = thread_data t
data_of (rows.Frame f) = frame_data f
data_of (rows.Begin b) = begin_data b
data_of (rows.Move m) = move_data m
data_of (rows.Turn t) = turn_data t
data_of rows.End = named (codes "end") [] tt
