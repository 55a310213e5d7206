-- What is printed of a row has no float, but for what a request's arguments have.
use Rattle.std.proofs.Common.{◌≡◌, ℕ, ℤ, pos, negsuc, Bool, true, false, ◌||◌, List, [], ◌∷◌, Option, Some, None, map}
use Rattle.std.proofs.Common.{refl, ap, ◌∙◌, codes}
use Rattle.std.specs.Int.{w64, cast_signed}
use Rattle.serde_json.specs.Data.{Data, string}
use Rattle.serde_json.specs.Find.{of_integer, is_float}
use Rattle.serde_json.specs.View.{items_of}
use Rattle.serde_json.specs.Written.{has_float, items_have_float}
use Rattle.jdwp_values.specs.declared.class.Line.{Line}
use Rattle.jdwp_values.specs.declared.value.Value.{Value}
use Rattle.jdwp_values.specs.declared.value.Value.TheVariants as values
use Rattle.slot_values.specs.declared.slot.SlotValue.{SlotValue}
use Rattle.world_model.specs.declared.moves.Move.{Move}
use Rattle.world_model.specs.declared.moves.Move.TheVariants as moves
use Rattle.script_rows.specs.declared.rows.Row.{Row}
use Rattle.script_rows.specs.declared.rows.Row.TheVariants as rows
use Rattle.script_rows.specs.declared.script.Turn.{Turn}
use Rattle.script_rows.specs.declared.script.Turn.TheVariants as turns
use Rattle.line_elements.specs.declared.version.Version.TheVariants.{First, Second}
use Rattle.line_elements.specs.Numbers.{natural_data, text_or_null_data}
use Rattle.line_elements.specs.Values.{told_data, value_data, slot_data, line_data, lines_data}
use Rattle.line_elements.specs.Parts.{Part, natural, int, long, index, text, text_or_null, word, truth, class_tag}
use Rattle.line_elements.specs.Parts.{object_tag}
use Rattle.line_elements.specs.Parts.{policy, side, value, values as value_list, slots, lines, arguments, version, Of}
use Rattle.line_elements.specs.Parts.{part_data, Holds, row_data}
use Rattle.script_rows.specs.Plain.{IsPlainTurn, IsPlain}
use Rattle.script_rows.specs.Printing.{move_data, turn_data, data_of, sizes_data}
use Rattle.script_rows.specs.Rows.{id, class_parts, method_parts, variable_parts, field_parts, object_parts, array_parts}
use Rattle.script_rows.specs.Rows.{string_parts, put_parts, thread_parts, frame_parts, begin_parts, at_parts, call_parts}
use Rattle.script_rows.specs.Rows.{prepare_parts, throw_parts, bytes_parts, serve_parts}

neither : (a b : Bool) → a ≡ false → b ≡ false → (a || b) ≡ false
neither a b p q = rw (p, q) refl

integer_plain : (z : ℤ) → is_float (of_integer z) ≡ false
integer_plain (pos n) = refl
integer_plain (negsuc n) = refl

number_plain : (v : Value) → has_float (told_data v) ≡ false
number_plain (values.Byte z) = integer_plain z
number_plain (values.Char n) = refl
number_plain (values.Double n) = refl
number_plain (values.Float n) = refl
number_plain (values.Int z) = integer_plain z
number_plain (values.Long z) = integer_plain z
number_plain (values.Short z) = integer_plain z
number_plain (values.Boolean n) = refl
number_plain values.Void = refl
number_plain (values.Object n) = refl
number_plain (values.Array n) = refl
number_plain (values.String n) = refl
number_plain (values.Thread n) = refl
number_plain (values.ThreadGroup n) = refl
number_plain (values.ClassLoader n) = refl
number_plain (values.ClassObject n) = refl

value_plain : (v : Value) → has_float (value_data v) ≡ false
value_plain v = neither (has_float (told_data v)) false (number_plain v) refl

slot_plain : (s : SlotValue) → has_float (slot_data s) ≡ false
slot_plain s =
    neither (is_float (of_integer s.slot)) (has_float (value_data s.value) || false) (integer_plain s.slot)
    (neither (has_float (value_data s.value)) false (value_plain s.value) refl)

line_plain : (l : Line) → has_float (line_data l) ≡ false
line_plain l = neither (is_float (of_integer l.line)) false (integer_plain l.line) refl

list_plain : {A : Type 0} (write : A → Data) → ((x : A) → has_float (write x) ≡ false) → (xs : List A) →
    items_have_float (items_of (map write xs)) ≡ false
list_plain write plain [] = refl
list_plain write plain (x ∷ xs) =
    neither (has_float (write x)) (items_have_float (items_of (map write xs))) (plain x) (list_plain write plain xs)

lines_plain : (ls : Option (List Line)) → has_float (lines_data ls) ≡ false
lines_plain None = refl
lines_plain (Some ls) = list_plain line_data line_plain ls

text_or_null_plain : (s : Option (List ℕ)) → has_float (text_or_null_data s) ≡ false
text_or_null_plain None = refl
text_or_null_plain (Some s) = refl

abbrev IsNoArguments : Part → Type 0
IsNoArguments (natural least bound) = Unit {0}
IsNoArguments int = Unit {0}
IsNoArguments long = Unit {0}
IsNoArguments index = Unit {0}
IsNoArguments text = Unit {0}
IsNoArguments text_or_null = Unit {0}
IsNoArguments word = Unit {0}
IsNoArguments truth = Unit {0}
IsNoArguments class_tag = Unit {0}
IsNoArguments object_tag = Unit {0}
IsNoArguments policy = Unit {0}
IsNoArguments side = Unit {0}
IsNoArguments (value v) = Unit {0}
IsNoArguments (value_list v) = Unit {0}
IsNoArguments (slots v) = Unit {0}
IsNoArguments lines = Unit {0}
IsNoArguments arguments = ⊥
IsNoArguments version = Unit {0}

part_plain : (p : Part) → IsNoArguments p → (v : Of p) → has_float (part_data p v) ≡ false
part_plain (natural least bound) other v = refl
part_plain int other v = integer_plain v
part_plain long other v = integer_plain v
part_plain index other v = integer_plain (cast_signed w64 v)
part_plain text other v = refl
part_plain text_or_null other v = text_or_null_plain v
part_plain word other v = refl
part_plain truth other v = refl
part_plain class_tag other v = refl
part_plain object_tag other v = refl
part_plain policy other v = refl
part_plain side other v = refl
part_plain (value s) other v = value_plain v
part_plain (value_list s) other v = list_plain value_data value_plain v
part_plain (slots s) other v = list_plain slot_data slot_plain v
part_plain lines other v = lines_plain v
part_plain arguments other v = absurd other
part_plain version other None = refl
part_plain version other (Some First) = refl
part_plain version other (Some Second) = refl

abbrev HasNoArguments : List Part → Type 0
HasNoArguments [] = Unit {0}
HasNoArguments (p ∷ row) = IsNoArguments p × HasNoArguments row

row_plain : (row : List Part) → HasNoArguments row → (held : Holds row) →
    items_have_float (items_of (row_data row held)) ≡ false
row_plain [] others held = refl
row_plain (p ∷ row) others held =
    neither (has_float (part_data p held.0)) (items_have_float (items_of (row_data row held.1)))
    (part_plain p others.0 held.0)
    (row_plain row others.1 held.1)

move_plain : (m : Move) → has_float (move_data m) ≡ false
move_plain (moves.At thread place given) = row_plain (at_parts Second) (tt, (tt, (tt, tt))) (thread.0, (place, (given, tt)))
move_plain (moves.Call thread frame class method place this given) =
    row_plain (call_parts Second) (tt, (tt, (tt, (tt, (tt, (tt, (tt, tt)))))))
    (thread.0, (frame.0, (class.0, (method.0, (place, (this.0, (given, tt)))))))
move_plain (moves.Return thread) = refl
move_plain (moves.Prepare class thread) = refl
move_plain (moves.Throw thread object class method place) = refl
move_plain (moves.Start thread name) = refl
move_plain (moves.Die thread) = refl
move_plain (moves.Store object field v) =
    row_plain (put_parts Second) (tt, (tt, (tt, tt))) (object.0, (field.0, (v, tt)))
move_plain moves.Death = refl

turn_plain : (t : Turn) → IsPlainTurn t → has_float (turn_data t) ≡ false
turn_plain (turns.Ask command args) plain = neither (has_float args) false plain refl
turn_plain (turns.Client n) plain = refl
turn_plain (turns.Target n) plain = refl
turn_plain (turns.Serve n) plain = refl
turn_plain turns.Move plain = refl
turn_plain turns.Settle plain = refl
turn_plain turns.Deliver plain = refl
turn_plain (turns.Shut s) plain = refl

pub row_has_no_float : (row : Row) → IsPlain row → has_float (data_of row) ≡ false
row_has_no_float (rows.Head None) plain = refl
row_has_no_float (rows.Head (Some First)) plain = refl
row_has_no_float (rows.Head (Some Second)) plain = refl
row_has_no_float (rows.Sizes sizes) plain = list_plain natural_data (λ n. refl) sizes
row_has_no_float (rows.Limits turns quiet waiting) plain = refl
row_has_no_float (rows.Class c) plain =
    row_plain class_parts (tt, (tt, (tt, (tt, (tt, (tt, tt))))))
    (c.id.0, (c.tag, (c.signature, (c.source, (c.above.0, (c.prepared, tt))))))
row_has_no_float (rows.Method m) plain =
    row_plain method_parts (tt, (tt, (tt, (tt, (tt, (tt, (tt, (tt, tt)))))))) (
      m.class.0,
      (
        m.method.id.0,
        (
          m.method.name,
          (
            m.method.signature,
            (
              m.method.bits,
              (m.start, (m.end, (m.lines, tt))),
            ),
          ),
        ),
      ),
    )
row_has_no_float (rows.Variable v) plain =
    row_plain variable_parts (tt, (tt, (tt, (tt, (tt, (tt, (tt, tt))))))) (
      v.class.0,
      (
        v.method.0,
        (
          v.variable.index,
          (
            v.variable.length,
            (
              v.variable.name,
              (v.variable.signature, (v.variable.slot, tt)),
            ),
          ),
        ),
      ),
    )
row_has_no_float (rows.Field f) plain =
    row_plain field_parts (tt, (tt, (tt, (tt, (tt, tt)))))
    (f.class.0, (f.field.id.0, (f.field.name, (f.field.signature, (f.field.bits, tt)))))
row_has_no_float (rows.Object o) plain = refl
row_has_no_float (rows.Array a) plain =
    row_plain (array_parts Second) (tt, (tt, (tt, tt))) (a.id.0, (a.class.0, (a.values, tt)))
row_has_no_float (rows.Text s) plain = refl
row_has_no_float (rows.Put p) plain =
    row_plain (put_parts Second) (tt, (tt, (tt, tt))) (p.object.0, (p.field.0, (p.value, tt)))
row_has_no_float (rows.Thread t) plain = refl
row_has_no_float (rows.Frame f) plain =
    row_plain (frame_parts Second) (tt, (tt, (tt, (tt, (tt, (tt, (tt, tt)))))))
    (f.thread.0, (f.id.0, (f.class.0, (f.method.0, (f.index, (f.this.0, (f.slots, tt)))))))
row_has_no_float (rows.Begin b) plain = refl
row_has_no_float (rows.Move m) plain = move_plain m
row_has_no_float (rows.Turn t) plain = turn_plain t plain
row_has_no_float rows.End plain = refl
