-- The rows that tell what a class is made of.
use Rattle.std.specs.Prelude.{[], ◌∷◌}
use Rattle.jdwp_values.specs.declared.class.Method.{Method}
use Rattle.jdwp_values.specs.declared.class.Field.{Field}
use Rattle.jdwp_values.specs.declared.class.Line.{Line}
use Rattle.jdwp_values.specs.declared.class.Variable.{Variable}
use Rattle.jdwp_values.specs.Parts.{int, index, number, method, field, text}
use Rattle.jdwp_values.specs.Rows.{RowOf}

-- a method (JDWP, ReferenceType command set, Methods)
abbrev pub method_row : RowOf Method
method_row = record {
  parts = method ∷ text ∷ text ∷ int ∷ [];
  make = λ id name signature bits. record { id = id; name = name; signature = signature; bits = bits };
  values = λ m. (m.id, (m.name, (m.signature, (m.bits, tt))));
}

-- a field (JDWP, ReferenceType command set, Fields)
abbrev pub field_row : RowOf Field
field_row = record {
  parts = field ∷ text ∷ text ∷ int ∷ [];
  make = λ id name signature bits. record { id = id; name = name; signature = signature; bits = bits };
  values = λ f. (f.id, (f.name, (f.signature, (f.bits, tt))));
}

-- a line, with the index of its first code (JDWP, Method command set, LineTable)
abbrev pub line_row : RowOf Line
line_row = record {
  parts = index ∷ int ∷ [];
  make = λ index line. record { index = index; line = line };
  values = λ l. (l.index, (l.line, tt));
}

-- a variable, whose length has no sign (JDWP, Method command set, VariableTable)
abbrev pub variable_row : RowOf Variable
variable_row = record {
  parts = index ∷ text ∷ text ∷ number ∷ int ∷ [];
  make = λ index name signature len slot.
      record { index = index; name = name; signature = signature; length = len; slot = slot };
  values = λ v. (v.index, (v.name, (v.signature, (v.length, (v.slot, tt)))));
}
