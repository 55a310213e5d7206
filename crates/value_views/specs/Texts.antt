-- Values as texts (JDWP, Detailed Command Information, common data types, value; Constants, Tag).
use Rattle.std.specs.Prelude.{ℕ, List, [], ◌∷◌, ◌++◌, ◌==◌, codes, decimal, nat_eq, false, if◌then◌else◌}
use Rattle.std.specs.Fmt.{digits, signed_decimal}
use Rattle.std.specs.List.{starts_with}
use Rattle.jdwp_values.specs.declared.value.Value.{Value}
use Rattle.jdwp_values.specs.declared.value.Value.TheVariants as values
use Rattle.value_views.specs.declared.known.Known.{Known}
use Rattle.value_views.specs.declared.known.Known.TheVariants as knowns
use Rattle.value_views.specs.Names.{class_name}
use Rattle.value_views.specs.Quotes.{char_text, hexadecimal, quote}

-- a truth value, by its byte
abbrev pub truth_text : ℕ → List ℕ
truth_text byte = if byte == 0 then codes "false" else codes "true"

-- a length inside the first brackets of a type's name; behind a name that has none
abbrev pub with_length : ℕ → List ℕ → List ℕ
with_length n [] = codes "[" ++ decimal n ++ codes "]"
with_length n (byte ∷ bytes) =
    if starts_with nat_eq (byte ∷ bytes) (codes "[]") then codes "[" ++ decimal n ++ bytes
    else byte ∷ with_length n bytes

-- an object by its class and its id, an array by its class and its length, a string by its text
abbrev pub known_text : ℕ → Known → List ℕ
known_text id knowns.Plain = codes "@" ++ digits 16 false id
known_text id (knowns.Object signature) = class_name signature ++ codes "@" ++ digits 16 false id
known_text id (knowns.Array signature len) = with_length len (class_name signature)
known_text id (knowns.Text bytes) = quote bytes

-- a reference, by its id and what is known of it
abbrev pub reference_text : ℕ → Known → List ℕ
reference_text id known = if id == 0 then codes "null" else known_text id known

-- a value, with what is known of it where it is a reference
abbrev pub value_text : Value → Known → List ℕ
value_text (values.Byte n) known = signed_decimal n
value_text (values.Char n) known = char_text n
value_text (values.Double bits) known = codes "double:0x" ++ hexadecimal 16 bits
value_text (values.Float bits) known = codes "float:0x" ++ hexadecimal 8 bits
value_text (values.Int n) known = signed_decimal n
value_text (values.Long n) known = signed_decimal n
value_text (values.Short n) known = signed_decimal n
value_text (values.Boolean byte) known = truth_text byte
value_text values.Void known = codes "void"
value_text (values.Object o) known = reference_text o.0 known
value_text (values.Array o) known = reference_text o.0 known
value_text (values.String o) known = reference_text o.0 known
value_text (values.Thread o) known = reference_text o.0 known
value_text (values.ThreadGroup o) known = reference_text o.0 known
value_text (values.ClassLoader o) known = reference_text o.0 known
value_text (values.ClassObject o) known = reference_text o.0 known
