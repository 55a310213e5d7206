-- How a world shows a value: its text, its type where the client asked for types, and what children it has (DAP
-- specification, Types, Variable).
use Rattle.std.specs.Prelude.{ℕ, ◌++◌, ◌∷◌, nat_lt, Bool, true, false, if◌then◌else◌, List, [], chars, codes, length}
use Rattle.std.specs.Prelude.{take, Option, Some, None, option_and_then, option_map}
use Rattle.std.specs.Fmt.{digits}
use Rattle.std.specs.List.{flat_map}
use Rattle.jdwp_values.specs.Lossy.{lossy}
use Rattle.jdwp_values.specs.Parts.{tag_of_value}
use Rattle.jdwp_values.specs.Tags.{byte_of_tag}
use Rattle.jdwp_values.specs.declared.id.ObjectId.{ObjectId}
use Rattle.jdwp_values.specs.declared.value.Value.{Value}
use Rattle.jdwp_values.specs.declared.value.Value.TheVariants as values
use Rattle.machine_model.specs.declared.parts.Seen.{Seen}
use Rattle.shown_worlds.specs.Facts.{if_null, type_of}
use Rattle.stop_refs.specs.declared.thing.Thing.TheVariants as things
use Rattle.value_views.specs.Names.{class_name}
use Rattle.value_views.specs.Quotes.{quoted_char}
use Rattle.value_views.specs.Texts.{value_text, with_length}
use Rattle.value_views.specs.declared.known.Known.TheVariants.{Plain}
use Rattle.world_model.specs.Objects.{array_in, string_in}
use Rattle.world_model.specs.Storing.{referred}
use Rattle.world_model.specs.declared.rows.WorldArray.{WorldArray}
use Rattle.world_model.specs.declared.world.World.{World}

-- a value, and the signature of the place where it stands (JNI specification, Types and Data Structures, Type
-- Signatures)
pub record Placed : Type 0 where
  pub value : Value
  pub signature : Option (List ℕ)

-- the name of a type, where the client asked for types; nothing where it should be shown and isn't known (DAP
-- specification, Initialize request, supportsVariableType)
abbrev pub typed : Bool → Option (List ℕ) → Option (Option (List ℕ))
typed false signature = Some None
typed true signature = option_map (λ known. Some (class_name known)) signature

-- a value without children
abbrev pub leaf : List ℕ → Option (List ℕ) → Seen
leaf text kind = record { text = text; kind = kind; indexed = None; thing = None }

-- a value that is no reference; its type is that of its tag (JDWP, Constants, Tag)
abbrev pub plain : Bool → Value → Seen
plain types value = leaf (value_text value Plain)
    (if types then Some (class_name (byte_of_tag (tag_of_value value) ∷ [])) else None)

-- null; its type is that of its place
abbrev pub null_shown : Bool → Option (List ℕ) → Option Seen
null_shown types signature = option_map (leaf (codes "null")) (typed types signature)

-- so many characters of a string are shown
abbrev pub most_characters : ℕ
most_characters = 1000

-- characters in quotes, and dots where more of them follow
abbrev pub in_quotes : List ℕ → List ℕ
in_quotes text = codes "\"" ++ flat_map quoted_char (take most_characters text) ++ codes "\""
    ++ (if nat_lt most_characters (length text) then codes "..." else [])

-- a string: its text (JDWP, StringReference command set, Value)
abbrev pub string_shown : World → Bool → ObjectId → Option Seen
string_shown w types id = option_and_then
    (λ row. option_map (leaf (in_quotes (chars (lossy row.text)))) (typed types (type_of w id))) (string_in w id)

-- where the client asked for types, the name of one
abbrev pub type_if : Bool → List ℕ → Option (List ℕ)
type_if types signature = if types then Some (class_name signature) else None

-- an array: its type, with its length in the first brackets (JDWP, ArrayReference command set, Length)
abbrev pub array_seen : Bool → ObjectId → WorldArray → List ℕ → Seen
array_seen types id row signature = record {
  text = with_length (length row.values) (class_name signature);
  kind = type_if types signature;
  indexed = Some (length row.values);
  thing = Some (things.Array id);
}

abbrev pub array_shown : World → Bool → ObjectId → Option Seen
array_shown w types id =
    option_and_then (λ row. option_map (array_seen types id row) (type_of w id)) (array_in w id)

-- another object: the name of its class, and its id in hexadecimal digits
abbrev pub object_seen : Bool → ObjectId → List ℕ → Seen
object_seen types id signature = record {
  text = class_name signature ++ codes "@" ++ digits 16 false id.0;
  kind = type_if types signature;
  indexed = None;
  thing = Some (things.Object id);
}

abbrev pub object_shown : World → Bool → ObjectId → Option Seen
object_shown w types id = option_map (object_seen types id) (type_of w id)

-- an object by the tag of its value (JDWP, Constants, Tag)
abbrev pub reference_shown : World → Bool → Value → ObjectId → Option Seen
reference_shown w types (values.String o) id = string_shown w types id
reference_shown w types (values.Array o) id = array_shown w types id
reference_shown w types value id = object_shown w types id

abbrev pub shown_by : World → Bool → Placed → Option ObjectId → Option Seen
shown_by w types p None = Some (plain types p.value)
shown_by w types p (Some id) =
    if_null id.0 (null_shown types p.signature) (reference_shown w types p.value id)

-- a value as it is shown; nothing where it refers to what isn't there
abbrev pub shown : World → Bool → Placed → Option Seen
shown w types p = shown_by w types p (referred p.value)
