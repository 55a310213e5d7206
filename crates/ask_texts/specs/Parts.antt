-- The parts of a question's line, as they are read of its JSON values.
use Rattle.std.specs.Prelude.{ℕ, List, if◌then◌else◌, Option, Some, None, option_map, option_and_then}
use Rattle.std.specs.List.{list_all}
use Rattle.hex.specs.Hex.{decode_of}
use Rattle.jdwp_commands.specs.declared.listed.Slot.{Slot}
use Rattle.jdwp_values.specs.declared.id.FieldId.{FieldId}
use Rattle.line_elements.specs.Numbers.{int_of, natural_of}
use Rattle.line_elements.specs.Values.{list_of, pair_of}
use Rattle.script_text.specs.Rows.{decoded, is_lower_digit}
use Rattle.serde_json.specs.Data.{Data, Items, no_items, item}
use Rattle.serde_json.specs.Find.{as_number, as_str, as_u64}

-- an id: an integer of 64 bits
abbrev pub id_of : Data → Option ℕ
id_of d = option_and_then as_u64 (as_number d)

-- the bytes that a text is the lower-case hexadecimal of
abbrev pub bytes_of : List ℕ → Option (List ℕ)
bytes_of text = if list_all is_lower_digit text then decoded (decode_of text) else None

abbrev pub bytes_in : Data → Option (List ℕ)
bytes_in d = option_and_then bytes_of (as_str d)

-- an id of a field
abbrev pub field_in : Data → Option FieldId
field_in d = option_map (λ n. record { 0 = n }) (id_of d)

-- a slot, and the byte of its tag
abbrev pub slot_in : Data → Data → Option Slot
slot_in slot tag =
    option_and_then (λ n. option_map (λ byte. record { slot = n; tag = byte }) (natural_of 0 256 tag)) (int_of slot)

abbrev pub slot_of : Data → Option Slot
slot_of d = option_and_then (λ pair. slot_in pair.0 pair.1) (pair_of d)

-- Elements ------------------------------------------------------------------------------------------------------------

-- no element
abbrev pub nothing_in : {A : Type 0} → A → Items → Option A
nothing_in x no_items = Some x
nothing_in x (item d ds) = None

-- the only element
abbrev pub only_of : Items → Option Data
only_of no_items = None
only_of (item d no_items) = Some d
only_of (item d (item e ds)) = None

-- three elements
abbrev pub three_of : Items → Option (Data × (Data × Data))
three_of no_items = None
three_of (item a no_items) = None
three_of (item a (item b no_items)) = None
three_of (item a (item b (item c no_items))) = Some (a, (b, c))
three_of (item a (item b (item c (item d ds)))) = None
