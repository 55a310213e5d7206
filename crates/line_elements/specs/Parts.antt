-- What stands behind the name in a line's array: a row of parts. For each kind of part `part_of` reads it and
-- `part_data` prints it; values are printed in the second version, whichever they were read in.
use Rattle.std.specs.Prelude.{◌≡◌, ℕ, ℤ, List, [], ◌∷◌, Bool, true, false, Option, Some, None, option_map, option_and_then, Result, Ok, Err}
use Rattle.serde_json.specs.Data.{Data, boolean, string, Items, no_items, item}
use Rattle.serde_json.specs.Find.{as_bool, as_str}
use Rattle.jdwp_events.specs.declared.kind.Policy.{Policy}
use Rattle.jdwp_values.specs.declared.class.Line.{Line}
use Rattle.jdwp_values.specs.declared.tag.Tag.{Tag}
use Rattle.jdwp_values.specs.declared.tag.TypeTag.{TypeTag}
use Rattle.jdwp_values.specs.declared.value.Value.{Value}
use Rattle.wire_core.specs.declared.outside.Side.{Side}
use Rattle.slot_values.specs.declared.slot.SlotValue.{SlotValue}
use Rattle.line_elements.specs.declared.elements.LineFault.{LineFault}
use Rattle.line_elements.specs.declared.elements.LineFault.TheVariants.{NoMemory, BadShape}
use Rattle.line_elements.specs.declared.version.Version.{Version}
use Rattle.line_elements.specs.Numbers.{natural_of, natural_data, int_of, long_of, signed_data, index_of, index_data}
use Rattle.line_elements.specs.Numbers.{text_of, text_data, text_or_null_of, text_or_null_data, version_of}
use Rattle.line_elements.specs.Numbers.{version_data}
use Rattle.line_elements.specs.Values.{class_tag_of, class_tag_data, object_tag_of, tag_data, policy_of, policy_data}
use Rattle.line_elements.specs.Values.{side_of, side_data, list_of, list_data, value_of, value_data, slot_of, slot_data}
use Rattle.line_elements.specs.Values.{lines_of, lines_data, arguments_of}

pub data Part : Type 0 where
  -- a number without a sign, at least so much and below the bound
  natural : ℕ → ℕ → Part
  int : Part
  long : Part
  index : Part
  text : Part
  text_or_null : Part
  word : Part
  truth : Part
  class_tag : Part
  object_tag : Part
  policy : Part
  side : Part
  -- values of the target's program, by the version that they are spelled in
  value : Version → Part
  values : Version → Part
  slots : Version → Part
  lines : Part
  arguments : Part
  version : Part

abbrev pub Of : Part → Type 0
Of (natural least bound) = ℕ
Of int = ℤ
Of long = ℤ
Of index = ℕ
Of text = List ℕ
Of text_or_null = Option (List ℕ)
Of word = List ℕ
Of truth = Bool
Of class_tag = TypeTag
Of object_tag = Tag
Of policy = Policy
Of side = Side
Of (value v) = Value
Of (values v) = List Value
Of (slots v) = List SlotValue
Of lines = Option (List Line)
Of arguments = Data
Of version = Option Version

abbrev pub part_of : (p : Part) → Data → Option (Of p)
part_of (natural least bound) d = natural_of least bound d
part_of int d = int_of d
part_of long d = long_of d
part_of index d = index_of d
part_of text d = text_of d
part_of text_or_null d = text_or_null_of d
part_of word d = as_str d
part_of truth d = as_bool d
part_of class_tag d = class_tag_of d
part_of object_tag d = object_tag_of d
part_of policy d = policy_of d
part_of side d = side_of d
part_of (value v) d = value_of v d
part_of (values v) d = list_of (value_of v) d
part_of (slots v) d = list_of (slot_of v) d
part_of lines d = lines_of d
part_of arguments d = arguments_of d
part_of version d = version_of d

abbrev pub part_data : (p : Part) → Of p → Data
part_data (natural least bound) n = natural_data n
part_data int z = signed_data z
part_data long z = signed_data z
part_data index n = index_data n
part_data text s = text_data s
part_data text_or_null s = text_or_null_data s
part_data word s = string s
part_data truth b = boolean b
part_data class_tag tag = class_tag_data tag
part_data object_tag tag = tag_data tag
part_data policy p = policy_data p
part_data side s = side_data s
part_data (value v) x = value_data x
part_data (values v) xs = list_data value_data xs
part_data (slots v) xs = list_data slot_data xs
part_data lines ls = lines_data ls
part_data arguments d = d
part_data version v = version_data v

-- an element, and those behind it
abbrev pub first_of : Items → Option (Data × Items)
first_of no_items = None
first_of (item d ds) = Some (d, ds)

-- whether no element is left
abbrev pub is_end : Items → Bool
is_end no_items = true
is_end (item d ds) = false

-- the next element as a part
unfoldable pub part_at : (p : Part) → Items → Option (Of p × Items)
part_at p items = option_and_then (λ x. option_map (λ v. (v, x.1)) (part_of p x.0)) (first_of items)

-- ---- rows of parts

-- the values of a row's parts
abbrev pub Holds : List Part → Type 0
Holds [] = Unit {0}
Holds (p ∷ row) = Of p × Holds row

-- what makes something of a row's values, one argument for each
abbrev pub From : List Part → Type 0 → Type 0
From [] A = A
From (p ∷ row) A = Of p → From row A

-- the parts from left to right, and what is made of their values
abbrev pub row_at : (row : List Part) {A : Type 0} → From row A → Items → Option (A × Items)
row_at [] make items = Some (make, items)
row_at (p ∷ row) make items = option_and_then (λ x. row_at row (make x.0) x.1) (part_at p items)

-- the parts' values as elements
abbrev pub row_data : (row : List Part) → Holds row → List Data
row_data [] held = []
row_data (p ∷ row) held = part_data p held.0 ∷ row_data row held.1

-- What a function that reads parts answers, seen by view, and what it leaves. Memory may be refused, which is the one
-- free answer; after a fault what is left says nothing.
abbrev pub Tells : {X Y : Type 0} → (X → Y) → Option (Y × Items) → Items → Result X LineFault → Type 0
Tells see read new (Ok x) = read ≡ Some (see x, new)
Tells see read new (Err NoMemory) = Unit {0}
Tells see read new (Err BadShape) = read ≡ None

-- what such a function answers that leaves nothing
abbrev pub Found : {A : Type 0} → Result A LineFault → Option A → Type 0
Found (Ok x) read = read ≡ Some x
Found (Err NoMemory) read = Unit {0}
Found (Err BadShape) read = read ≡ None
