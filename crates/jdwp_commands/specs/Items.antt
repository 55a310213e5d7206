-- What the bodies of commands and answers are made of (JDWP, Detailed Command Information): parts, lists and a region,
-- the bytes of an event kind and of a suspend policy. A body is its items spelled one after the other, and it is read
-- item by item from left to right.
--
-- For each kind of thing: `x_at` reads it from a place, `spell_x` is its bytes, `FitsX` says that it has a spelling,
-- and `InRangeX` that its numbers are of their types.
use Rattle.std.specs.Prelude.{◌≡◌, ℕ, true, List, [], ◌∷◌, ◌++◌, length, Result, Ok}
use Rattle.std.specs.List.{AllByRecursion}
use Rattle.std.specs.Int.{bytes_high_first}
use Rattle.jdwp_values.specs.declared.class.Method.{Method}
use Rattle.jdwp_values.specs.declared.class.Field.{Field}
use Rattle.jdwp_values.specs.declared.class.Line.{Line}
use Rattle.jdwp_values.specs.declared.class.Variable.{Variable}
use Rattle.jdwp_values.specs.declared.fault.RowFault.{RowFault}
use Rattle.jdwp_values.specs.declared.id.ThreadId.{ThreadId}
use Rattle.jdwp_values.specs.declared.id.FieldId.{FieldId}
use Rattle.jdwp_values.specs.declared.limit.Limit.{Limit}
use Rattle.jdwp_values.specs.declared.sizes.IdSizes.{IdSizes}
use Rattle.jdwp_values.specs.declared.value.Value.{Value}
use Rattle.jdwp_values.specs.Classes.{method_row, field_row, line_row, variable_row}
use Rattle.jdwp_values.specs.Counts.{allows}
use Rattle.jdwp_values.specs.Parts.{Part, thread, field, value, Of}
use Rattle.jdwp_values.specs.Reading.{Place, part_at}
use Rattle.jdwp_values.specs.Rows.{◌>>=◌, in_row, row_at, read_by, spell_by, FitsBy, InRangeBy, list_at, spell_list}
use Rattle.jdwp_values.specs.Rows.{FitsList}
use Rattle.jdwp_values.specs.Spelling.{spell_part, FitsPart, InRangePart}
use Rattle.jdwp_events.specs.declared.kind.EventKind.{EventKind}
use Rattle.jdwp_events.specs.declared.kind.Policy.{Policy}
use Rattle.jdwp_events.specs.declared.modifier.Modifier.{Modifier}
use Rattle.jdwp_events.specs.Kinds.{byte_of_kind, kind_of_byte, byte_of_policy, policy_of_byte}
use Rattle.jdwp_events.specs.Modifiers.{modifier_at, spell_modifier, FitsModifier, InRangeModifier}
use Rattle.jdwp_commands.specs.declared.listed.ClassStatus.{ClassStatus}
use Rattle.jdwp_commands.specs.declared.listed.LoadedClass.{LoadedClass}
use Rattle.jdwp_commands.specs.declared.listed.Frame.{Frame}
use Rattle.jdwp_commands.specs.declared.listed.Slot.{Slot}
use Rattle.jdwp_commands.specs.declared.region.Region.{Region}
use Rattle.jdwp_commands.specs.Listed.{class_status_row, loaded_class_row, frame_row, slot_row}
use Rattle.jdwp_commands.specs.Regions.{meaning_at, region_at, spell_region, FitsRegion, InRangeRegion}

-- what a list is made of
pub data Listed : Type 0 where
  threads : Listed
  field_ids : Listed
  values : Listed
  modifiers : Listed
  methods : Listed
  fields : Listed
  lines : Listed
  variables : Listed
  class_statuses : Listed
  loaded_classes : Listed
  frames : Listed
  slots : Listed

-- the type of such a list's elements
abbrev pub OfListed : Listed → Type 0
OfListed threads = ThreadId
OfListed field_ids = FieldId
OfListed values = Value
OfListed modifiers = Modifier
OfListed methods = Method
OfListed fields = Field
OfListed lines = Line
OfListed variables = Variable
OfListed class_statuses = ClassStatus
OfListed loaded_classes = LoadedClass
OfListed frames = Frame
OfListed slots = Slot

abbrev pub listed_at : (l : Listed) → Place → Result (OfListed l × Place) RowFault
listed_at threads = row_at (thread ∷ []) (λ id. id)
listed_at field_ids = row_at (field ∷ []) (λ id. id)
listed_at values = row_at (value ∷ []) (λ v. v)
listed_at modifiers = modifier_at
listed_at methods = read_by method_row
listed_at fields = read_by field_row
listed_at lines = read_by line_row
listed_at variables = read_by variable_row
listed_at class_statuses = read_by class_status_row
listed_at loaded_classes = read_by loaded_class_row
listed_at frames = read_by frame_row
listed_at slots = read_by slot_row

abbrev pub spell_listed : (l : Listed) → IdSizes → OfListed l → List ℕ
spell_listed threads = λ sizes id. spell_part sizes thread id
spell_listed field_ids = λ sizes id. spell_part sizes field id
spell_listed values = λ sizes v. spell_part sizes value v
spell_listed modifiers = spell_modifier
spell_listed methods = spell_by method_row
spell_listed fields = spell_by field_row
spell_listed lines = spell_by line_row
spell_listed variables = spell_by variable_row
spell_listed class_statuses = spell_by class_status_row
spell_listed loaded_classes = spell_by loaded_class_row
spell_listed frames = spell_by frame_row
spell_listed slots = spell_by slot_row

abbrev pub FitsListed : (l : Listed) → IdSizes → OfListed l → Type 0
FitsListed threads = λ sizes id. FitsPart sizes thread id
FitsListed field_ids = λ sizes id. FitsPart sizes field id
FitsListed values = λ sizes v. FitsPart sizes value v
FitsListed modifiers = FitsModifier
FitsListed methods = FitsBy method_row
FitsListed fields = FitsBy field_row
FitsListed lines = FitsBy line_row
FitsListed variables = FitsBy variable_row
FitsListed class_statuses = FitsBy class_status_row
FitsListed loaded_classes = FitsBy loaded_class_row
FitsListed frames = FitsBy frame_row
FitsListed slots = FitsBy slot_row

abbrev pub InRangeListed : (l : Listed) → OfListed l → Type 0
InRangeListed threads = λ id. InRangePart thread id
InRangeListed field_ids = λ id. InRangePart field id
InRangeListed values = λ v. InRangePart value v
InRangeListed modifiers = InRangeModifier
InRangeListed methods = InRangeBy method_row
InRangeListed fields = InRangeBy field_row
InRangeListed lines = InRangeBy line_row
InRangeListed variables = InRangeBy variable_row
InRangeListed class_statuses = InRangeBy class_status_row
InRangeListed loaded_classes = InRangeBy loaded_class_row
InRangeListed frames = InRangeBy frame_row
InRangeListed slots = InRangeBy slot_row

-- what a body is made of; a limit says how many elements a list or a region may have
pub data Item : Type 0 where
  part : Part → Item
  many : Limit → Listed → Item
  region : Limit → Item
  event_kind : Item
  policy : Item

-- the type of an item's value
abbrev pub OfItem : Item → Type 0
OfItem (part p) = Of p
OfItem (many limit l) = List (OfListed l)
OfItem (region limit) = Region
OfItem event_kind = EventKind
OfItem policy = Policy

abbrev pub item_at : (i : Item) → Place → Result (OfItem i × Place) RowFault
item_at (part p) place = in_row (part_at p place)
item_at (many limit l) place = list_at limit (listed_at l) place
item_at (region limit) place = region_at limit place
item_at event_kind place = meaning_at kind_of_byte place
item_at policy place = meaning_at policy_of_byte place

abbrev pub spell_item : IdSizes → (i : Item) → OfItem i → List ℕ
spell_item sizes (part p) x = spell_part sizes p x
spell_item sizes (many limit l) xs = spell_list (spell_listed l sizes) xs
spell_item sizes (region limit) x = spell_region sizes x
spell_item sizes event_kind x = bytes_high_first 1 (byte_of_kind x)
spell_item sizes policy x = bytes_high_first 1 (byte_of_policy x)

-- what has a spelling in this item's place
abbrev pub FitsItem : IdSizes → (i : Item) → OfItem i → Type 0
FitsItem sizes (part p) x = FitsPart sizes p x
FitsItem sizes (many limit l) xs = FitsList (FitsListed l sizes) xs × (allows limit (length xs) ≡ true)
FitsItem sizes (region limit) x = FitsRegion limit sizes x
FitsItem sizes event_kind x = Unit {0}
FitsItem sizes policy x = Unit {0}

abbrev pub InRangeItem : (i : Item) → OfItem i → Type 0
InRangeItem (part p) x = InRangePart p x
InRangeItem (many limit l) xs = AllByRecursion (InRangeListed l) xs
InRangeItem (region limit) x = InRangeRegion x
InRangeItem event_kind x = Unit {0}
InRangeItem policy x = Unit {0}

-- the values of a row's items
abbrev pub Holding : List Item → Type 0
Holding [] = Unit {0}
Holding (i ∷ row) = OfItem i × Holding row

-- what makes something of a row's values, one argument for each
abbrev pub FromItems : List Item → Type 0 → Type 0
FromItems [] A = A
FromItems (i ∷ row) A = OfItem i → FromItems row A

-- what is made of these values
abbrev pub made_of : (row : List Item) {A : Type 0} → FromItems row A → Holding row → A
made_of [] make held = make
made_of (i ∷ row) make held = made_of row (make held.0) held.1

-- what is made of a row's values, read one after the other
abbrev pub items_at : (row : List Item) {A : Type 0} → FromItems row A → Place → Result (A × Place) RowFault
items_at [] make place = Ok (make, place)
items_at (i ∷ row) make place = item_at i place >>= λ x. items_at row (make x.0) x.1

-- an item with its value, as a command or an answer says it
pub data Saying : Type 0 where
  says : (i : Item) → OfItem i → Saying

abbrev pub spell_saying : IdSizes → Saying → List ℕ
spell_saying sizes (says i x) = spell_item sizes i x

abbrev pub FitsSaying : IdSizes → Saying → Type 0
FitsSaying sizes (says i x) = FitsItem sizes i x

abbrev pub InRangeSaying : Saying → Type 0
InRangeSaying (says i x) = InRangeItem i x

abbrev pub spell_sayings : IdSizes → List Saying → List ℕ
spell_sayings sizes [] = []
spell_sayings sizes (s ∷ told) = spell_saying sizes s ++ spell_sayings sizes told

abbrev pub FitsSayings : IdSizes → List Saying → Type 0
FitsSayings sizes [] = Unit {0}
FitsSayings sizes (s ∷ told) = FitsSaying sizes s × FitsSayings sizes told

abbrev pub InRangeSayings : List Saying → Type 0
InRangeSayings [] = Unit {0}
InRangeSayings (s ∷ told) = InRangeSaying s × InRangeSayings told
