-- Ids in rows: those of what has a spelling fit the sizes, and what has ids and numbers alone has a spelling by its
-- ids.
use Rattle.std.proofs.Common.{◌≡◌, ◌<◌, ◌^◌, ◌&&◌, ℕ, zero, suc, Bool, true, false, List, [], ◌∷◌, ◌++◌, refl, length}
use Rattle.std.proofs.Common.{nat_lt, arith}
use Rattle.std.specs.List.{AllByRecursion as All, flat_map}
use Rattle.jdwp_commands.specs.Answers.{told_answer}
use Rattle.jdwp_commands.specs.Items as items
use Rattle.jdwp_commands.specs.Items.{FitsItem, FitsListed, FitsSayings, Item, Listed, OfItem, OfListed, Saying, says}
use Rattle.jdwp_commands.specs.Regions.{FitsBehind}
use Rattle.jdwp_commands.specs.declared.answer.Answer.{Answer}
use Rattle.jdwp_commands.specs.declared.listed.Slot.{Slot}
use Rattle.jdwp_values.specs.declared.id.FieldId.{FieldId}
use Rattle.jdwp_events.specs.Composites.{FitsComposite}
use Rattle.jdwp_events.specs.Events.{FitsEvent, told as told_event}
use Rattle.jdwp_events.specs.Modifiers.{told}
use Rattle.jdwp_values.specs.Classes.{field_row, method_row}
use Rattle.jdwp_values.specs.Parts as parts
use Rattle.jdwp_values.specs.Parts.{Of, OfSimple, Part, Simple}
use Rattle.jdwp_values.specs.Rows.{FitsRow, FitsTold, Holds, Said, said}
use Rattle.jdwp_values.specs.Spelling.{FitsPart, FitsSimple, FitsValue}
use Rattle.jdwp_values.specs.declared.limit.Limit.{Limit}
use Rattle.jdwp_values.specs.declared.limit.Limit.TheVariants.{Any}
use Rattle.jdwp_values.specs.declared.sizes.IdSizes.{IdSizes}
use Rattle.jdwp_values.specs.declared.tag.Tag.{Tag}
use Rattle.jdwp_values.specs.Tags.{is_reference}
use Rattle.jdwp_values.specs.declared.value.Value.{Value}
use Rattle.jdwp_values.specs.declared.value.Value.TheVariants as values
use Rattle.jdwp_commands.specs.Listed.{class_status_row, frame_row, loaded_class_row}
use Rattle.machine_model.specs.Ids.{Id, class, field, frame, id_of_object, ids_of_composite, ids_of_event, ids_of_item}
use Rattle.machine_model.specs.Ids.{ids_of_listed, ids_of_part, ids_of_row, ids_of_said, ids_of_saying, ids_of_simple}
use Rattle.machine_model.specs.Ids.{ids_of_value, method, no_thread, object}
use Rattle.machine_model.specs.Names.{Composite}

-- Lists ---------------------------------------------------------------------------------------------------------------

pub all_joined : {A : Type 0} (P : A → Type 0) (xs ys : List A) → All P xs → All P ys → All P (xs ++ ys)
all_joined P [] ys h k = k
all_joined P (x ∷ xs) ys h k = (h.0, all_joined P xs ys h.1 k)

pub all_front : {A : Type 0} (P : A → Type 0) (xs ys : List A) → All P (xs ++ ys) → All P xs
all_front P [] ys h = tt
all_front P (x ∷ xs) ys h = (h.0, all_front P xs ys h.1)

pub all_back : {A : Type 0} (P : A → Type 0) (xs ys : List A) → All P (xs ++ ys) → All P ys
all_back P [] ys h = h
all_back P (x ∷ xs) ys h = all_back P xs ys h.1

pub all_weak : {A : Type 0} (P Q : A → Type 0) → ((x : A) → P x → Q x) → (xs : List A) → All P xs → All Q xs
all_weak P Q k [] h = tt
all_weak P Q k (x ∷ xs) h = (k x h.0, all_weak P Q k xs h.1)

pub all_flat : {A B : Type 0} (F : A → Type 0) (P : B → Type 0) (f : A → List B) → ((x : A) → F x → All P (f x))
    → (xs : List A) → All F xs → All P (flat_map f xs)
all_flat F P f k [] h = tt
all_flat F P f k (x ∷ xs) h = all_joined P (f x) (flat_map f xs) (k x h.0) (all_flat F P f k xs h.1)

pub none_in : {A B : Type 0} (P : B → Type 0) (xs : List A) → All P (flat_map (λ (x : A). []) xs)
none_in P [] = tt
none_in P (x ∷ xs) = none_in P xs

-- What has a spelling -------------------------------------------------------------------------------------------------

-- an id fits the bytes that ids of its kind have
abbrev pub FitsId : IdSizes → Id → Type 0
FitsId used (object id) = id < 256 ^ used.object
FitsId used (class id) = id < 256 ^ used.class
FitsId used (method id) = id < 256 ^ used.method
FitsId used (field id) = id < 256 ^ used.field
FitsId used (frame thread id) = id < 256 ^ used.frame

abbrev Fit : IdSizes → List Id → Type 0
Fit used ids = All (FitsId used) ids

simple_ids : (used : IdSizes) (thread : ℕ) (s : Simple) (x : OfSimple s) → FitsSimple used s x
    → Fit used (ids_of_simple thread s x)
simple_ids used thread parts.object_id x h = (h, tt)
simple_ids used thread parts.thread_id x h = (h, tt)
simple_ids used thread parts.class_id x h = (h, tt)
simple_ids used thread parts.method_id x h = (h, tt)
simple_ids used thread parts.field_id x h = (h, tt)
simple_ids used thread parts.frame_id x h = (h, tt)
simple_ids used thread _ x h = tt

object_ids : (used : IdSizes) (id : ℕ) → id < 256 ^ used.object → Fit used (id_of_object id)
object_ids used zero h = tt
object_ids used (suc id) h = (h, tt)

value_ids : (used : IdSizes) (v : Value) → FitsValue used v → Fit used (ids_of_value v)
value_ids used (values.Object x) h = object_ids used x.0 h
value_ids used (values.Array x) h = object_ids used x.0 h
value_ids used (values.String x) h = object_ids used x.0 h
value_ids used (values.Thread x) h = object_ids used x.0 h
value_ids used (values.ThreadGroup x) h = object_ids used x.0 h
value_ids used (values.ClassLoader x) h = object_ids used x.0 h
value_ids used (values.ClassObject x) h = object_ids used x.0 h
value_ids used _ h = tt

part_ids : (used : IdSizes) (thread : ℕ) (p : Part) (x : Of p) → FitsPart used p x → Fit used (ids_of_part thread p x)
part_ids used thread (parts.simple s) x h = simple_ids used thread s x h
part_ids used thread parts.location x h = (h.class, (h.method, tt))
part_ids used thread parts.value x h = value_ids used x h
part_ids used thread parts.reference x h = value_ids used x h.1
part_ids used thread (parts.untagged byte) x h = value_ids used x h.1
part_ids used thread _ x h = tt

said_ids : (used : IdSizes) (told : List Said) → FitsTold used told → Fit used (flat_map ids_of_said told)
said_ids used [] h = tt
said_ids used (said p x ∷ told) h =
    all_joined (FitsId used) (ids_of_part no_thread p x) (flat_map ids_of_said told) (part_ids used no_thread p x h.0)
    (said_ids used told h.1)

row_ids : (used : IdSizes) (thread : ℕ) (row : List Part) (held : Holds row) → FitsRow used row held
    → Fit used (ids_of_row thread row held)
row_ids used thread [] held h = tt
row_ids used thread (p ∷ row) held h =
    all_joined (FitsId used) (ids_of_part thread p held.0) (ids_of_row thread row held.1)
    (part_ids used thread p held.0 h.0) (row_ids used thread row held.1 h.1)

listed_ids : (used : IdSizes) (thread : ℕ) (l : Listed) (x : OfListed l) → FitsListed l used x
    → Fit used (ids_of_listed thread l x)
listed_ids used thread items.threads x h = (h, tt)
listed_ids used thread items.field_ids x h = (h, tt)
listed_ids used thread items.values x h = value_ids used x h
listed_ids used thread items.modifiers x h = said_ids used (told x) h
listed_ids used thread items.methods x h = row_ids used no_thread method_row.parts (method_row.values x) h
listed_ids used thread items.fields x h = row_ids used no_thread field_row.parts (field_row.values x) h
listed_ids used thread items.class_statuses x h =
    row_ids used no_thread class_status_row.parts (class_status_row.values x) h
listed_ids used thread items.loaded_classes x h =
    row_ids used no_thread loaded_class_row.parts (loaded_class_row.values x) h
listed_ids used thread items.frames x h = row_ids used thread frame_row.parts (frame_row.values x) h
listed_ids used thread _ x h = tt

element_ids : (used : IdSizes) (tagged : Bool) (tag : Tag) (v : Value) → FitsBehind tagged tag used v
    → Fit used (ids_of_value v)
element_ids used true tag v h = value_ids used v h.1
element_ids used false tag v h = value_ids used v h.1

item_ids : (used : IdSizes) (thread : ℕ) (i : Item) (x : OfItem i) → FitsItem used i x
    → Fit used (ids_of_item thread i x)
item_ids used thread (items.part p) x h = part_ids used thread p x h
item_ids used thread (items.many limit l) xs h =
    all_flat (FitsListed l used) (FitsId used) (ids_of_listed thread l) (listed_ids used thread l) xs h.0.each
item_ids used thread (items.region limit) x h =
    all_flat (FitsBehind (is_reference x.tag) x.tag used) (FitsId used) ids_of_value
    (element_ids used (is_reference x.tag) x.tag) x.values h.values.each
item_ids used thread _ x h = tt

-- the ids of what has a spelling fit the sizes
pub fitting_ids : (used : IdSizes) (thread : ℕ) (sayings : List Saying) → FitsSayings used sayings
    → All (FitsId used) (flat_map (ids_of_saying thread) sayings)
fitting_ids used thread [] h = tt
fitting_ids used thread (says i x ∷ sayings) h =
    all_joined (FitsId used) (ids_of_item thread i x) (flat_map (ids_of_saying thread) sayings)
    (item_ids used thread i x h.0) (fitting_ids used thread sayings h.1)

-- those of a composite's events do
pub composite_ids : (used : IdSizes) (composite : Composite) → FitsComposite used composite
    → All (FitsId used) (ids_of_composite composite)
composite_ids used composite h =
    all_flat (FitsEvent used) (FitsId used) ids_of_event (λ event. said_ids used (told_event event)) composite.events
    h.each

-- how many items an answer may have is nothing to its ids
pub same_ids : (limit : Limit) (thread : ℕ) (answer : Answer)
    → flat_map (ids_of_saying thread) (told_answer limit answer)
    ≡ flat_map (ids_of_saying thread) (told_answer Any answer)
same_ids limit thread answer = grind arith

-- Ids and numbers alone -----------------------------------------------------------------------------------------------

-- a list that is short enough for its count
abbrev pub is_short : {A : Type 0} → List A → Bool
is_short list = nat_lt (length list) 2147483648

-- an item has ids and numbers alone: no text and no value, and its list is short enough
abbrev pub plain_item : (i : Item) → OfItem i → Bool
plain_item (items.part (parts.simple s)) x = true
plain_item (items.many Any items.field_ids) xs = is_short xs
plain_item (items.many Any items.slots) xs = is_short xs
plain_item i x = false

-- and so has what is said
abbrev pub are_plain : List Saying → Bool
are_plain [] = true
are_plain (says i x ∷ sayings) = plain_item i x && are_plain sayings

fits_simple : (used : IdSizes) (thread : ℕ) (s : Simple) (x : OfSimple s) → Fit used (ids_of_simple thread s x)
    → FitsSimple used s x
fits_simple used thread parts.object_id x h = h.0
fits_simple used thread parts.thread_id x h = h.0
fits_simple used thread parts.class_id x h = h.0
fits_simple used thread parts.method_id x h = h.0
fits_simple used thread parts.field_id x h = h.0
fits_simple used thread parts.frame_id x h = h.0
fits_simple used thread _ x h = tt

fits_count : {A : Type 0} (list : List A) → is_short list ≡ true → length list < 2 ^ 31
fits_count list is = grind (arith, is)

fits_fields : (used : IdSizes) (thread : ℕ) (fields : List FieldId)
    → Fit used (flat_map (ids_of_listed thread items.field_ids) fields) → All (FitsListed items.field_ids used) fields
fits_fields used thread [] h = tt
fits_fields used thread (one ∷ fields) h = (h.0, fits_fields used thread fields h.1)

fits_slots : (used : IdSizes) (slots : List Slot) → All (FitsListed items.slots used) slots
fits_slots used [] = tt
fits_slots used (slot ∷ slots) = ((tt, (tt, tt)), fits_slots used slots)

-- it has a spelling where its ids fit
fits_item : (used : IdSizes) (thread : ℕ) (i : Item) (x : OfItem i) → plain_item i x ≡ true
    → Fit used (ids_of_item thread i x) → FitsItem used i x
fits_item used thread (items.part (parts.simple s)) x is h = fits_simple used thread s x h
fits_item used thread (items.many Any items.field_ids) xs is h =
    (record { count = fits_count xs is; each = fits_fields used thread xs h }, refl)
fits_item used thread (items.many Any items.slots) xs is h =
    (record { count = fits_count xs is; each = fits_slots used xs }, refl)
fits_item used thread i x is h = cc

pub plain_fits : (used : IdSizes) (thread : ℕ) (sayings : List Saying) → are_plain sayings ≡ true
    → All (FitsId used) (flat_map (ids_of_saying thread) sayings) → FitsSayings used sayings
plain_fits used thread [] is h = tt
plain_fits used thread (says i x ∷ sayings) is h = by_tests (plain_item i x) (are_plain sayings) is
    (fits_item used thread i x) (plain_fits used thread sayings)
  where
    by_tests : (first others : Bool) → (first && others) ≡ true
        → (first ≡ true → Fit used (ids_of_item thread i x) → FitsItem used i x)
        → (others ≡ true → All (FitsId used) (flat_map (ids_of_saying thread) sayings) → FitsSayings used sayings)
        → FitsSayings used (says i x ∷ sayings)
    by_tests true true is one rest = (
      one refl (all_front (FitsId used) (ids_of_item thread i x) (flat_map (ids_of_saying thread) sayings) h),
      rest refl (all_back (FitsId used) (ids_of_item thread i x) (flat_map (ids_of_saying thread) sayings) h),
    )
    by_tests _ _ is one rest = cc
