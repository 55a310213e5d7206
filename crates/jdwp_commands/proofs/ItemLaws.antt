-- What is read item by item was spelled so, and what is spelled so is read again.
use Rattle.std.proofs.Common.{◌≡◌, ℕ, List, [], ◌∷◌, ◌++◌, Ok, refl, sym, ap, subst, ◌∙◌, append_assoc}
use Rattle.jdwp_values.specs.declared.fault.RowFault.{RowFault}
use Rattle.jdwp_values.specs.declared.sizes.IdSizes.{IdSizes}
use Rattle.jdwp_values.specs.Bytes.{IsBytes}
use Rattle.jdwp_values.specs.Parts.{Part, thread, field, value, Of}
use Rattle.jdwp_values.specs.Reading.{Place, behind, part_at}
use Rattle.jdwp_values.specs.Rows.{in_row, row_at}
use Rattle.jdwp_values.specs.Spelling.{spell_part, FitsPart, InRangePart, Ends}
use Rattle.jdwp_values.proofs.ClassLaws.{method_format, field_format, line_format, variable_format}
use Rattle.jdwp_values.proofs.RowLaws.{bind_ok, bind_is, ok_is, in_row_ok, TakesPlace, TakesPlace-then, TakesPlace-none}
use Rattle.jdwp_values.proofs.RowLaws.{part_at_takes, part_at_again, IsFormat, list_format}
use Rattle.jdwp_events.specs.Kinds.{byte_of_kind, kind_of_byte, byte_of_policy, policy_of_byte}
use Rattle.jdwp_events.proofs.KindLaws.{kind_back, kind_of-byte, kind_small, policy_back, policy_of-byte, policy_small}
use Rattle.jdwp_events.proofs.ModifierLaws.{modifier_format}
use Rattle.jdwp_commands.specs.Items.{Listed, threads, field_ids, values, modifiers, methods, fields, lines, variables}
use Rattle.jdwp_commands.specs.Items.{class_statuses, loaded_classes, frames, slots, listed_at, spell_listed}
use Rattle.jdwp_commands.specs.Items.{FitsListed, InRangeListed, Item, part, many, region, event_kind, policy, OfItem}
use Rattle.jdwp_commands.specs.Items.{item_at, spell_item, FitsItem, InRangeItem, Holding, FromItems, made_of, items_at}
use Rattle.jdwp_commands.specs.Items.{Saying, says, spell_sayings, FitsSayings}
use Rattle.jdwp_commands.proofs.ListedLaws.{class_status_format, loaded_class_format, frame_format, slot_format}
use Rattle.jdwp_commands.proofs.MeaningLaws.{meaning_takes, meaning_again}
use Rattle.jdwp_commands.proofs.RegionLaws.{region_format}

-- a list's part that may stand before others
part_format : (p : Part) → ((rest : List ℕ) → Ends p rest)
    → IsFormat (row_at (p ∷ []) (λ x. x)) (λ sizes x. spell_part sizes p x) (λ sizes x. FitsPart sizes p x)
    (λ x. InRangePart p x)
part_format p ends = record {
  takes = λ place x fits e.
      let b = bind_ok (in_row (part_at p place)) (λ y. row_at [] y.0 y.1) x e in
      let here : Of p × Place = (b.0.0, b.0.1) in
      let is : here ≡ x = ok_is {E = RowFault} here x b.2 in
      subst (λ (y : Of p × Place). TakesPlace place (spell_part place.sizes p y.0) y.1 × FitsPart place.sizes p y.0) is
      (part_at_takes p place b.0 fits (in_row_ok (part_at p place) b.0 b.1));
  again = λ place x rest fits range e.
      bind_is (in_row (part_at p place)) (λ y. row_at [] y.0 y.1) (x, behind place rest)
      (ap in_row (part_at_again p place x rest fits range (ends rest) e));
}

listed_format : (l : Listed) → IsFormat (listed_at l) (spell_listed l) (FitsListed l) (InRangeListed l)
listed_format threads = part_format thread (λ rest. tt)
listed_format field_ids = part_format field (λ rest. tt)
listed_format values = part_format value (λ rest. tt)
listed_format modifiers = modifier_format
listed_format methods = method_format
listed_format fields = field_format
listed_format lines = line_format
listed_format variables = variable_format
listed_format class_statuses = class_status_format
listed_format loaded_classes = loaded_class_format
listed_format frames = frame_format
listed_format slots = slot_format

item_takes : (i : Item) (place : Place) (x : OfItem i × Place) → IsBytes place.rest → item_at i place ≡ Ok x
    → TakesPlace place (spell_item place.sizes i x.0) x.1 × FitsItem place.sizes i x.0
item_takes (part p) place x fits e = part_at_takes p place x fits (in_row_ok (part_at p place) x e)
item_takes (many limit l) place x fits e =
    (list_format (listed_at l) (spell_listed l) (FitsListed l) (InRangeListed l) (listed_format l) limit).takes place x
    fits e
item_takes (region limit) place x fits e = (region_format limit).takes place x fits e
item_takes event_kind place x fits e = ((meaning_takes byte_of_kind kind_of_byte kind_back place x fits e).0, tt)
item_takes policy place x fits e = ((meaning_takes byte_of_policy policy_of_byte policy_back place x fits e).0, tt)

-- only a last item takes what is left
abbrev pub EndsItem : Item → List ℕ → Type 0
EndsItem (part p) rest = Ends p rest
EndsItem (many limit l) rest = Unit {0}
EndsItem (region limit) rest = Unit {0}
EndsItem event_kind rest = Unit {0}
EndsItem policy rest = Unit {0}

item_again : (i : Item) (place : Place) (x : OfItem i) (rest : List ℕ) → FitsItem place.sizes i x → InRangeItem i x
    → EndsItem i rest → place.rest ≡ spell_item place.sizes i x ++ rest → item_at i place ≡ Ok (x, behind place rest)
item_again (part p) place x rest fits range ends e = ap in_row (part_at_again p place x rest fits range ends e)
item_again (many limit l) place x rest fits range ends e =
    (list_format (listed_at l) (spell_listed l) (FitsListed l) (InRangeListed l) (listed_format l) limit).again place x
    rest fits range e
item_again (region limit) place x rest fits range ends e = (region_format limit).again place x rest fits range e
item_again event_kind place x rest fits range ends e =
    meaning_again byte_of_kind kind_of_byte place x rest (kind_of-byte x) (kind_small x) e
item_again policy place x rest fits range ends e =
    meaning_again byte_of_policy policy_of_byte place x rest (policy_of-byte x) (policy_small x) e

abbrev pub spell_items : IdSizes → (row : List Item) → Holding row → List ℕ
spell_items sizes [] held = []
spell_items sizes (i ∷ row) held = spell_item sizes i held.0 ++ spell_items sizes row held.1

abbrev pub FitsItems : IdSizes → (row : List Item) → Holding row → Type 0
FitsItems sizes [] held = Unit {0}
FitsItems sizes (i ∷ row) held = FitsItem sizes i held.0 × FitsItems sizes row held.1

abbrev pub InRangeItems : (row : List Item) → Holding row → Type 0
InRangeItems [] held = Unit {0}
InRangeItems (i ∷ row) held = InRangeItem i held.0 × InRangeItems row held.1

record TakesItems (row : List Item) {A : Type 0} (make : FromItems row A) (place : Place) (x : A × Place) : Type 0 where
  held : Holding row
  is : made_of row make held ≡ x.0
  takes : TakesPlace place (spell_items place.sizes row held) x.1
  fits : FitsItems place.sizes row held

items_take : (row : List Item) {A : Type 0} (make : FromItems row A) (place : Place) (x : A × Place)
    → IsBytes place.rest → items_at row make place ≡ Ok x → TakesItems row make place x
items_take [] {A} make place x fits e =
    let here : A × Place = (make, place) in
    let is : here ≡ x = ok_is {E = RowFault} here x e in
    subst (λ (y : A × Place). TakesItems [] make place y) is
    (record { held = tt; is = refl; takes = TakesPlace-none place fits; fits = tt })
items_take (i ∷ row) {A} make place x fits e =
    let b = bind_ok (item_at i place) (λ y. items_at row (make y.0) y.1) x e in
    let t = item_takes i place b.0 fits b.1 in
    let next = behind place t.0.rest in
    let e' : items_at row (make b.0.0) next ≡ Ok x =
    subst (λ (z : Place). items_at row (make b.0.0) z ≡ Ok x) t.0.new_is b.2 in
    let others = items_take row (make b.0.0) next x t.0.takes.rest_fits e' in
    let first : TakesPlace place (spell_item place.sizes i b.0.0) next =
    record { rest = t.0.rest; new_is = refl; takes = t.0.takes } in
    record {
      held = (b.0.0, others.held);
      is = others.is;
      takes =
          TakesPlace-then place (spell_item place.sizes i b.0.0) next (spell_items place.sizes row others.held) x.1
          first others.takes;
      fits = (t.1, others.fits);
    }

abbrev pub EndsItems : IdSizes → (row : List Item) → Holding row → Type 0
EndsItems sizes [] held = Unit {0}
EndsItems sizes (i ∷ row) held = EndsItem i (spell_items sizes row held.1 ++ []) × EndsItems sizes row held.1

-- a row that is all that is left is read again
pub items_again : (row : List Item) {A : Type 0} (make : FromItems row A) (place : Place) (held : Holding row)
    → FitsItems place.sizes row held → InRangeItems row held → EndsItems place.sizes row held
    → place.rest ≡ spell_items place.sizes row held ++ []
    → items_at row make place ≡ Ok (made_of row make held, behind place [])
items_again [] {A} make place held fits range ends e = ap (λ (r : List ℕ). Ok (make, behind place r)) e
items_again (i ∷ row) {A} make place held fits range ends e =
    let more = spell_items place.sizes row held.1 ++ [] in
    let next = behind place more in
    let one = item_again i place held.0 more fits.0 range.0 ends.0
    (e ∙ append_assoc (spell_item place.sizes i held.0) (spell_items place.sizes row held.1) []) in
    bind_is (item_at i place) (λ y. items_at row (make y.0) y.1) (held.0, next) one
    ∙ items_again row (make held.0) next held.1 fits.1 range.1 ends.1 refl

-- a row's values as items with their values
abbrev pub sayings_of : (row : List Item) → Holding row → List Saying
sayings_of [] held = []
sayings_of (i ∷ row) held = says i held.0 ∷ sayings_of row held.1

spell_sayings_of : (sizes : IdSizes) (row : List Item) (held : Holding row)
    → spell_sayings sizes (sayings_of row held) ≡ spell_items sizes row held
spell_sayings_of sizes [] held = refl
spell_sayings_of sizes (i ∷ row) held =
    ap (λ (t : List ℕ). spell_item sizes i held.0 ++ t) (spell_sayings_of sizes row held.1)

fits_sayings_of : (sizes : IdSizes) (row : List Item) (held : Holding row) → FitsItems sizes row held
    → FitsSayings sizes (sayings_of row held)
fits_sayings_of sizes [] held fits = tt
fits_sayings_of sizes (i ∷ row) held fits = (fits.0, fits_sayings_of sizes row held.1 fits.1)

-- what was taken says this
pub record TakesSayings (place : Place) (told : List Saying) (new : Place) : Type 0 where
  pub takes : TakesPlace place (spell_sayings place.sizes told) new
  pub fits : FitsSayings place.sizes told

pub told_takes : {A : Type 0} (told : A → List Saying) (row : List Item) (make : FromItems row A)
    → ((sizes : IdSizes) (held : Holding row) → FitsItems sizes row held
    → told (made_of row make held) ≡ sayings_of row held)
    → (place : Place) (x : A × Place) → IsBytes place.rest → items_at row make place ≡ Ok x
    → TakesSayings place (told x.0) x.1
told_takes {A} told row make same place x fits e =
    let t = items_take row make place x fits e in
    let saying : sayings_of row t.held ≡ told x.0 = sym (same place.sizes t.held t.fits) ∙ ap told t.is in
    let here : TakesSayings place (sayings_of row t.held) x.1 =
    record { takes = rw spell_sayings_of t.takes; fits = fits_sayings_of place.sizes row t.held t.fits } in
    subst (λ (s : List Saying). TakesSayings place s x.1) saying here

-- what holds of all that a row makes holds of what was read
pub of_items : {A : Type 0} (P : A → Type 0) (row : List Item) (make : FromItems row A)
    → ((held : Holding row) → P (made_of row make held)) → (place : Place) (x : A × Place) → IsBytes place.rest
    → items_at row make place ≡ Ok x → P x.0
of_items {A} P row make holds place x fits e = let t = items_take row make place x fits e in subst P t.is (holds t.held)
