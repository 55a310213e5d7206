-- The elements of an array.
use Rattle.std.proofs.Common.{◌≡◌, ◌<◌, ◌≤◌, ◌+◌, ◌-◌, ◌∷◌, ◌||◌, ℕ, zero, suc, Bool, false, List, [], map, take, drop}
use Rattle.std.proofs.Common.{length, refl, sym, ap, ◌∙◌, arith, get_or}
use Rattle.std.specs.Prelude.{if◌then◌else◌, int_lt, nat_lt, ok_or, pos, zip, ◌==◌, Option, Some, None}
use Rattle.std.specs.Prelude.{option_and_then, option_map, slice_get}
use Rattle.std.specs.Result.{result_ok}
use Rattle.std.proofs.lemmas.Bool.{le-ltb}
use Rattle.std.proofs.lemmas.List.{drop_more}
use Rattle.std.proofs.lemmas.Option.{slice_get-get_or}
use Rattle.jdwp_commands.specs.declared.answer.Answer.TheVariants as answers
use Rattle.jdwp_commands.specs.declared.region.Region.{Region}
use Rattle.jdwp_values.specs.declared.tag.Tag.{Tag}
use Rattle.jdwp_values.specs.declared.value.Value.{Value}
use Rattle.jdwp_values.specs.declared.value.Value.TheVariants as values
use Rattle.machine_model.specs.Children.{Child, Place, at_index, elements_of, in_field, in_slot, index_name, is_known}
use Rattle.machine_model.specs.Frames.{count_from}
use Rattle.machine_model.specs.Plans.{each, made_with, of_world}
use Rattle.machine_model.specs.Values.{length_plan}
use Rattle.machine_model.specs.Variables.{elements_page, elements_plan, elements_valued, shown_plan, values_in}
use Rattle.machine_model.specs.Writing.{element_store}
use Rattle.machine_model.specs.declared.parts.Store.TheVariants as stores
use Rattle.shown_worlds.specs.ChildRows as shown
use Rattle.shown_worlds.specs.Paging.{page}
use Rattle.shown_worlds.proofs.ChildLaws.{and_then_of_map, children_said, row_of}
use Rattle.shown_worlds.proofs.FactLaws.{object}
use Rattle.shown_worlds.proofs.FrameLaws.{paged}
use Rattle.shown_worlds.proofs.LocalLaws.{ok_ok_or, ok_then}
use Rattle.shown_worlds.proofs.PlanLemmas.{must_said, said_chained, said_made}
use Rattle.shown_worlds.proofs.RowLemmas.{found_all}
use Rattle.shown_worlds.proofs.ValueLaws.{length_there}
use Rattle.world_model.specs.Codes.{not_implemented}
use Rattle.world_model.specs.Kept.{program_of}
use Rattle.world_model.specs.Objects.{array_in, elements_from, elements_in, kind_of_array, object_fault, region_of}
use Rattle.world_model.specs.Replies.{living_reply}
use Rattle.world_model.specs.Scans.{all_of}
use Rattle.world_model.specs.Sound.{IsArray, IsSound}
use Rattle.world_model.specs.declared.rows.WorldArray.{WorldArray}
use Rattle.world_model.specs.declared.world.World.{World}

-- Elements that are asked for -----------------------------------------------------------------------------------------

pub counted_le : (total start count : ℕ) → count_from total start count ≤ total - start
counted_le total start zero = omega arith
counted_le total start (suc count) = omega arith

guard : (n start count : ℕ) → start + suc count ≤ n
    → (int_lt (pos start) (pos 0) || int_lt (pos (suc count)) (pos 0) || nat_lt n (start + suc count)) ≡ false
guard n start count within =
    ap (λ b. b || int_lt (pos (suc count)) (pos 0) || nat_lt n (start + suc count)) (le-ltb start 0 (omega arith))
    ∙ ap (λ b. b || nat_lt n (start + suc count)) (le-ltb (suc count) 0 (omega arith))
    ∙ le-ltb n (start + suc count) within

asked_from : (items : List Value) (start count : ℕ) → start + suc count ≤ length items
    → elements_from items (pos start) (pos (suc count)) ≡ Some (take (suc count) (drop start items))
asked_from items start count within =
    ap (λ b. if b then None else Some (take (suc count) (drop start items))) (guard (length items) start count within)

-- an array of a sound world has a kind
kind_there : (w : World) (n : ℕ) (row : WorldArray) → IsSound w → array_in w (object n) ≡ Some row
    → IsArray (program_of w) row
kind_there w n row sound is =
    found_all (IsArray (program_of w)) (λ (r : WorldArray). r.id.0 == n) w.arrays sound.values.arrays row is

region_values : (kind : Option Tag) (tag : Tag) (items : Option (List Value)) (found : List Value) → kind ≡ Some tag
    → items ≡ Some found
    → option_map (λ (r : Region). r.values) (result_ok (ok_or {E = ℕ} (region_of kind items) not_implemented))
    ≡ Some found
region_values kind tag items found is same =
    ap (λ (k : Option Tag). option_map (λ (r : Region). r.values) (result_ok (ok_or {E = ℕ} (region_of k items)
    not_implemented))) is
    ∙ ap (λ (i : Option (List Value)). option_map (λ (r : Region). r.values) (result_ok (ok_or {E = ℕ}
    (region_of (Some tag) i) not_implemented))) same

pub elements_there : (w : World) (n : ℕ) (row : WorldArray) (start count : ℕ) → IsSound w
    → array_in w (object n) ≡ Some row → start + count ≤ length row.values
    → of_world (living_reply w) (elements_plan n start count) ≡ Some (take count (drop start row.values))
unfolding of_world
elements_there w n row start zero sound is within = refl
elements_there w n row start (suc count) sound is within =
    must_said answers.GetElements values_in (λ r. r.values) (λ r. refl)
    (elements_in w (object n) (pos start) (pos (suc count)))
    ∙ ap (option_map (λ (r : Region). r.values))
    (ok_then (λ (r : WorldArray). ok_or (region_of (kind_of_array w r)
    (elements_from r.values (pos start) (pos (suc count)))) not_implemented)
    (ok_or (array_in w (object n)) (object_fault w (object n)))
    ∙ ap (option_and_then (λ (r : WorldArray). result_ok (ok_or {E = ℕ} (region_of (kind_of_array w r)
    (elements_from r.values (pos start) (pos (suc count)))) not_implemented)))
    (ok_ok_or (array_in w (object n)) (object_fault w (object n)) ∙ is))
    ∙ region_values (kind_of_array w row) (kind_there w n row sound is).kind
    (elements_from row.values (pos start) (pos (suc count))) (take (suc count) (drop start row.values))
    (kind_there w n row sound is).is_kind (asked_from row.values start count within)

-- As the world has them -----------------------------------------------------------------------------------------------

-- the value at an index
abbrev pub read_element : List Value → Place → Option Value
read_element items (at_index i) = slice_get items i
read_element items (is_known value) = None
read_element items (in_slot slot tag) = None
read_element items (in_field field) = None

abbrev pub element_row : World → ℕ → List Value → Child → shown.Child
element_row w n items = row_of w (read_element items) (element_store n)

-- an element that is there
value_at : (items : List Value) (i : ℕ) → i < length items → slice_get items i ≡ Some (get_or items i values.Void)
value_at items i within = slice_get-get_or items i values.Void within

pub elements_row : (w : World) (n : ℕ) (items : List Value) (count start : ℕ) → start + count ≤ length items
    → map (element_row w (suc n) items) (elements_of (suc n) start count)
    ≡ take count (shown.elements_in w (object (suc n)) start (drop start items))
elements_row w n items zero start within = refl
elements_row w n items (suc count) start within =
    ap (λ (value : Option Value). record {
      name = index_name start;
      signature = shown.element_signature w (object (suc n));
      value = value;
      store = Some (stores.Element (object (suc n)) (pos start));
    } ∷ map (element_row w (suc n) items) (elements_of (suc n) (start + 1) count))
    (value_at items start (omega (arith, within)))
    ∙ ap (λ l. shown.element_in w (object (suc n)) start (get_or items start values.Void) ∷ l)
    (elements_row w n items count (start + 1) (omega (arith, within)))
    ∙ ap (λ l. take (suc count) (shown.elements_in w (object (suc n)) start l))
    (sym (drop_more items start values.Void (omega (arith, within))))

elements_dropped : (w : World) (n from start : ℕ) (items : List Value)
    → drop start (shown.elements_in w (object n) from items)
    ≡ shown.elements_in w (object n) (from + start) (drop start items)
elements_dropped w n from zero items = ap (λ i. shown.elements_in w (object n) i items) (omega arith)
elements_dropped w n from (suc start) [] = refl
elements_dropped w n from (suc start) (value ∷ others) =
    elements_dropped w n (from + 1) start others
    ∙ ap (λ i. shown.elements_in w (object n) i (drop start others)) (omega arith)

elements_many : (w : World) (n from : ℕ) (items : List Value)
    → length (shown.elements_in w (object n) from items) ≡ length items
elements_many w n from [] = refl
elements_many w n from (value ∷ others) = ap suc (elements_many w n (from + 1) others)

pub all_read : (items : List Value) (n count start : ℕ) → start + count ≤ length items
    → all_of (λ (child : Child). read_element items child.place) (elements_of n start count)
    ≡ Some (take count (drop start items))
all_read items n zero start within = refl
all_read items n (suc count) start within =
    ap (λ o. option_and_then (λ y. option_map (λ ys. y ∷ ys)
    (all_of (λ (child : Child). read_element items child.place) (elements_of n (start + 1) count))) o)
    (value_at items start (omega (arith, within)))
    ∙ ap (option_map (λ ys. get_or items start values.Void ∷ ys))
    (all_read items n count (start + 1) (omega (arith, within)))
    ∙ ap (λ l. Some (take (suc count) l)) (sym (drop_more items start values.Void (omega (arith, within))))

-- so many elements that are there, each with its value
elements_said : (w : World) (types : Bool) (n : ℕ) (row : WorldArray) (start count : ℕ) → IsSound w
    → array_in w (object (suc n)) ≡ Some row → start + count ≤ length row.values
    → option_and_then (λ pairs. of_world (living_reply w) (shown_plan types pairs))
    (of_world (living_reply w) (elements_valued (suc n) start count))
    ≡ all_of (shown.child_shown w types) (take count (shown.elements_in w (object (suc n)) start
    (drop start row.values)))
elements_said w types n row start count sound is within =
    ap (option_and_then (λ pairs. of_world (living_reply w) (shown_plan types pairs)))
    (said_made (living_reply w) (zip (elements_of (suc n) start count)) (elements_plan (suc n) start count)
    ∙ ap (option_map (zip (elements_of (suc n) start count)))
    (elements_there w (suc n) row start count sound is within
    ∙ sym (all_read row.values (suc n) count start within)))
    ∙ and_then_of_map (zip (elements_of (suc n) start count))
    (λ pairs. of_world (living_reply w) (shown_plan types pairs))
    (all_of (λ (child : Child). read_element row.values child.place) (elements_of (suc n) start count))
    ∙ children_said w types (read_element row.values) (element_store (suc n)) (elements_of (suc n) start count) sound
    ∙ ap (all_of (shown.child_shown w types)) (elements_row w n row.values count start within)

-- of none nothing is asked
none_said : (w : World) (types : Bool) (n start : ℕ)
    → option_and_then (λ pairs. of_world (living_reply w) (shown_plan types pairs))
    (of_world (living_reply w) (elements_valued n start 0)) ≡ Some []
unfolding of_world made_with each
none_said w types n start = refl

elements_counted : (w : World) (types : Bool) (n : ℕ) (row : WorldArray) (start count : ℕ) (found : ℕ) → IsSound w
    → array_in w (object (suc n)) ≡ Some row → found ≤ length row.values - start
    → option_and_then (λ pairs. of_world (living_reply w) (shown_plan types pairs))
    (of_world (living_reply w) (elements_valued (suc n) start found))
    ≡ all_of (shown.child_shown w types) (take found (shown.elements_in w (object (suc n)) start
    (drop start row.values)))
elements_counted w types n row start count zero sound is within = none_said w types (suc n) start
elements_counted w types n row start count (suc found) sound is within =
    elements_said w types n row start (suc found) sound is (omega (arith, within))

-- those that are asked for are a page
pub elements_paged : (w : World) (n start count : ℕ) (row : WorldArray)
    → take (count_from (length row.values) start count)
    (shown.elements_in w (object (suc n)) start (drop start row.values))
    ≡ page start count (shown.elements_in w (object (suc n)) 0 row.values)
elements_paged w n start count row =
    ap (λ i. take (count_from (length row.values) start count)
    (shown.elements_in w (object (suc n)) i (drop start row.values)))
    (let zero_on : start ≡ 0 + start = omega arith in zero_on)
    ∙ ap (take (count_from (length row.values) start count)) (sym (elements_dropped w (suc n) 0 start row.values))
    ∙ ap (λ total. take (count_from total start count) (drop start (shown.elements_in w (object (suc n)) 0 row.values)))
    (sym (elements_many w (suc n) 0 row.values))
    ∙ paged start count (shown.elements_in w (object (suc n)) 0 row.values)

elements_by : (w : World) (types : Bool) (n start count : ℕ) (there : Option WorldArray) → IsSound w
    → array_in w (object (suc n)) ≡ there
    → option_and_then (λ pairs. of_world (living_reply w) (shown_plan types pairs))
    (option_and_then (λ total. of_world (living_reply w) (elements_valued (suc n) start (count_from total start count)))
    (option_map (λ (row : WorldArray). length row.values) there))
    ≡ option_and_then (shown.page_shown w types start count)
    (option_map (λ (row : WorldArray). shown.elements_in w (object (suc n)) 0 row.values) there)
elements_by w types n start count None sound is = refl
elements_by w types n start count (Some row) sound is =
    elements_counted w types n row start count (count_from (length row.values) start count) sound is
    (counted_le (length row.values) start count)
    ∙ ap (all_of (shown.child_shown w types)) (elements_paged w n start count row)

-- a page of an array's elements
pub elements_shown : (w : World) (types : Bool) (n start count : ℕ) → IsSound w
    → option_and_then (λ pairs. of_world (living_reply w) (shown_plan types pairs))
    (of_world (living_reply w) (elements_page start count (suc n)))
    ≡ option_and_then (shown.page_shown w types start count) (shown.elements w (object (suc n)))
elements_shown w types n start count sound =
    ap (option_and_then (λ pairs. of_world (living_reply w) (shown_plan types pairs)))
    (said_chained (living_reply w) (length_plan (suc n))
    (λ total. elements_valued (suc n) start (count_from total start count))
    ∙ ap (option_and_then (λ total. of_world (living_reply w)
    (elements_valued (suc n) start (count_from total start count)))) (length_there w (suc n) sound))
    ∙ elements_by w types n start count (array_in w (object (suc n))) sound refl
