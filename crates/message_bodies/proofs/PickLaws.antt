-- The item that is next, by its place.
use Rattle.std.proofs.Common.{◌≡◌, ℕ, ◌+◌, suc, Bool, true, false, cond, not, List, [], ◌∷◌, ◌++◌, Option, Some, None}
use Rattle.std.proofs.Common.{refl, sym, ap, subst, ◌∙◌, arith, length, get_or}
use Rattle.std.specs.Prelude.{nat_lt, option_map, position, set}
use Rattle.std.specs.List.{position_or_len, remove}
use Rattle.machine_model.specs.Due.{Picked, passed_by, pick}
use Rattle.machine_model.specs.State.{has_raw, is_raw}
use Rattle.machine_model.specs.declared.items.Item.{Item}
use Rattle.message_bodies.specs.Waiting.{is_next}

-- Places --------------------------------------------------------------------------------------------------------------

first_less : (count : ℕ) → nat_lt 0 (suc count) ≡ true
first_less count = grind arith

more_less : (n count : ℕ) → nat_lt (1 + n) (suc count) ≡ nat_lt n count
more_less n count = grind arith

-- the place in a list is 0, or one more than that in the rest
position_first : (test : Item → Bool) (item : Item) (items : List Item)
    → position test (item ∷ items) ≡ cond (test item) (Some 0) (option_map (λ (n : ℕ). 1 + n) (position test items))
position_first test item items = by_test (test item) refl
  where
    by_less : (less : Bool) (n : ℕ) → cond less (Some (1 + n)) None
        ≡ option_map (λ (n : ℕ). 1 + n) (cond less (Some n) None)
    by_less true n = refl
    by_less false n = refl

    by_test : (passes : Bool) → test item ≡ passes → position test (item ∷ items)
        ≡ cond passes (Some 0) (option_map (λ (n : ℕ). 1 + n) (position test items))
    by_test true is = rw (is, first_less (length items)) refl
    by_test false is =
        rw (is, more_less (position_or_len test items) (length items))
        (by_less (nat_lt (position_or_len test items) (length items)) (position_or_len test items))

-- The item ------------------------------------------------------------------------------------------------------------

passes : (gone : Bool) (item : Item) → cond gone false (is_raw item) ≡ not (is_next gone item)
passes true item = refl
passes false item = by_raw (is_raw item)
  where
    by_raw : (raw : Bool) → raw ≡ not (not raw)
    by_raw true = refl
    by_raw false = refl

abbrev taken : Item → List Item → Option Picked
taken item items = Some (record { item = item; rest = items })

-- where none can be begun
pub picks_none : (gone : Bool) (items : List Item) → position (is_next gone) items ≡ None → pick gone items ≡ None
picks_none gone [] is = refl
picks_none gone (item ∷ items) is =
    by_next (is_next gone item) refl (sym (position_first (is_next gone) item items) ∙ is)
    (λ none. picks_none gone items none)
  where
    rest_none : (found : Option ℕ) → option_map (λ (n : ℕ). 1 + n) found ≡ None → found ≡ None
    rest_none None is = refl
    rest_none (Some n) is = cc

    by_next : (next : Bool) → is_next gone item ≡ next
        → cond next (Some 0) (option_map (λ (n : ℕ). 1 + n) (position (is_next gone) items)) ≡ None
        → (position (is_next gone) items ≡ None → pick gone items ≡ None) → pick gone (item ∷ items) ≡ None
    by_next true at is rest = cc
    by_next false at is rest =
        rw (passes gone item, at, rest (rest_none (position (is_next gone) items) is)) refl

-- the first that can be, and the others
pub picks : (gone : Bool) (items : List Item) (place : ℕ) (item : Item) → position (is_next gone) items ≡ Some place
    → item ≡ get_or items place item
    → pick gone items ≡ Some (record { item = item; rest = remove items place })
picks gone [] place item is at = cc
picks gone (first ∷ items) place item is at =
    by_next (is_next gone first) refl (sym (position_first (is_next gone) first items) ∙ is)
    (λ n there same. picks gone items n item there same)
  where
    by_rest : (found : Option ℕ) → position (is_next gone) items ≡ found
        → option_map (λ (n : ℕ). 1 + n) found ≡ Some place
        → ((n : ℕ) → position (is_next gone) items ≡ Some n → item ≡ get_or items n item
        → pick gone items ≡ Some (record { item = item; rest = remove items n }))
        → passed_by first (pick gone items) ≡ Some (record { item = item; rest = remove (first ∷ items) place })
    by_rest None there is rest = cc
    by_rest (Some n) there is rest =
        let more : 1 + n ≡ place = cc in
        let place_is : place ≡ suc n = omega arith in
        let item_is : item ≡ get_or items n item =
        at ∙ ap (λ (k : ℕ). get_or (first ∷ items) k item) place_is in
        rw (place_is, rest n there item_is) refl

    by_next : (next : Bool) → is_next gone first ≡ next
        → cond next (Some 0) (option_map (λ (n : ℕ). 1 + n) (position (is_next gone) items)) ≡ Some place
        → ((n : ℕ) → position (is_next gone) items ≡ Some n → item ≡ get_or items n item
        → pick gone items ≡ Some (record { item = item; rest = remove items n }))
        → pick gone (first ∷ items) ≡ Some (record { item = item; rest = remove (first ∷ items) place })
    by_next true here is rest =
        let zero_is : 0 ≡ place = cc in
        let same : item ≡ first = at ∙ ap (λ (k : ℕ). get_or (first ∷ items) k item) (sym zero_is) in
        rw (passes gone first, here)
        (subst (λ (k : ℕ). taken first items ≡ taken item (remove (first ∷ items) k)) zero_is
        (ap (λ (i : Item). taken i items) (sym same)))
    by_next false here is rest =
        rw (passes gone first, here) (by_rest (position (is_next gone) items) refl is rest)

-- Composites that were kept -------------------------------------------------------------------------------------------

pub none_kept : (items : List Item) → position is_raw items ≡ None → has_raw items ≡ false
none_kept [] is = refl
none_kept (item ∷ items) is =
    by_raw (is_raw item) refl (sym (position_first is_raw item items) ∙ is) (λ none. none_kept items none)
  where
    rest_none : (found : Option ℕ) → option_map (λ (n : ℕ). 1 + n) found ≡ None → found ≡ None
    rest_none None is = refl
    rest_none (Some n) is = cc

    by_raw : (raw : Bool) → is_raw item ≡ raw
        → cond raw (Some 0) (option_map (λ (n : ℕ). 1 + n) (position is_raw items)) ≡ None
        → (position is_raw items ≡ None → has_raw items ≡ false) → has_raw (item ∷ items) ≡ false
    by_raw true at is rest = cc
    by_raw false at is rest = rw (at, rest (rest_none (position is_raw items) is)) refl

-- the first of them, between those before it and those behind it
pub record IsKeptAt (items : List Item) (place : ℕ) (item : Item) : Type 0 where
  pub before : List Item
  pub after : List Item
  pub items_are : items ≡ before ++ item ∷ after
  pub is_first : has_raw before ≡ false
  pub replaced : (other : Item) → set items place other ≡ before ++ other ∷ after

pub kept_at : (items : List Item) (place : ℕ) (item : Item) → position is_raw items ≡ Some place
    → item ≡ get_or items place item → IsKeptAt items place item
kept_at [] place item is at = cc
kept_at (first ∷ items) place item is at =
    by_raw (is_raw first) refl (sym (position_first is_raw first items) ∙ is)
    (λ n there same. kept_at items n item there same)
  where
    by_rest : (found : Option ℕ) → position is_raw items ≡ found → is_raw first ≡ false
        → option_map (λ (n : ℕ). 1 + n) found ≡ Some place
        → ((n : ℕ) → position is_raw items ≡ Some n → item ≡ get_or items n item → IsKeptAt items n item)
        → IsKeptAt (first ∷ items) place item
    by_rest None there none is rest = cc
    by_rest (Some n) there none is rest =
        let more : 1 + n ≡ place = cc in
        let place_is : place ≡ suc n = omega arith in
        let found = rest n there (at ∙ ap (λ (k : ℕ). get_or (first ∷ items) k item) place_is) in
        record {
          before = first ∷ found.before;
          after = found.after;
          items_are = ap (λ (others : List Item). first ∷ others) found.items_are;
          is_first = rw (none, found.is_first) refl;
          replaced = λ other. ap (λ (k : ℕ). set (first ∷ items) k other) place_is
              ∙ ap (λ (others : List Item). first ∷ others) (found.replaced other);
        }

    by_raw : (raw : Bool) → is_raw first ≡ raw
        → cond raw (Some 0) (option_map (λ (n : ℕ). 1 + n) (position is_raw items)) ≡ Some place
        → ((n : ℕ) → position is_raw items ≡ Some n → item ≡ get_or items n item → IsKeptAt items n item)
        → IsKeptAt (first ∷ items) place item
    by_raw true here is rest =
        let zero_is : 0 ≡ place = cc in
        let same : item ≡ first = at ∙ ap (λ (k : ℕ). get_or (first ∷ items) k item) (sym zero_is) in
        record {
          before = [];
          after = items;
          items_are = ap (λ (i : Item). i ∷ items) (sym same);
          is_first = refl;
          replaced = λ other. ap (λ (k : ℕ). set (first ∷ items) k other) (sym zero_is);
        }
    by_raw false here is rest = by_rest (position is_raw items) refl here is rest
