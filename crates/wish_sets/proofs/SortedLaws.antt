-- Slots in wish order: a wish has one at most, at the place to which those before it lead.
use Rattle.std.proofs.Common.{◌≡◌, ℕ, zero, suc, ◌+◌, ◌<◌, ◌≤◌, Bool, true, false, cond, List, [], ◌∷◌, ◌++◌, refl, ap}
use Rattle.std.proofs.Common.{sym, ◌∙◌, subst, length, get_or, Option, Some, None, arith, slice_get}
use Rattle.std.specs.Prelude.{find, is_some, map}
use Rattle.std.specs.List.{position_from, AllByRecursion}
use Rattle.std.specs.List.Sorted.{IsStrictlySortedBy}
use Rattle.std.specs.Ordering.{is_eq, is_lt, match_ordering, ordering_reverse}
use Rattle.std.specs.declared.cmp.Ordering.{Ordering}
use Rattle.std.specs.declared.cmp.Ordering.TheVariants.{Less, Equal, Greater}
use Rattle.wish_sets.specs.declared.slot.Slot.{Slot}
use Rattle.wish_sets.specs.declared.wish.Wish.{Wish}
use Rattle.wish_sets.specs.Forming.{new_place}
use Rattle.wish_sets.specs.Order.{has_wish, is_wish, wish_cmp, wish_total}
use Rattle.wish_sets.specs.Slots.{requests_in, refusals_in}
use Rattle.wish_sets.specs.Standing.{AreSorted}
use Rattle.wish_sets.specs.Wishes.{is_installed}
use Rattle.wish_sets.proofs.WishLaws.{equal_is}
use Rattle.wish_sets.proofs.SlotLaws.{wishes_of}
use Rattle.wish_sets.proofs.StepKept.{wishes_of-append}
use Rattle.wish_sets.proofs.FormedKept.{sorted-front, sorted-rest}

is_less : (o : Ordering) → is_lt o ≡ true → o ≡ Less
is_less Less e = refl
is_less Equal e = absurd (cc)
is_less Greater e = absurd (cc)

less_is : (o : Ordering) → o ≡ Less → is_lt o ≡ true
less_is o e = ap is_lt e

-- a wish that is less, or more, is another
differs_back : (a b : Wish) → wish_cmp a b ≡ Less → is_wish b a ≡ false
differs_back a b e = ap is_eq (wish_total.antisymm b a ∙ ap ordering_reverse e)

differs : (a b : Wish) → wish_cmp a b ≡ Less → is_wish a b ≡ false
differs a b e = ap is_eq e

-- one that is neither less nor the same is more
more : (a b : Wish) → is_lt (wish_cmp a b) ≡ false → is_wish b a ≡ false → wish_cmp b a ≡ Less
more a b e f = by (wish_cmp a b) (wish_total.antisymm b a) e f
  where
    by : (o : Ordering) → wish_cmp b a ≡ ordering_reverse o → is_lt o ≡ false → is_wish b a ≡ false
        → wish_cmp b a ≡ Less
    by Less e f g = absurd (cc)
    by Equal e f g = absurd (let h = ap is_eq e in cc)
    by Greater e f g = e

-- The place of a wish -------------------------------------------------------------------------------------------------

-- one of those behind
behind_at : (first : Wish) (slots : List Slot) (j : ℕ) (d : Slot)
    → AllByRecursion (λ y. wish_cmp first y ≡ Less) (map (λ slot. slot.wish) slots) → j < length slots
    → wish_cmp first (get_or slots j d).wish ≡ Less
behind_at first [] j d all less = absurd (omega (arith, less))
behind_at first (slot ∷ slots) zero d all less = all.0
behind_at first (slot ∷ slots) (suc j) d all less = behind_at first slots j d all.1 (omega (arith, less))

module _ (wish : Wish) where
  abbrev pub is_before : Slot → Bool
  is_before slot = is_lt (wish_cmp slot.wish wish)

  abbrev pub is_its : Slot → Bool
  is_its slot = is_wish wish slot.wish

  pub parted : (slots : List Slot) → AreSorted slots → (i j : ℕ) (d : Slot) → i ≤ j → j < length slots
      → is_before (get_or slots j d) ≡ true → is_before (get_or slots i d) ≡ true
  unfolding IsStrictlySortedBy
  parted [] sorted i j d up less e = absurd (omega (arith, less))
  parted (slot ∷ slots) sorted zero zero d up less e = e
  parted (slot ∷ slots) sorted zero (suc j) d up less e =
      less_is (wish_cmp slot.wish wish) (wish_total.trans slot.wish (get_or slots j d).wish wish
      (behind_at slot.wish slots j d sorted.0 (omega (arith, less)))
      (is_less (wish_cmp (get_or slots j d).wish wish) e))
  parted (slot ∷ slots) sorted (suc i) zero d up less e = absurd (omega (arith, up))
  parted (slot ∷ slots) sorted (suc i) (suc j) d up less e =
      parted slots sorted.1 i j d (omega (arith, up)) (omega (arith, less)) e

  -- none of those behind is this wish, where it isn't behind the first
  none_behind : (first : Wish) (slots : List Slot) → wish_cmp wish first ≡ Less
      → AllByRecursion (λ y. wish_cmp first y ≡ Less) (map (λ slot. slot.wish) slots)
      → find is_its slots ≡ None
  none_behind first [] e all = refl
  none_behind first (slot ∷ slots) e all =
      rw (differs wish slot.wish (wish_total.trans wish first slot.wish e all.0)) (none_behind first slots e all.1)

  -- what stands at a place, where it is of the wish
  abbrev pub its_at : Option Slot → Option Slot
  its_at None = None
  its_at (Some slot) = cond (is_its slot) (Some slot) None

  pub found_at : (slots : List Slot) (n : ℕ) → AreSorted slots
      → ((k : ℕ) (d : Slot) → k < n → k < length slots → is_before (get_or slots k d) ≡ true)
      → ((k : ℕ) (d : Slot) → n ≤ k → k < length slots → is_before (get_or slots k d) ≡ false)
      → find is_its slots ≡ its_at (slice_get slots n)
  unfolding IsStrictlySortedBy
  found_at [] n sorted below above = refl
  found_at (slot ∷ slots) zero sorted below above =
      by (is_its slot) refl
    where
      by : (b : Bool) → is_its slot ≡ b → cond b (Some slot) (find is_its slots) ≡ cond b (Some slot) None
      by true e = refl
      by false e =
          none_behind slot.wish slots (more slot.wish wish (above 0 slot (omega arith) (omega arith)) e) sorted.0
  found_at (slot ∷ slots) (suc n) sorted below above =
      let less = is_less (wish_cmp slot.wish wish) (below 0 slot (omega arith) (omega arith)) in
      rw (differs_back slot.wish wish less)
      (found_at slots n sorted.1 (λ k d before within. below (suc k) d (omega (arith, before)) (omega (arith, within)))
      (λ k d after within. above (suc k) d (omega (arith, after)) (omega (arith, within))))

  -- the place at which it gets a slot, by what stands at the place to which those before it lead
  abbrev pub place_for : ℕ → Option Slot → Option ℕ
  place_for place None = Some place
  place_for place (Some slot) = cond (is_its slot) None (Some place)

  pub placed_at : (from : ℕ) (slots : List Slot) (n : ℕ) → AreSorted slots → n ≤ length slots
      → ((k : ℕ) (d : Slot) → k < n → k < length slots → is_before (get_or slots k d) ≡ true)
      → ((k : ℕ) (d : Slot) → n ≤ k → k < length slots → is_before (get_or slots k d) ≡ false)
      → new_place from wish slots ≡ place_for (from + n) (slice_get slots n)
  unfolding IsStrictlySortedBy
  placed_at from [] n sorted within below above =
      let here : from ≡ from + n = omega (arith, within) in ap Some here
  placed_at from (slot ∷ slots) zero sorted within below above =
      by (wish_cmp wish slot.wish) (λ e. more slot.wish wish (above 0 slot (omega arith) (omega arith)) e)
    where
      here : from ≡ from + 0
      here = omega arith

      by : (o : Ordering) → (is_eq o ≡ false → o ≡ Less)
          → match_ordering o (Some from) None (new_place (from + 1) wish slots)
          ≡ cond (is_eq o) None (Some (from + 0))
      by Less e = ap Some here
      by Equal e = refl
      by Greater e = absurd (let h = e refl in cc)
  placed_at from (slot ∷ slots) (suc n) sorted within below above =
      let less = is_less (wish_cmp slot.wish wish) (below 0 slot (omega arith) (omega arith)) in
      let behind : wish_cmp wish slot.wish ≡ Greater = wish_total.antisymm wish slot.wish ∙ ap ordering_reverse less in
      let here : from + 1 + n ≡ from + suc n = omega arith in
      rw behind
      (placed_at (from + 1) slots n sorted.1 (omega (arith, within))
      (λ k d before inside. below (suc k) d (omega (arith, before)) (omega (arith, inside)))
      (λ k d after inside. above (suc k) d (omega (arith, after)) (omega (arith, inside)))
      ∙ ap (λ place. place_for place (slice_get slots n)) here)

  -- the place of its slot, by what stands at the place to which those before it lead
  abbrev pub its_place : ℕ → Option Slot → Option ℕ
  its_place place None = None
  its_place place (Some slot) = cond (is_its slot) (Some place) None

  none_placed : (n : ℕ) (first : Wish) (slots : List Slot) → wish_cmp wish first ≡ Less
      → AllByRecursion (λ y. wish_cmp first y ≡ Less) (map (λ slot. slot.wish) slots)
      → position_from is_its n slots ≡ None
  none_placed n first [] e all = refl
  none_placed n first (slot ∷ slots) e all =
      rw (differs wish slot.wish (wish_total.trans wish first slot.wish e all.0))
      (none_placed (n + 1) first slots e all.1)

  pub stands_at : (from : ℕ) (slots : List Slot) (n : ℕ) → AreSorted slots
      → ((k : ℕ) (d : Slot) → k < n → k < length slots → is_before (get_or slots k d) ≡ true)
      → ((k : ℕ) (d : Slot) → n ≤ k → k < length slots → is_before (get_or slots k d) ≡ false)
      → position_from is_its from slots ≡ its_place (from + n) (slice_get slots n)
  unfolding IsStrictlySortedBy
  stands_at from [] n sorted below above = refl
  stands_at from (slot ∷ slots) zero sorted below above =
      by (is_its slot) refl
    where
      here : from ≡ from + 0
      here = omega arith

      by : (b : Bool) → is_its slot ≡ b
          → cond b (Some from) (position_from is_its (from + 1) slots) ≡ cond b (Some (from + 0)) None
      by true e = ap Some here
      by false e =
          none_placed (from + 1) slot.wish slots (more slot.wish wish (above 0 slot (omega arith) (omega arith)) e)
          sorted.0
  stands_at from (slot ∷ slots) (suc n) sorted below above =
      let less = is_less (wish_cmp slot.wish wish) (below 0 slot (omega arith) (omega arith)) in
      let here : from + 1 + n ≡ from + suc n = omega arith in
      rw (differs_back slot.wish wish less)
      (stands_at (from + 1) slots n sorted.1
      (λ k d before within. below (suc k) d (omega (arith, before)) (omega (arith, within)))
      (λ k d after within. above (suc k) d (omega (arith, after)) (omega (arith, within)))
      ∙ ap (λ place. its_place place (slice_get slots n)) here)

  -- What stands in its slot -------------------------------------------------------------------------------------------

  none_installed : (slots : List Slot) → find is_its slots ≡ None → is_installed (requests_in slots) wish ≡ false
  none_installed [] e = refl
  none_installed (slot ∷ slots) e = by (is_its slot) refl e slot.request (none_installed slots)
    where
      by : (b : Bool) → is_its slot ≡ b → cond b (Some slot) (find is_its slots) ≡ None → (r : Option ℕ)
          → (find is_its slots ≡ None → is_installed (requests_in slots) wish ≡ false)
          → is_installed (requests_in (record slot { request = r } ∷ slots)) wish ≡ false
      by true f e r again = absurd (cc)
      by false f e None again = again e
      by false f e (Some r) again = rw f (again e)

  none_refused : (slots : List Slot) → find is_its slots ≡ None → has_wish (refusals_in slots) wish ≡ false
  none_refused [] e = refl
  none_refused (slot ∷ slots) e = by (is_its slot) refl e slot.refused (none_refused slots)
    where
      by : (b : Bool) → is_its slot ≡ b → cond b (Some slot) (find is_its slots) ≡ None → (r : Bool)
          → (find is_its slots ≡ None → has_wish (refusals_in slots) wish ≡ false)
          → has_wish (refusals_in (record slot { refused = r } ∷ slots)) wish ≡ false
      by true f e r again = absurd (cc)
      by false f e false again = again e
      by false f e true again = rw f (again e)

  -- behind the slot of the wish there is none of it
  pub one_only : (slot : Slot) (slots : List Slot) → is_its slot ≡ true
      → AllByRecursion (λ y. wish_cmp slot.wish y ≡ Less) (map (λ slot. slot.wish) slots) → find is_its slots ≡ None
  one_only slot [] e all = refl
  one_only slot (other ∷ slots) e all =
      rw (differs wish other.wish (subst (λ w. wish_cmp w other.wish ≡ Less) (sym (equal_is wish slot.wish e)) all.0))
      (one_only slot slots e all.1)

  abbrev pub holds : Option Slot → Bool
  holds None = false
  holds (Some slot) = is_some slot.request

  pub installed_slot : (slots : List Slot) → AreSorted slots
      → is_installed (requests_in slots) wish ≡ holds (find is_its slots)
  unfolding IsStrictlySortedBy
  installed_slot [] sorted = refl
  installed_slot (slot ∷ slots) sorted =
      by (is_its slot) refl slot.request (installed_slot slots sorted.1)
      (λ e. none_installed slots (one_only slot slots e sorted.0))
    where
      by : (b : Bool) → is_its slot ≡ b → (r : Option ℕ)
          → is_installed (requests_in slots) wish ≡ holds (find is_its slots)
          → (is_its slot ≡ true → is_installed (requests_in slots) wish ≡ false)
          → is_installed (requests_in (record slot { request = r } ∷ slots)) wish
          ≡ holds (cond b (Some (record slot { request = r })) (find is_its slots))
      by true e None again none = none e
      by true e (Some r) again none = rw e refl
      by false e None again none = again
      by false e (Some r) again none = rw e again

  abbrev pub refuses : Option Slot → Bool
  refuses None = false
  refuses (Some slot) = slot.refused

  pub refused_slot : (slots : List Slot) → AreSorted slots
      → has_wish (refusals_in slots) wish ≡ refuses (find is_its slots)
  unfolding IsStrictlySortedBy
  refused_slot [] sorted = refl
  refused_slot (slot ∷ slots) sorted =
      by (is_its slot) refl slot.refused (refused_slot slots sorted.1)
      (λ e. none_refused slots (one_only slot slots e sorted.0))
    where
      by : (b : Bool) → is_its slot ≡ b → (r : Bool)
          → has_wish (refusals_in slots) wish ≡ refuses (find is_its slots)
          → (is_its slot ≡ true → has_wish (refusals_in slots) wish ≡ false)
          → has_wish (refusals_in (record slot { refused = r } ∷ slots)) wish
          ≡ refuses (cond b (Some (record slot { refused = r })) (find is_its slots))
      by true e false again none = none e
      by true e true again none = rw e refl
      by false e false again none = again
      by false e true again none = rw e again

-- two lists of slots, one behind the other
pub both_sorted : (slots fixed : List Slot) → AreSorted (slots ++ fixed) → AreSorted slots × AreSorted fixed
both_sorted slots fixed sorted =
    let all = subst (IsStrictlySortedBy wish_cmp) (wishes_of-append slots fixed) sorted in
    (sorted-front (wishes_of slots) (wishes_of fixed) all, sorted-rest (wishes_of slots) (wishes_of fixed) all)
