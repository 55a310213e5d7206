-- How often wishes are among others, and how the numbers of slots change by them.
use Rattle.std.proofs.Common.{◌≡◌, ℕ, zero, suc, ◌+◌, ◌-◌, ◌<◌, ◌≤◌, ◌^◌, Bool, true, false, cond, List, [], ◌∷◌, ◌++◌}
use Rattle.std.proofs.Common.{refl, ap, sym, ◌∙◌, subst, length, get_or, Option, Some, None, arith}
use Rattle.std.specs.Prelude.{◌||◌, ◌&&◌, nat_lt, filter, find, map, is_some, not}
use Rattle.std.specs.List.{AllByRecursion, position_from}
use Rattle.std.specs.List.Sorted.{IsStrictlySortedBy}
use Rattle.std.specs.Ordering.{is_eq}
use Rattle.std.specs.declared.cmp.Ordering.TheVariants.{Less}
use Rattle.std.proofs.lemmas.Bool.{lt-ltb, ltb-true}
use Rattle.wish_sets.specs.declared.slot.Slot.{Slot}
use Rattle.wish_sets.specs.declared.wish.Wish.{Wish}
use Rattle.wish_sets.specs.Counts.{times, moved, moved_all, raised, raised_all, lowered, lowered_all}
use Rattle.wish_sets.specs.Counts.{HaveRoom}
use Rattle.wish_sets.specs.Forming.{has_its_slot}
use Rattle.wish_sets.specs.Kept.{is_sound}
use Rattle.wish_sets.specs.Order.{has_wish, is_wish, wish_cmp, wish_rank}
use Rattle.wish_sets.specs.Slots.{requests_in, refusals_in, counted_slot, with_first}
use Rattle.wish_sets.specs.Slots.{AreNumbered, AreFlagged, AreWithin}
use Rattle.wish_sets.specs.Standing.{AreSorted}
use Rattle.wish_sets.proofs.FirstLaws.{each_changed, length-changed, place_above}
use Rattle.wish_sets.proofs.FormingLaws.{is_wish_sym}
use Rattle.wish_sets.proofs.SlotLaws.{wishes_of, has_slot}
use Rattle.wish_sets.proofs.SortedLaws.{one_only}
use Rattle.wish_sets.proofs.WishLaws.{equal_is}

-- How often -----------------------------------------------------------------------------------------------------------

pub times-append : (wish : Wish) (xs ys : List Wish) → times wish (xs ++ ys) ≡ times wish xs + times wish ys
times-append wish [] ys = omega arith
times-append wish (x ∷ xs) ys = by (is_wish wish x) (times-append wish xs ys)
  where
    by : (b : Bool) → times wish (xs ++ ys) ≡ times wish xs + times wish ys
        → cond b (suc (times wish (xs ++ ys))) (times wish (xs ++ ys))
        ≡ cond b (suc (times wish xs)) (times wish xs) + times wish ys
    by true e = omega (arith, e)
    by false e = e

pub is_above : (n : ℕ) → nat_lt 0 (suc n) ≡ true
is_above n = lt-ltb 0 (suc n) (omega arith)

-- a wish is among those where it is so more than never
pub times-has : (wish : Wish) (those : List Wish) → nat_lt 0 (times wish those) ≡ has_wish those wish
times-has wish [] = refl
times-has wish (other ∷ those) = by (is_wish wish other) (times-has wish those)
  where
    by : (b : Bool) → nat_lt 0 (times wish those) ≡ has_wish those wish
        → nat_lt 0 (cond b (suc (times wish those)) (times wish those)) ≡ (b || has_wish those wish)
    by true e = is_above (times wish those)
    by false e = e

pub times-le : (wish : Wish) (those : List Wish) → times wish those ≤ length those
times-le wish [] = omega arith
times-le wish (other ∷ those) = by (is_wish wish other) (times-le wish those)
  where
    by : (b : Bool) → times wish those ≤ length those
        → cond b (suc (times wish those)) (times wish those) ≤ suc (length those)
    by true e = omega (arith, e)
    by false e = omega (arith, e)

-- One slot is touched ------------------------------------------------------------------------------------------------

differs : (a b : Wish) → wish_cmp a b ≡ Less → is_wish a b ≡ false
differs a b e = ap is_eq e

module _ (wish : Wish) (change : Slot → Slot) where
  abbrev touched : Slot → Slot
  touched slot = cond (is_wish wish slot.wish) (change slot) slot

  none_touched : (first : Wish) (slots : List Slot) → wish ≡ first
      → AllByRecursion (λ other. wish_cmp first other ≡ Less) (wishes_of slots) → map touched slots ≡ slots
  none_touched first [] e all = refl
  none_touched first (slot ∷ slots) e all =
      let other : is_wish wish slot.wish ≡ false = differs wish slot.wish
      (subst (λ w. wish_cmp w slot.wish ≡ Less) (sym e) all.0) in
      rw other (ap (λ xs. slot ∷ xs) (none_touched first slots e all.1))

  -- the first slot of a wish is the only one
  pub alone : (slots : List Slot) → AreSorted slots
      → with_first (λ slot. is_wish wish slot.wish) change slots ≡ map touched slots
  unfolding IsStrictlySortedBy
  alone [] sorted = refl
  alone (slot ∷ slots) sorted = by (is_wish wish slot.wish) refl (alone slots sorted.1)
    where
      by : (b : Bool) → is_wish wish slot.wish ≡ b
          → with_first (λ slot. is_wish wish slot.wish) change slots ≡ map touched slots
          → cond b (change slot ∷ slots) (slot ∷ with_first (λ slot. is_wish wish slot.wish) change slots)
          ≡ cond b (change slot) slot ∷ map touched slots
      by true e again =
          ap (λ xs. change slot ∷ xs) (sym (none_touched slot.wish slots (equal_is wish slot.wish e) sorted.0))
      by false e again = ap (λ xs. slot ∷ xs) again

-- slots of these numbers
abbrev pub recount : (Slot → ℕ) → List Slot → List Slot
recount number slots = map (λ slot. counted_slot (number slot) slot) slots

pub wishes_recount : (number : Slot → ℕ) (slots : List Slot) → wishes_of (recount number slots) ≡ wishes_of slots
wishes_recount number [] = refl
wishes_recount number (slot ∷ slots) = ap (λ ws. slot.wish ∷ ws) (wishes_recount number slots)

-- a slot whose number is what it is stays
abbrev pub IsCounted : Slot → Type 0
IsCounted slot = counted_slot slot.count slot ≡ slot

pub counted_is : (slot : Slot) → slot.wished ≡ nat_lt 0 slot.count → is_sound slot ≡ true → IsCounted slot
counted_is slot flag sound = by (nat_lt 0 slot.count) flag slot.refused (is_some slot.request) sound
  where
    by : (b : Bool) → slot.wished ≡ b → (r i : Bool) → (not r || (slot.wished && not i)) ≡ true
        → record slot { wished = b; refused = r && b } ≡ record slot { refused = r }
    by true e true i s = ap (λ w. record slot { wished = w; refused = true }) (sym e)
    by true e false i s = ap (λ w. record slot { wished = w; refused = false }) (sym e)
    by false e true i s =
        absurd (let h : (slot.wished && not i) ≡ true = s in let k : (false && not i) ≡ true = rw e at h in cc)
    by false e false i s = ap (λ w. record slot { wished = w; refused = false }) (sym e)

counted_again : (n m : ℕ) (slot : Slot) → (nat_lt 0 n && nat_lt 0 m) ≡ nat_lt 0 m
    → counted_slot m (counted_slot n slot) ≡ counted_slot m slot
counted_again n m slot e =
    ap (λ r. record slot { count = m; wished = nat_lt 0 m; refused = r })
    (and_turn slot.refused (nat_lt 0 n) (nat_lt 0 m) ∙ ap (λ b. slot.refused && b) e)
  where
    and_turn : (a b c : Bool) → ((a && b) && c) ≡ (a && (b && c))
    and_turn true b c = refl
    and_turn false b c = refl

map-both : {A : Type 0} (f g h : A → A) → ((x : A) → f (g x) ≡ h x) → (xs : List A) → map f (map g xs) ≡ map h xs
map-both f g h e [] = refl
map-both f g h e (x ∷ xs) = ap (λ y. y ∷ map f (map g xs)) (e x) ∙ ap (λ ys. h x ∷ ys) (map-both f g h e xs)

map-same : {A : Type 0} (f : A → A) (P : A → Type 0) → ((x : A) → P x → f x ≡ x) → (xs : List A) → AllByRecursion P xs
    → map f xs ≡ xs
map-same f P e [] all = refl
map-same f P e (x ∷ xs) all = ap (λ y. y ∷ map f xs) (e x all.0) ∙ ap (λ ys. x ∷ ys) (map-same f P e xs all.1)

-- numbers change by steps
module _ (step : ℕ → ℕ) (total : ℕ → ℕ → ℕ) (none : (c : ℕ) → total c 0 ≡ c)
    (more : (c n : ℕ) → total (step c) n ≡ total c (suc n))
    (stays : (c n : ℕ) → (nat_lt 0 (step c) && nat_lt 0 (total (step c) n)) ≡ nat_lt 0 (total (step c) n)) where
  abbrev one_step : Slot → Slot
  one_step slot = counted_slot (step slot.count) slot

  pub sorted_moved : (wish : Wish) (slots : List Slot) → AreSorted slots → AreSorted (moved step wish slots)
  sorted_moved wish slots sorted =
      subst (IsStrictlySortedBy wish_cmp) (sym (wishes_moved slots)) sorted
    where
      wishes_moved : (slots : List Slot) → wishes_of (moved step wish slots) ≡ wishes_of slots
      wishes_moved [] = refl
      wishes_moved (slot ∷ slots) = by (is_wish wish slot.wish) (wishes_moved slots)
        where
          by : (b : Bool) → wishes_of (moved step wish slots) ≡ wishes_of slots
              → wishes_of (cond b (one_step slot ∷ slots) (slot ∷ moved step wish slots))
              ≡ slot.wish ∷ wishes_of slots
          by true e = refl
          by false e = ap (λ ws. slot.wish ∷ ws) e

  counted_moved : (wish : Wish) (slots : List Slot) → AllByRecursion IsCounted slots
      → AllByRecursion IsCounted (moved step wish slots)
  counted_moved wish slots all =
      each_changed (λ slot. is_wish wish slot.wish) one_step IsCounted
      (λ slot e is. counted_again (step slot.count) (step slot.count) slot (same (nat_lt 0 (step slot.count)))) slots all
    where
      same : (b : Bool) → (b && b) ≡ b
      same true = refl
      same false = refl

  pub moved_is : (those : List Wish) (slots : List Slot) → AreSorted slots → AllByRecursion IsCounted slots
      → moved_all step those slots ≡ recount (λ slot. total slot.count (times slot.wish those)) slots
  moved_is [] slots sorted all =
      sym (map-same (λ slot. counted_slot (total slot.count 0) slot) IsCounted
      (λ slot is. ap (λ n. counted_slot n slot) (none slot.count) ∙ is) slots all)
  moved_is (wish ∷ those) slots sorted all =
      moved_is those (moved step wish slots) (sorted_moved wish slots sorted) (counted_moved wish slots all)
      ∙ (ap (recount after) (alone wish one_step slots sorted)
      ∙ map-both (λ slot. counted_slot (after slot) slot) (touched wish one_step)
      (λ slot. counted_slot (total slot.count (times slot.wish (wish ∷ those))) slot) each slots)
    where
      after : Slot → ℕ
      after slot = total slot.count (times slot.wish those)

      by : (slot : Slot) (b : Bool) → counted_slot (after (cond b (one_step slot) slot)) (cond b (one_step slot) slot)
          ≡ counted_slot (total slot.count (cond b (suc (times slot.wish those)) (times slot.wish those))) slot
      by slot true =
          counted_again (step slot.count) (total (step slot.count) (times slot.wish those)) slot
          (stays slot.count (times slot.wish those))
          ∙ ap (λ n. counted_slot n slot) (more slot.count (times slot.wish those))
      by slot false = refl

      each : (slot : Slot) → counted_slot (after (touched wish one_step slot)) (touched wish one_step slot)
          ≡ counted_slot (total slot.count (times slot.wish (wish ∷ those))) slot
      each slot = rw (← is_wish_sym wish slot.wish) (by slot (is_wish wish slot.wish))

both_above : (a b : ℕ) → (nat_lt 0 b ≡ true → 0 < a) → (nat_lt 0 a && nat_lt 0 b) ≡ nat_lt 0 b
both_above a b above = by (nat_lt 0 b) refl
  where
    by : (c : Bool) → nat_lt 0 b ≡ c → (nat_lt 0 a && c) ≡ c
    by true e = rw (lt-ltb 0 a (above e)) refl
    by false e = none (nat_lt 0 a)
      where
        none : (d : Bool) → (d && false) ≡ false
        none true = refl
        none false = refl

pub raised_is : (those : List Wish) (slots : List Slot) → AreSorted slots → AllByRecursion IsCounted slots
    → raised_all those slots ≡ recount (λ slot. slot.count + times slot.wish those) slots
raised_is = moved_is (λ n. n + 1) ◌+◌ (λ c. omega arith) (λ c n. omega arith)
    (λ c n. both_above (c + 1) (c + 1 + n) (λ e. omega arith))

pub lowered_is : (those : List Wish) (slots : List Slot) → AreSorted slots → AllByRecursion IsCounted slots
    → lowered_all those slots ≡ recount (λ slot. slot.count - times slot.wish those) slots
lowered_is = moved_is (λ n. n - 1) ◌-◌ (λ c. omega arith) (λ c n. omega arith)
    (λ c n. both_above (c - 1) (c - 1 - n) (λ e. omega (arith, ltb-true 0 (c - 1 - n) e)))

pub counted_recount : (number : Slot → ℕ) (slots : List Slot) → AllByRecursion IsCounted (recount number slots)
counted_recount number [] = tt
counted_recount number (slot ∷ slots) =
    (counted_again (number slot) (number slot) slot (same (nat_lt 0 (number slot))), counted_recount number slots)
  where
    same : (b : Bool) → (b && b) ≡ b
    same true = refl
    same false = refl

-- numbers go up and then down to what they are
pub shifted_is : (added taken : List Wish) (number : Wish → ℕ) (slots : List Slot) → AreSorted slots
    → AllByRecursion IsCounted slots
    → AllByRecursion (λ slot. number slot.wish + times slot.wish taken ≡ slot.count + times slot.wish added) slots
    → lowered_all taken (raised_all added slots) ≡ recount (λ slot. number slot.wish) slots
shifted_is added taken number slots sorted counted all =
    ap (lowered_all taken) (raised_is added slots sorted counted)
    ∙ (lowered_is taken (recount up slots) (subst (IsStrictlySortedBy wish_cmp) (sym (wishes_recount up slots)) sorted)
    (counted_recount up slots)
    ∙ each slots all)
  where
    up : Slot → ℕ
    up slot = slot.count + times slot.wish added

    each : (slots : List Slot)
        → AllByRecursion (λ slot. number slot.wish + times slot.wish taken ≡ slot.count + times slot.wish added) slots
        → recount (λ slot. slot.count - times slot.wish taken) (recount up slots)
        ≡ recount (λ slot. number slot.wish) slots
    each [] all = refl
    each (slot ∷ slots) all =
        ap (λ x. x ∷ recount (λ slot. slot.count - times slot.wish taken) (recount up slots))
        (counted_again (up slot) (up slot - times slot.wish taken) slot
        (both_above (up slot) (up slot - times slot.wish taken)
        (λ e. omega (arith, ltb-true 0 (up slot - times slot.wish taken) e)))
        ∙ ap (λ n. counted_slot n slot)
        (let law = all.0 in let is : up slot - times slot.wish taken ≡ number slot.wish = omega (arith, law) in is))
        ∙ ap (λ xs. counted_slot (number slot.wish) slot ∷ xs) (each slots all.1)

-- Slots of other numbers ----------------------------------------------------------------------------------------------

module _ (number : Wish → ℕ) where
  abbrev renumbered : List Slot → List Slot
  renumbered slots = recount (λ slot. number slot.wish) slots

  abbrev test : Wish → Bool
  test wish = nat_lt 0 (number wish)

  pub requests_renumbered : (slots : List Slot) → requests_in (renumbered slots) ≡ requests_in slots
  requests_renumbered [] = refl
  requests_renumbered (slot ∷ slots) = by slot.request (requests_renumbered slots)
    where
      by : (o : Option ℕ) → requests_in (renumbered slots) ≡ requests_in slots
          → requests_in (renumbered (record slot { request = o } ∷ slots))
          ≡ requests_in (record slot { request = o } ∷ slots)
      by None e = e
      by (Some request) e = ap (λ rs. record { wish = slot.wish; request = request } ∷ rs) e

  pub refusals_renumbered : (slots : List Slot) → refusals_in (renumbered slots) ≡ filter test (refusals_in slots)
  refusals_renumbered [] = refl
  refusals_renumbered (slot ∷ slots) = by slot.refused (test slot.wish) refl (refusals_renumbered slots)
    where
      by : (b c : Bool) → test slot.wish ≡ c → refusals_in (renumbered slots) ≡ filter test (refusals_in slots)
          → refusals_in (renumbered (record slot { refused = b } ∷ slots))
          ≡ filter test (refusals_in (record slot { refused = b } ∷ slots))
      by false c f e = e
      by true true f e = rw f (ap (λ ws. slot.wish ∷ ws) e)
      by true false f e = rw f e

  pub sound_renumbered : (slots : List Slot) → AllByRecursion (λ slot. is_sound slot ≡ true) slots
      → AllByRecursion (λ slot. is_sound slot ≡ true) (renumbered slots)
  sound_renumbered [] all = tt
  sound_renumbered (slot ∷ slots) all =
      (by slot.refused (test slot.wish) slot.wished (is_some slot.request) all.0, sound_renumbered slots all.1)
    where
      by : (r t w i : Bool) → (not r || (w && not i)) ≡ true → (not (r && t) || (t && not i)) ≡ true
      by false t w i e = refl
      by true false w i e = refl
      by true true true false e = refl
      by true true true true e = absurd (cc)
      by true true false i e = absurd (cc)

  pub early_renumbered : (slots : List Slot) → AllByRecursion (λ slot. wish_rank slot.wish < 4) slots
      → AllByRecursion (λ slot. wish_rank slot.wish < 4) (renumbered slots)
  early_renumbered [] all = tt
  early_renumbered (slot ∷ slots) all = (all.0, early_renumbered slots all.1)

  pub length_renumbered : (slots : List Slot) → length (renumbered slots) ≡ length slots
  length_renumbered [] = refl
  length_renumbered (slot ∷ slots) = ap suc (length_renumbered slots)

  pub numbers_renumbered : (slots : List Slot) → AreNumbered number (renumbered slots)
  numbers_renumbered [] = tt
  numbers_renumbered (slot ∷ slots) = (refl, numbers_renumbered slots)

  pub flags_renumbered : (slots : List Slot) → AreFlagged (renumbered slots)
  flags_renumbered [] = tt
  flags_renumbered (slot ∷ slots) = (refl, flags_renumbered slots)

  pub slots_renumbered : (wish : Wish) (slots : List Slot)
      → has_its_slot (renumbered slots) wish ≡ has_its_slot slots wish
  slots_renumbered wish [] = refl
  slots_renumbered wish (slot ∷ slots) = ap (λ b. is_wish wish slot.wish || b) (slots_renumbered wish slots)

  pub has_renumbered : (slots : List Slot) (wish : Wish)
      → has_slot (λ slot. slot.wished) (renumbered slots) wish ≡ (test wish && has_its_slot slots wish)
  has_renumbered [] wish = by (test wish)
    where
      by : (b : Bool) → false ≡ (b && false)
      by true = refl
      by false = refl
  has_renumbered (slot ∷ slots) wish = by (is_wish wish slot.wish) refl (has_renumbered slots wish)
    where
      same : (b c : Bool) → (b || (b && c)) ≡ b
      same true c = refl
      same false c = refl

      and-true : (b : Bool) → (b && true) ≡ b
      and-true true = refl
      and-true false = refl

      and-false : (b : Bool) → (b && false) ≡ false
      and-false true = refl
      and-false false = refl

      by : (b : Bool) → is_wish wish slot.wish ≡ b
          → has_slot (λ slot. slot.wished) (renumbered slots) wish ≡ (test wish && has_its_slot slots wish)
          → ((test slot.wish && is_wish wish slot.wish) || has_slot (λ slot. slot.wished) (renumbered slots) wish)
          ≡ (test wish && (is_wish wish slot.wish || has_its_slot slots wish))
      by true e again =
          rw (e, ← equal_is wish slot.wish e, again, and-true (test wish)) (same (test wish) (has_its_slot slots wish))
      by false e again = rw (e, and-false (test slot.wish)) again

-- Room ----------------------------------------------------------------------------------------------------------------

-- what is raised has room for the others
pub room_raised : (most : ℕ) (wish : Wish) (slots : List Slot) (those : List Wish) → HaveRoom most slots those
    → HaveRoom (most + 1) (raised wish slots) those
room_raised most wish slots [] all = tt
room_raised most wish slots (other ∷ those) all =
    (within slots all.0, room_raised most wish slots those all.1)
  where
    within : (slots : List Slot) → AreWithin other most slots → AreWithin other (most + 1) (raised wish slots)
    within [] all = tt
    within (slot ∷ slots) all = by (is_wish wish slot.wish) (within slots all.1)
      where
        wider : (slots : List Slot) → AreWithin other most slots → AreWithin other (most + 1) slots
        wider [] all = tt
        wider (slot ∷ slots) all = (λ e. (let h = all.0 e in omega (arith, h)), wider slots all.1)

        by : (b : Bool) → AreWithin other (most + 1) (raised wish slots)
            → AreWithin other (most + 1)
            (cond b (counted_slot (slot.count + 1) slot ∷ slots) (slot ∷ raised wish slots))
        by true again = (λ e. (let h = all.0 e in omega (arith, h)), wider slots all.1)
        by false again = (λ e. (let h = all.0 e in omega (arith, h)), again)

pub room_is : (most : ℕ) (wish : Wish) (slots : List Slot) → AreWithin wish most slots → most + 1 < 2 ^ 64
    → AllByRecursion (λ slot. is_wish wish slot.wish ≡ true → slot.count + 1 < 2 ^ 64) slots
room_is most wish [] all less = tt
room_is most wish (slot ∷ slots) all less =
    (λ e. (let h = all.0 e in omega (arith, h, less)), room_is most wish slots all.1 less)

-- Places of slots ----------------------------------------------------------------------------------------------------

pub room_at : (wish : Wish) (n : ℕ) (slots : List Slot) (k : ℕ) (d : Slot)
    → AllByRecursion (λ slot. is_wish wish slot.wish ≡ true → slot.count + 1 < 2 ^ 64) slots
    → position_from (λ slot. is_wish wish slot.wish) n slots ≡ Some (n + k) → (get_or slots k d).count + 1 < 2 ^ 64
room_at wish n [] k d all e = absurd (cc)
room_at wish n (slot ∷ slots) k d all e =
    by (is_wish wish slot.wish) refl k e (λ j. room_at wish (n + 1) slots j d all.1)
  where
    by : (b : Bool) → is_wish wish slot.wish ≡ b → (k : ℕ)
        → cond b (Some n) (position_from (λ slot. is_wish wish slot.wish) (n + 1) slots) ≡ Some (n + k)
        → ((j : ℕ) → position_from (λ slot. is_wish wish slot.wish) (n + 1) slots ≡ Some (n + 1 + j)
        → (get_or slots j d).count + 1 < 2 ^ 64) → (get_or (slot ∷ slots) k d).count + 1 < 2 ^ 64
    by true f zero e again = all.0 f
    by true f (suc k) e again = absurd (let h : n ≡ n + suc k = cc in omega (arith, h))
    by false f zero e again =
        absurd (let h = place_above (λ slot. is_wish wish slot.wish) (n + 1) slots (n + 0) e in omega (arith, h))
    by false f (suc k) e again =
        let same : n + suc k ≡ n + 1 + k = omega arith in again k (e ∙ ap Some same)

module _ (wish : Wish) (most : ℕ) where
  abbrev is_its : Slot → Bool
  is_its slot = is_wish wish slot.wish

  pub within_nowhere : (slots : List Slot) → find is_its slots ≡ None → AreWithin wish most slots
  within_nowhere [] e = tt
  within_nowhere (slot ∷ slots) e = by (is_its slot) refl e (within_nowhere slots)
    where
      by : (b : Bool) → is_its slot ≡ b → cond b (Some slot) (find is_its slots) ≡ None
          → (find is_its slots ≡ None → AreWithin wish most slots) → AreWithin wish most (slot ∷ slots)
      by true f e again = absurd (cc)
      by false f e again = (λ g. absurd (cc), again e)

  pub within_found : (slots : List Slot) (found : Slot) → AreSorted slots → find is_its slots ≡ Some found
      → found.count ≤ most → AreWithin wish most slots
  unfolding IsStrictlySortedBy
  within_found [] found sorted e less = tt
  within_found (slot ∷ slots) found sorted e less =
      by (is_its slot) refl e (λ f. within_found slots found sorted.1 f less)
      (λ f. within_nowhere slots (one_only wish slot slots f sorted.0))
    where
      by : (b : Bool) → is_its slot ≡ b → cond b (Some slot) (find is_its slots) ≡ Some found
          → (find is_its slots ≡ Some found → AreWithin wish most slots)
          → (is_its slot ≡ true → AreWithin wish most slots) → AreWithin wish most (slot ∷ slots)
      by true f e again alone = (
        λ g. (let is : slot ≡ found = cc in let h : slot.count ≡ found.count = ap (λ (s : Slot). s.count) is in
            omega (arith, h, less)),
        alone f,
      )
      by false f e again alone = (λ g. absurd (cc), again e)

pub raised_sorted : (wish : Wish) (slots : List Slot) → AreSorted slots → AreSorted (raised wish slots)
raised_sorted = sorted_moved (λ n. n + 1) ◌+◌ (λ c. omega arith) (λ c n. omega arith)
    (λ c n. both_above (c + 1) (c + 1 + n) (λ e. omega arith))

pub lowered_sorted : (wish : Wish) (slots : List Slot) → AreSorted slots → AreSorted (lowered wish slots)
lowered_sorted = sorted_moved (λ n. n - 1) ◌-◌ (λ c. omega arith) (λ c n. omega arith)
    (λ c n. both_above (c - 1) (c - 1 - n) (λ e. omega (arith, ltb-true 0 (c - 1 - n) e)))

pub raised_all_sorted : (those : List Wish) (slots : List Slot) → AreSorted slots → AreSorted (raised_all those slots)
raised_all_sorted [] slots sorted = sorted
raised_all_sorted (wish ∷ those) slots sorted =
    raised_all_sorted those (raised wish slots) (raised_sorted wish slots sorted)

pub moved_length : (step : ℕ → ℕ) (those : List Wish) (slots : List Slot)
    → length (moved_all step those slots) ≡ length slots
moved_length step [] slots = refl
moved_length step (wish ∷ those) slots =
    moved_length step those (moved step wish slots)
    ∙ length-changed (λ slot. is_wish wish slot.wish) (λ slot. counted_slot (step slot.count) slot) slots
