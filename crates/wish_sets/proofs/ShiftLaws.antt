-- What is wished more and less changes the numbers of slots, and then slots say what is wished.
use Rattle.std.proofs.Common.{◌≡◌, ℕ, zero, suc, ◌+◌, ◌<◌, ◌^◌, Bool, true, false, List, [], ◌∷◌, refl, ap, sym, ◌∙◌, cond}
use Rattle.std.proofs.Common.{subst, arith}
use Rattle.std.specs.Prelude.{◌||◌, ◌&&◌, filter, nat_lt}
use Rattle.std.specs.List.{AllByRecursion}
use Rattle.std.specs.List.Sorted.{IsStrictlySortedBy}
use Rattle.std.proofs.lemmas.Bool.{ltb-true}
use Rattle.wish_sets.specs.declared.change.Settled.{Settled}
use Rattle.wish_sets.specs.declared.change.Settled.TheVariants as outcomes
use Rattle.wish_sets.specs.declared.slot.Slot.{Slot}
use Rattle.wish_sets.specs.declared.wish.Wish.{Wish}
use Rattle.wish_sets.specs.Counts.{times, wishers, AreCounts, IsShift, IsShifted}
use Rattle.wish_sets.specs.Forming.{has_its_slot, AreFormed, AreInOrder, IsWider}
use Rattle.wish_sets.specs.Kept.{is_sound, listed_wishes}
use Rattle.wish_sets.specs.Order.{has_wish, in_order, is_wish, wish_cmp}
use Rattle.wish_sets.specs.Slots.{wishes_in, requests_in, refusals_in, awaits, marked, with_first, AreNumbered}
use Rattle.wish_sets.specs.Wanted.{Wanted}
use Rattle.wish_sets.proofs.CountLaws.{wishes_recount, recount, IsCounted, counted_is, shifted_is}
use Rattle.wish_sets.proofs.CountLaws.{requests_renumbered, refusals_renumbered, sound_renumbered, early_renumbered}
use Rattle.wish_sets.proofs.CountLaws.{length_renumbered, numbers_renumbered, flags_renumbered, slots_renumbered}
use Rattle.wish_sets.proofs.CountLaws.{has_renumbered}
use Rattle.wish_sets.proofs.FirstLaws.{each_changed}
use Rattle.wish_sets.proofs.FormingLaws.{wider-refl}
use Rattle.wish_sets.proofs.FormedLaws.{same_in_order, in_order_is, kept_in_order}
use Rattle.wish_sets.proofs.KeptLaws.{each-both, each-map}
use Rattle.wish_sets.proofs.OrderLaws.{any-fold}
use Rattle.wish_sets.proofs.ShareLaws.{listed_counted}
use Rattle.wish_sets.proofs.SlotLaws.{has-kept, wishes_of}
use Rattle.wish_sets.proofs.WishLaws.{alike, equal_is, filter-same}

-- what has no slot isn't wished
lacking : (wanted : Wanted) (slots : List Slot) → AreCounts wanted slots → (wish : Wish)
    → has_its_slot slots wish ≡ false → wishers wish wanted ≡ 0
lacking wanted slots counts wish e = by (wishers wish wanted) refl
  where
    by : (n : ℕ) → wishers wish wanted ≡ n → n ≡ 0
    by zero f = refl
    by (suc n) f = absurd (let h = counts.slotted wish (omega (arith, f)) in cc)

-- slots were added
pub wider_counts : (wanted : Wanted) (old new : List Slot) → AreCounts wanted old → IsWider old new
    → AreCounts wanted new
wider_counts wanted old new counts wide = record {
  slotted = λ wish above. wide.kept wish (counts.slotted wish above);
  numbers = wide.numbers (λ wish. wishers wish wanted) (lacking wanted old counts) counts.numbers;
  wished = wide.flags counts.wished;
}

among : (wish : Wish) (slots : List Slot) (those : List Wish)
    → AllByRecursion (λ one. has_its_slot slots one ≡ true) those → 0 < times wish those
    → has_its_slot slots wish ≡ true
among wish slots [] all above = absurd (omega (arith, above))
among wish slots (one ∷ those) all above = by (is_wish wish one) refl above (among wish slots those all.1)
  where
    by : (b : Bool) → is_wish wish one ≡ b
        → 0 < cond b (suc (times wish those)) (times wish those)
        → (0 < times wish those → has_its_slot slots wish ≡ true) → has_its_slot slots wish ≡ true
    by true e above again = ap (has_its_slot slots) (equal_is wish one e) ∙ all.0
    by false e above again = again above

each-all : {A : Type 0} (P : A → Type 0) → ((x : A) → P x) → (xs : List A) → AllByRecursion P xs
each-all P f [] = tt
each-all P f (x ∷ xs) = (f x, each-all P f xs)

module _ (before after : Wanted) (added taken : List Wish) (old new : List Slot) (ordered : AreInOrder old)
    (counts : AreCounts before old) (shift : IsShift before after added taken)
    (is : IsShifted added taken old new) where
  abbrev wide : List Slot
  wide = is.wide

  abbrev number : Wish → ℕ
  number wish = wishers wish after

  abbrev those : List Wish
  those = listed_wishes after

  numbered : AreNumbered (λ wish. wishers wish before) wide
  numbered = is.wider.numbers (λ wish. wishers wish before) (lacking before old counts) counts.numbers

  counted : AllByRecursion IsCounted wide
  counted =
      each-both (λ slot. slot.wished ≡ nat_lt 0 slot.count) (λ slot. is_sound slot ≡ true) IsCounted counted_is wide
      (is.wider.flags counts.wished) is.wider.in_order.sound

  law : AllByRecursion (λ slot. number slot.wish + times slot.wish taken ≡ slot.count + times slot.wish added) wide
  law =
      each-map (λ slot. slot.count ≡ wishers slot.wish before)
      (λ slot. number slot.wish + times slot.wish taken ≡ slot.count + times slot.wish added)
      (λ slot e. shift.numbers slot.wish ∙ ap (λ n. n + times slot.wish added) (sym e)) wide numbered

  new_is : new ≡ recount (λ slot. number slot.wish) wide
  new_is = is.numbers ∙ shifted_is added taken number wide is.wider.in_order.sorted counted law

  slotted : (wish : Wish) → 0 < number wish → has_its_slot wide wish ≡ true
  slotted wish above = by (wishers wish before) refl
    where
      by : (n : ℕ) → wishers wish before ≡ n → has_its_slot wide wish ≡ true
      by zero e = among wish wide added is.slotted (let h = shift.numbers wish in omega (arith, h, e, above))
      by (suc n) e = is.wider.kept wish (counts.slotted wish (omega (arith, e)))

  has_listed : (wish : Wish) → (nat_lt 0 (number wish) && has_its_slot wide wish) ≡ has_wish those wish
  has_listed wish = by (nat_lt 0 (number wish)) refl ∙ sym (listed_counted after wish)
    where
      by : (b : Bool) → nat_lt 0 (number wish) ≡ b → (b && has_its_slot wide wish) ≡ nat_lt 0 (number wish)
      by true e = slotted wish (ltb-true 0 (number wish) e) ∙ sym e
      by false e = sym e

  sorted : IsStrictlySortedBy wish_cmp (wishes_of (recount (λ slot. number slot.wish) wide))
  sorted =
      subst (IsStrictlySortedBy wish_cmp) (sym (wishes_recount (λ slot. number slot.wish) wide))
      is.wider.in_order.sorted

  wishes_are : wishes_in (recount (λ slot. number slot.wish) wide) ≡ in_order those
  wishes_are =
      same_in_order (wishes_in (recount (λ slot. number slot.wish) wide)) (in_order those)
      (kept_in_order (recount (λ slot. number slot.wish) wide) sorted) (in_order_is those)
      (λ wish. has-kept (λ slot. slot.wished) (recount (λ slot. number slot.wish) wide) wish
      ∙ (has_renumbered number wide wish
      ∙ (has_listed wish ∙ sym (any-fold wish_cmp (is_wish wish) (alike wish) [] those))))

  pub shifted_formed : AreFormed those old new
  shifted_formed = record {
    wishes = ap wishes_in new_is ∙ wishes_are;
    requests = ap requests_in new_is ∙ (requests_renumbered number wide ∙ is.wider.requests);
    refusals = ap refusals_in new_is
        ∙ (refusals_renumbered number wide
        ∙ (ap (filter (λ wish. nat_lt 0 (number wish))) is.wider.refusals
        ∙ filter-same (λ wish. nat_lt 0 (number wish)) (has_wish those) (refusals_in old)
        (each-all (λ wish. nat_lt 0 (number wish) ≡ has_wish those wish)
        (λ wish. sym (listed_counted after wish)) (refusals_in old))));
    in_order = subst AreInOrder (sym new_is) (record {
      sorted = sorted;
      early = early_renumbered number wide is.wider.in_order.early;
      sound = sound_renumbered number wide is.wider.in_order.sound;
      counted = subst (λ n. n + 5 < 2 ^ 31) (sym (length_renumbered number wide)) is.wider.in_order.counted;
    });
  }

  pub shifted_counts : AreCounts after new
  shifted_counts = subst (AreCounts after) (sym new_is) (record {
    slotted = λ wish above. slots_renumbered number wish wide ∙ slotted wish above;
    numbers = numbers_renumbered number wide;
    wished = flags_renumbered number wide;
  })

-- An outcome is marked -----------------------------------------------------------------------------------------------

-- a mark changes no number
module _ (outcome : Settled) where
  marked_number : (number : Wish → ℕ) (slot : Slot) → slot.count ≡ number slot.wish
      → (marked outcome slot).count ≡ number (marked outcome slot).wish
  marked_number number slot e = by outcome
    where
      by : (outcome : Settled) → (marked outcome slot).count ≡ number (marked outcome slot).wish
      by outcomes.Cleared = e
      by (outcomes.Installed request) = e
      by (outcomes.Refused code) = e

  marked_flag : (slot : Slot) → slot.wished ≡ nat_lt 0 slot.count
      → (marked outcome slot).wished ≡ nat_lt 0 (marked outcome slot).count
  marked_flag slot e = by outcome
    where
      by : (outcome : Settled) → (marked outcome slot).wished ≡ nat_lt 0 (marked outcome slot).count
      by outcomes.Cleared = e
      by (outcomes.Installed request) = e
      by (outcomes.Refused code) = e

  marked_wish : (slot : Slot) → (marked outcome slot).wish ≡ slot.wish
  marked_wish slot = by outcome
    where
      by : (outcome : Settled) → (marked outcome slot).wish ≡ slot.wish
      by outcomes.Cleared = refl
      by (outcomes.Installed request) = refl
      by (outcomes.Refused code) = refl

  marked_slots : (slots : List Slot) (wish : Wish)
      → has_its_slot (with_first (awaits outcome) (marked outcome) slots) wish ≡ has_its_slot slots wish
  marked_slots [] wish = refl
  marked_slots (slot ∷ slots) wish = by (awaits outcome slot) (marked_slots slots wish)
    where
      by : (b : Bool)
          → has_its_slot (with_first (awaits outcome) (marked outcome) slots) wish ≡ has_its_slot slots wish
          → has_its_slot (cond b (marked outcome slot ∷ slots)
          (slot ∷ with_first (awaits outcome) (marked outcome) slots)) wish
          ≡ (is_wish wish slot.wish || has_its_slot slots wish)
      by true e = ap (λ w. is_wish wish w || has_its_slot slots wish) (marked_wish slot)
      by false e = ap (λ b. is_wish wish slot.wish || b) e

pub counts_marked : (wanted : Wanted) (outcome : Settled) (slots : List Slot) → AreCounts wanted slots
    → AreCounts wanted (with_first (awaits outcome) (marked outcome) slots)
counts_marked wanted outcome slots counts = record {
  slotted = λ wish above. marked_slots outcome slots wish ∙ counts.slotted wish above;
  numbers = each_changed (awaits outcome) (marked outcome) (λ slot. slot.count ≡ wishers slot.wish wanted)
      (λ slot e. marked_number outcome (λ wish. wishers wish wanted) slot) slots counts.numbers;
  wished = each_changed (awaits outcome) (marked outcome) (λ slot. slot.wished ≡ nat_lt 0 slot.count)
      (λ slot e. marked_flag outcome slot) slots counts.wished;
}

-- Nothing changes ----------------------------------------------------------------------------------------------------

-- nothing is wished more or less
pub shifted_nothing : (added taken : List Wish) (slots : List Slot) → AreInOrder slots → added ≡ [] → taken ≡ []
    → IsShifted added taken slots slots
shifted_nothing added taken slots ordered e f = record {
  wide = slots;
  wider = wider-refl slots ordered;
  slotted = subst (AllByRecursion (λ wish. has_its_slot slots wish ≡ true)) (sym e) tt;
  numbers = rw (e, f) refl;
}
