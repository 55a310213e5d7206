-- How entries stand: their ids, and which of their locations stand.
use Rattle.std.proofs.Common.{◌≡◌, ℕ, zero, suc, ◌+◌, ◌≤◌, Bool, true, false, List, [], ◌∷◌, ◌++◌, refl, ap, sym, ◌∙◌}
use Rattle.std.proofs.Common.{Some, None, arith}
use Rattle.std.specs.Prelude.{◌||◌}
use Rattle.std.specs.BTreeSet.{insert_key}
use Rattle.std.specs.List.{list_any, insert}
use Rattle.std.specs.Ordering.{match_ordering, nat_cmp, on}
use Rattle.std.specs.declared.cmp.Ordering.{Ordering}
use Rattle.std.specs.declared.cmp.Ordering.TheVariants.{Less, Equal, Greater}
use Rattle.wish_sets.specs.declared.entry.EntryAt.{EntryAt}
use Rattle.wish_sets.specs.declared.slot.Slot.{Slot}
use Rattle.wish_sets.specs.declared.wish.Wish.{Wish}
use Rattle.wish_sets.specs.Entries.{has_location}
use Rattle.wish_sets.specs.Order.{has_wish, is_wish}
use Rattle.wish_sets.specs.Places.{Place}
use Rattle.wish_sets.specs.Slots.{requests_in, refusals_in}
use Rattle.wish_sets.specs.Standing.{id_place, state_by}
use Rattle.wish_sets.specs.Wishes.{EventRequest, is_installed}
use Rattle.wish_sets.proofs.WatchLaws.{has-append}
use Rattle.wish_sets.proofs.StepKept.{requests-append, refusals-append}

or-turn : (a b c : Bool) → (a || (b || c)) ≡ ((a || b) || c)
or-turn true b c = refl
or-turn false b c = refl

any-append : {A : Type 0} (test : A → Bool) (xs ys : List A)
    → list_any test (xs ++ ys) ≡ (list_any test xs || list_any test ys)
any-append test [] ys = refl
any-append test (x ∷ xs) ys =
    ap (λ b. test x || b) (any-append test xs ys) ∙ or-turn (test x) (list_any test xs) (list_any test ys)

pub installed_append : (xs ys : List Slot) (wish : Wish) → is_installed (requests_in (xs ++ ys)) wish
    ≡ (is_installed (requests_in xs) wish || is_installed (requests_in ys) wish)
installed_append xs ys wish =
    ap (λ rs. is_installed rs wish) (requests-append xs ys)
    ∙ any-append (λ (r : EventRequest). is_wish wish r.wish) (requests_in xs) (requests_in ys)

pub refused_append : (xs ys : List Slot) (wish : Wish) → has_wish (refusals_in (xs ++ ys)) wish
    ≡ (has_wish (refusals_in xs) wish || has_wish (refusals_in ys) wish)
refused_append xs ys wish =
    ap (λ ws. has_wish ws wish) (refusals-append xs ys) ∙ has-append wish (refusals_in xs) (refusals_in ys)

-- places that have the same locations of an entry
pub state_same : (xs ys : List Place) (id : ℕ) (installed : List EventRequest) (refused : List Wish)
    → ((test : Wish → Bool) → has_location xs id test ≡ has_location ys id test)
    → state_by xs id installed refused ≡ state_by ys id installed refused
state_same xs ys id installed refused same = rw (same (is_installed installed), same (has_wish refused)) refl

-- Entries by their ids ------------------------------------------------------------------------------------------------

abbrev pub by_id : EntryAt → EntryAt → Ordering
by_id = on (λ (entry : EntryAt). entry.id) nat_cmp

module _ (one : EntryAt) where
  id_above : (n : ℕ) (xs : List EntryAt) (i : ℕ) → id_place n one.id xs ≡ Some i → n ≤ i
  id_above n [] i e = let h : n ≡ i = cc in omega arith
  id_above n (x ∷ xs) i e = by (nat_cmp one.id x.id) e (id_above (n + 1) xs i)
    where
      by : (o : Ordering) → match_ordering o (Some n) None (id_place (n + 1) one.id xs) ≡ Some i
          → (id_place (n + 1) one.id xs ≡ Some i → n + 1 ≤ i) → n ≤ i
      by Less e again = let h : n ≡ i = cc in omega arith
      by Equal e again = absurd (cc)
      by Greater e again = let h : n + 1 ≤ i = again e in omega arith

  placed_from : (n : ℕ) (xs : List EntryAt) (k : ℕ) → id_place n one.id xs ≡ Some (n + k)
      → insert xs k one ≡ insert_key by_id xs one
  placed_from n [] zero e = refl
  placed_from n [] (suc k) e = absurd (let h : n ≡ n + suc k = cc in omega (arith, h))
  placed_from n (x ∷ xs) k e = by (nat_cmp one.id x.id) k e (λ j. placed_from (n + 1) xs j)
    where
      by : (o : Ordering) (k : ℕ) → match_ordering o (Some n) None (id_place (n + 1) one.id xs) ≡ Some (n + k)
          → ((j : ℕ) → id_place (n + 1) one.id xs ≡ Some (n + 1 + j) → insert xs j one ≡ insert_key by_id xs one)
          → insert (x ∷ xs) k one ≡ match_ordering o (one ∷ x ∷ xs) (x ∷ xs) (x ∷ insert_key by_id xs one)
      by Less zero e again = refl
      by Less (suc k) e again = absurd (let h : n ≡ n + suc k = cc in omega (arith, h))
      by Equal k e again = absurd (cc)
      by Greater zero e again = absurd (let h = id_above (n + 1) xs (n + 0) e in omega (arith, h))
      by Greater (suc k) e again =
          let same : n + suc k ≡ n + 1 + k = omega arith in ap (λ ys. x ∷ ys) (again k (e ∙ ap Some same))

  pub at_its_id : (xs : List EntryAt) (k : ℕ) → Some k ≡ id_place 0 one.id xs
      → insert xs k one ≡ insert_key by_id xs one
  at_its_id xs k e = placed_from 0 xs k (sym e ∙ ap Some (let zero_on : k ≡ 0 + k = omega arith in zero_on))

  none_from : (n : ℕ) (xs : List EntryAt) → id_place n one.id xs ≡ None → insert_key by_id xs one ≡ xs
  none_from n [] e = absurd (cc)
  none_from n (x ∷ xs) e = by (nat_cmp one.id x.id) e (none_from (n + 1) xs)
    where
      by : (o : Ordering) → match_ordering o (Some n) None (id_place (n + 1) one.id xs) ≡ None
          → (id_place (n + 1) one.id xs ≡ None → insert_key by_id xs one ≡ xs)
          → match_ordering o (one ∷ x ∷ xs) (x ∷ xs) (x ∷ insert_key by_id xs one) ≡ x ∷ xs
      by Less e again = absurd (cc)
      by Equal e again = refl
      by Greater e again = ap (λ ys. x ∷ ys) (again e)

  pub no_id_place : (xs : List EntryAt) → None ≡ id_place 0 one.id xs → insert_key by_id xs one ≡ xs
  no_id_place xs e = none_from 0 xs (sym e)
