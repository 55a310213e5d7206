-- Requests by their numbers.
use Rattle.std.proofs.Common.{◌≡◌, ℕ, zero, suc, ◌+◌, ◌≤◌, List, [], ◌∷◌, refl, ap, sym, ◌∙◌, Some, None, arith}
use Rattle.std.specs.BTreeSet.{insert_key}
use Rattle.std.specs.List.{insert}
use Rattle.std.specs.Ordering.{match_ordering, nat_cmp, on}
use Rattle.std.specs.declared.cmp.Ordering.{Ordering}
use Rattle.std.specs.declared.cmp.Ordering.TheVariants.{Less, Equal, Greater}
use Rattle.world_model.specs.declared.hits.Hit.{Hit}
use Rattle.world_model.specs.Emitting.{hit_place}

abbrev pub by_number : Hit → Hit → Ordering
by_number = on (λ (hit : Hit). hit.request) nat_cmp

module _ (one : Hit) where
  place_above : (n : ℕ) (xs : List Hit) (i : ℕ) → hit_place n one.request xs ≡ Some i → n ≤ i
  place_above n [] i e = let h : n ≡ i = cc in omega arith
  place_above n (x ∷ xs) i e = by (nat_cmp one.request x.request) e (place_above (n + 1) xs i)
    where
      by : (o : Ordering) → match_ordering o (Some n) None (hit_place (n + 1) one.request xs) ≡ Some i
          → (hit_place (n + 1) one.request xs ≡ Some i → n + 1 ≤ i) → n ≤ i
      by Less e again = let h : n ≡ i = cc in omega arith
      by Equal e again = absurd (cc)
      by Greater e again = let h : n + 1 ≤ i = again e in omega arith

  placed_from : (n : ℕ) (xs : List Hit) (k : ℕ) → hit_place n one.request xs ≡ Some (n + k)
      → insert xs k one ≡ insert_key by_number xs one
  placed_from n [] zero e = refl
  placed_from n [] (suc k) e = absurd (let h : n ≡ n + suc k = cc in omega (arith, h))
  placed_from n (x ∷ xs) k e = by (nat_cmp one.request x.request) k e (λ j. placed_from (n + 1) xs j)
    where
      by : (o : Ordering) (k : ℕ) → match_ordering o (Some n) None (hit_place (n + 1) one.request xs) ≡ Some (n + k)
          → ((j : ℕ) → hit_place (n + 1) one.request xs ≡ Some (n + 1 + j) → insert xs j one ≡ insert_key by_number xs one)
          → insert (x ∷ xs) k one ≡ match_ordering o (one ∷ x ∷ xs) (x ∷ xs) (x ∷ insert_key by_number xs one)
      by Less zero e again = refl
      by Less (suc k) e again = absurd (let h : n ≡ n + suc k = cc in omega (arith, h))
      by Equal k e again = absurd (cc)
      by Greater zero e again = absurd (let h = place_above (n + 1) xs (n + 0) e in omega (arith, h))
      by Greater (suc k) e again =
          let same : n + suc k ≡ n + 1 + k = omega arith in ap (λ ys. x ∷ ys) (again k (e ∙ ap Some same))

  pub at_its_number : (xs : List Hit) (k : ℕ) → Some k ≡ hit_place 0 one.request xs
      → insert xs k one ≡ insert_key by_number xs one
  at_its_number xs k e = placed_from 0 xs k (sym e ∙ ap Some (let zero_on : k ≡ 0 + k = omega arith in zero_on))

  none_from : (n : ℕ) (xs : List Hit) → hit_place n one.request xs ≡ None → insert_key by_number xs one ≡ xs
  none_from n [] e = absurd (cc)
  none_from n (x ∷ xs) e = by (nat_cmp one.request x.request) e (none_from (n + 1) xs)
    where
      by : (o : Ordering) → match_ordering o (Some n) None (hit_place (n + 1) one.request xs) ≡ None
          → (hit_place (n + 1) one.request xs ≡ None → insert_key by_number xs one ≡ xs)
          → match_ordering o (one ∷ x ∷ xs) (x ∷ xs) (x ∷ insert_key by_number xs one) ≡ x ∷ xs
      by Less e again = absurd (cc)
      by Equal e again = refl
      by Greater e again = ap (λ ys. x ∷ ys) (again e)

  pub no_hit_place : (xs : List Hit) → None ≡ hit_place 0 one.request xs → insert_key by_number xs one ≡ xs
  no_hit_place xs e = none_from 0 xs (sym e)
