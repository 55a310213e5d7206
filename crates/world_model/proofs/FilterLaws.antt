-- What holds of some rows of a list.
use Rattle.std.proofs.Common.{◌≡◌, ℕ, ◌+◌, ◌≤◌, Bool, true, false, cond, List, [], ◌∷◌, ◌++◌, map, refl, arith, nat_eq}
use Rattle.std.specs.Prelude.{filter, count_by}
use Rattle.std.specs.List.{AllByRecursion, IsDistinct, sum_by}
use Rattle.std.proofs.lemmas.List.Sums.{sum_by-cons}
use Rattle.std.proofs.lemmas.Map.Keys.{IsDistinct-head, IsDistinct-tail, IsDistinct-cons}

all_at : {A : Type 0} (P : A → Type 0) (b : Bool) (x : A) (xs : List A) → P x → AllByRecursion P xs
    → AllByRecursion P (cond b (x ∷ xs) xs)
all_at P true x xs p h = (p, h)
all_at P false x xs p h = h

pub all_left : {A : Type 0} (P : A → Type 0) (passes : A → Bool) (xs : List A) → AllByRecursion P xs
    → AllByRecursion P (filter passes xs)
all_left P passes [] h = tt
all_left P passes (x ∷ xs) h = all_at P (passes x) x (filter passes xs) h.0 (all_left P passes xs h.1)

module _ {A : Type 0} (key : A → ℕ) where
  keys_at : (P : ℕ → Type 0) (b : Bool) (row : A) (rows : List A) → P (key row) → AllByRecursion P (map key rows)
      → AllByRecursion P (map key (cond b (row ∷ rows) rows))
  keys_at P true row rows p h = (p, h)
  keys_at P false row rows p h = h

  pub keys_left : (P : ℕ → Type 0) (passes : A → Bool) (rows : List A) → AllByRecursion P (map key rows)
      → AllByRecursion P (map key (filter passes rows))
  keys_left P passes [] h = tt
  keys_left P passes (row ∷ rows) h =
      keys_at P (passes row) row (filter passes rows) h.0 (keys_left P passes rows h.1)

  distinct_at : (b : Bool) (row : A) (rows : List A)
      → AllByRecursion (λ y. nat_eq (key row) y ≡ false) (map key rows) → IsDistinct nat_eq (map key rows)
      → IsDistinct nat_eq (map key (cond b (row ∷ rows) rows))
  distinct_at true row rows p h = IsDistinct-cons nat_eq (key row) (map key rows) p h
  distinct_at false row rows p h = h

  -- keys stay apart
  pub distinct_left : (passes : A → Bool) (rows : List A) → IsDistinct nat_eq (map key rows)
      → IsDistinct nat_eq (map key (filter passes rows))
  distinct_left passes [] h = h
  distinct_left passes (row ∷ rows) h = distinct_at (passes row) row (filter passes rows)
      (keys_left (λ y. nat_eq (key row) y ≡ false) passes rows
      (IsDistinct-head nat_eq (key row) (map key rows) h))
      (distinct_left passes rows (IsDistinct-tail nat_eq (key row) (map key rows) h))

-- of some rows there are no more than of all
pub fewer : {A : Type 0} (test passes : A → Bool) (rows : List A) → count_by test (filter passes rows) ≤ count_by test rows
fewer test passes [] = omega arith
fewer {A} test passes (row ∷ rows) = by (passes row) (fewer test passes rows) where
  one : A → ℕ
  one x = cond (test x) 1 0

  by : (b : Bool) → count_by test (filter passes rows) ≤ count_by test rows
      → count_by test (cond b (row ∷ filter passes rows) (filter passes rows)) ≤ count_by test (row ∷ rows)
  by true later = omega (arith, sum_by-cons one row (filter passes rows), sum_by-cons one row rows, later)
  by false later = omega (arith, sum_by-cons one row rows, later)
