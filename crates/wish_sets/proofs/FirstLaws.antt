-- The first item that passes a test, by its place.
use Rattle.std.proofs.Common.{◌≡◌, ℕ, zero, suc, ◌+◌, ◌<◌, ◌≤◌, Bool, true, false, cond, List, [], ◌∷◌, ◌++◌, length}
use Rattle.std.proofs.Common.{set, get_or, Some, None, refl, ap, ◌∙◌, arith}
use Rattle.std.specs.Prelude.{◌||◌}
use Rattle.std.specs.List.{list_any, position_from, AllByRecursion}
use Rattle.wish_sets.specs.Slots.{with_first}

module _ {A : Type 0} (test : A → Bool) where
  pub place_above : (n : ℕ) (xs : List A) (i : ℕ) → position_from test n xs ≡ Some i → n ≤ i
  place_above n [] i e = absurd (cc)
  place_above n (x ∷ xs) i e = by (test x) e (place_above (n + 1) xs i)
    where
      by : (b : Bool) → cond b (Some n) (position_from test (n + 1) xs) ≡ Some i
          → (position_from test (n + 1) xs ≡ Some i → n + 1 ≤ i) → n ≤ i
      by true e again = let same : n ≡ i = cc in omega arith
      by false e again = let less : n + 1 ≤ i = again e in omega arith

  pub place_within : (n : ℕ) (xs : List A) (i : ℕ) → position_from test n xs ≡ Some i → i < n + length xs
  place_within n [] i e = absurd (cc)
  place_within n (x ∷ xs) i e = by (test x) e (place_within (n + 1) xs i)
    where
      by : (b : Bool) → cond b (Some n) (position_from test (n + 1) xs) ≡ Some i
          → (position_from test (n + 1) xs ≡ Some i → i < n + 1 + length xs) → i < n + length (x ∷ xs)
      by true e again = let same : n ≡ i = cc in omega arith
      by false e again = let less : i < n + 1 + length xs = again e in omega arith

  pub first_there : (n : ℕ) (xs : List A) (i : ℕ) → position_from test n xs ≡ Some i → list_any test xs ≡ true
  first_there n [] i e = absurd (cc)
  first_there n (x ∷ xs) i e = by (test x) e (first_there (n + 1) xs i)
    where
      by : (b : Bool) → cond b (Some n) (position_from test (n + 1) xs) ≡ Some i
          → (position_from test (n + 1) xs ≡ Some i → list_any test xs ≡ true) → (b || list_any test xs) ≡ true
      by true e again = refl
      by false e again = again e

  pub first_nowhere : (n : ℕ) (xs : List A) → position_from test n xs ≡ None → list_any test xs ≡ false
  first_nowhere n [] e = refl
  first_nowhere n (x ∷ xs) e = by (test x) e (first_nowhere (n + 1) xs)
    where
      by : (b : Bool) → cond b (Some n) (position_from test (n + 1) xs) ≡ None
          → (position_from test (n + 1) xs ≡ None → list_any test xs ≡ false) → (b || list_any test xs) ≡ false
      by true e again = absurd (cc)
      by false e again = again e

  module _ (change : A → A) where
    -- where none passes, nothing changes
    pub unchanged : (xs : List A) → list_any test xs ≡ false → with_first test change xs ≡ xs
    unchanged [] e = refl
    unchanged (x ∷ xs) e = by (test x) e (unchanged xs)
      where
        by : (b : Bool) → (b || list_any test xs) ≡ false → (list_any test xs ≡ false → with_first test change xs ≡ xs)
            → cond b (change x ∷ xs) (x ∷ with_first test change xs) ≡ x ∷ xs
        by true e again = absurd (cc)
        by false e again = ap (λ ys. x ∷ ys) (again e)

    -- the item at its place is changed
    pub changed_at : (n : ℕ) (xs : List A) (k : ℕ) (d : A) → position_from test n xs ≡ Some (n + k)
        → set xs k (change (get_or xs k d)) ≡ with_first test change xs
    changed_at n [] k d e = absurd (cc)
    changed_at n (x ∷ xs) k d e = by (test x) k e (λ j. changed_at (n + 1) xs j d)
      where
        by : (b : Bool) (k : ℕ) → cond b (Some n) (position_from test (n + 1) xs) ≡ Some (n + k)
            → ((j : ℕ) → position_from test (n + 1) xs ≡ Some (n + 1 + j)
            → set xs j (change (get_or xs j d)) ≡ with_first test change xs)
            → set (x ∷ xs) k (change (get_or (x ∷ xs) k d))
            ≡ cond b (change x ∷ xs) (x ∷ with_first test change xs)
        by true zero e again = refl
        by true (suc k) e again = absurd (let h : n ≡ n + suc k = cc in omega (arith, h))
        by false zero e again = absurd (let h = place_above (n + 1) xs (n + 0) e in omega (arith, h))
        by false (suc k) e again =
            let same : n + suc k ≡ n + 1 + k = omega arith in
            ap (λ ys. x ∷ ys) (again k (e ∙ ap Some same))

    -- of two lists
    pub changed-append : (xs ys : List A) → with_first test change (xs ++ ys)
        ≡ with_first test change xs ++ cond (list_any test xs) ys (with_first test change ys)
    changed-append [] ys = refl
    changed-append (x ∷ xs) ys = by (test x) (changed-append xs ys)
      where
        by : (b : Bool) → with_first test change (xs ++ ys)
            ≡ with_first test change xs ++ cond (list_any test xs) ys (with_first test change ys)
            → cond b (change x ∷ (xs ++ ys)) (x ∷ with_first test change (xs ++ ys))
            ≡ cond b (change x ∷ xs) (x ∷ with_first test change xs)
            ++ cond (b || list_any test xs) ys (with_first test change ys)
        by true e = refl
        by false e = ap (λ zs. x ∷ zs) e

    -- what each keeps as it passes the test and is changed
    pub each_changed : (P : A → Type 0) → ((x : A) → test x ≡ true → P x → P (change x)) → (xs : List A)
        → AllByRecursion P xs → AllByRecursion P (with_first test change xs)
    each_changed P keeps [] all = tt
    each_changed P keeps (x ∷ xs) all = by (test x) refl (each_changed P keeps xs all.1)
      where
        by : (b : Bool) → test x ≡ b → AllByRecursion P (with_first test change xs)
            → AllByRecursion P (cond b (change x ∷ xs) (x ∷ with_first test change xs))
        by true e again = (keeps x e all.0, all.1)
        by false e again = (all.0, again)

    pub length-changed : (xs : List A) → length (with_first test change xs) ≡ length xs
    length-changed [] = refl
    length-changed (x ∷ xs) = by (test x) (length-changed xs)
      where
        by : (b : Bool) → length (with_first test change xs) ≡ length xs
            → length (cond b (change x ∷ xs) (x ∷ with_first test change xs)) ≡ suc (length xs)
        by true e = refl
        by false e = ap suc e
