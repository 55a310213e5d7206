-- A value that is put at the place of its key stands where a scan for the key would put it, and may be taken back.
use Rattle.std.proofs.Common.{◌≡◌, ℕ, zero, suc, ◌+◌, Bool, true, false, cond, List, [], ◌∷◌, ◌++◌}
use Rattle.std.proofs.Common.{set, get_or, Some, None, Option, refl, ap, sym, ◌∙◌, arith}
use Rattle.std.specs.List.{position_from}
use Rattle.class_tables.specs.Tables.{put}
use Rattle.wish_sets.specs.Tables.{with_value, put_at}
use Rattle.wish_sets.proofs.FirstLaws.{place_above}

module _ {K V : Type 0} where
  pub valued : (xs : List (K × V)) (k : ℕ) (entry : K × V) (value : V) → entry ≡ get_or xs k entry
      → set xs k (entry.0, value) ≡ with_value k value xs
  valued [] k entry value e = refl
  valued (x ∷ xs) zero entry value e = ap (λ (y : K × V). (y.0, value) ∷ xs) e
  valued (x ∷ xs) (suc k) entry value e = ap (λ ys. x ∷ ys) (valued xs k entry value e)

  pub restored : (xs : List (K × V)) (k : ℕ) (entry : K × V) (value : V) → entry ≡ get_or xs k entry
      → with_value k entry.1 (set xs k (entry.0, value)) ≡ xs
  restored [] k entry value e = refl
  restored (x ∷ xs) zero entry value e = ap (λ (y : K × V). y ∷ xs) e
  restored (x ∷ xs) (suc k) entry value e = ap (λ ys. x ∷ ys) (restored xs k entry value e)

module _ {K V : Type 0} (same : K → K → Bool) (key : K) (value : V) where
  abbrev pub has_key : K × V → Bool
  has_key entry = same key entry.0

  put_nowhere : (n : ℕ) (xs : List (K × V)) → position_from has_key n xs ≡ None
      → xs ++ (key, value) ∷ [] ≡ put same key value xs
  put_nowhere n [] e = refl
  put_nowhere n (x ∷ xs) e = by (same key x.0) e (put_nowhere (n + 1) xs)
    where
      by : (b : Bool) → cond b (Some n) (position_from has_key (n + 1) xs) ≡ None
          → (position_from has_key (n + 1) xs ≡ None → xs ++ (key, value) ∷ [] ≡ put same key value xs)
          → x ∷ (xs ++ (key, value) ∷ []) ≡ cond b ((x.0, value) ∷ xs) (x ∷ put same key value xs)
      by true e again = absurd (cc)
      by false e again = ap (λ ys. x ∷ ys) (again e)

  put_there : (n : ℕ) (xs : List (K × V)) (k : ℕ) → position_from has_key n xs ≡ Some (n + k)
      → with_value k value xs ≡ put same key value xs
  put_there n [] k e = absurd (cc)
  put_there n (x ∷ xs) k e = by (same key x.0) k e (λ j. put_there (n + 1) xs j)
    where
      by : (b : Bool) (k : ℕ) → cond b (Some n) (position_from has_key (n + 1) xs) ≡ Some (n + k)
          → ((j : ℕ) → position_from has_key (n + 1) xs ≡ Some (n + 1 + j)
          → with_value j value xs ≡ put same key value xs)
          → with_value k value (x ∷ xs) ≡ cond b ((x.0, value) ∷ xs) (x ∷ put same key value xs)
      by true zero e again = refl
      by true (suc k) e again = absurd (let h : n ≡ n + suc k = cc in omega (arith, h))
      by false zero e again = absurd (let h = place_above has_key (n + 1) xs (n + 0) e in omega (arith, h))
      by false (suc k) e again =
          let to : n + suc k ≡ n + 1 + k = omega arith in ap (λ ys. x ∷ ys) (again k (e ∙ ap Some to))

  pub put_is : (xs : List (K × V)) (at : Option ℕ) → at ≡ position_from has_key 0 xs
      → put_at at key value xs ≡ put same key value xs
  put_is xs None e = put_nowhere 0 xs (sym e)
  put_is xs (Some k) e = put_there 0 xs k (sym e ∙ ap Some (let zero_on : k ≡ 0 + k = omega arith in zero_on))
