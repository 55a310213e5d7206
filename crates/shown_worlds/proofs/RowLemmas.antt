-- Rows that are found by their ids.
use Rattle.std.proofs.Common.{◌≡◌, ◌∙◌, ℕ, Bool, true, false, cond, List, [], ◌∷◌, ◌++◌, map, refl, ap, subst}
use Rattle.std.specs.Prelude.{Option, Some, find, nat_eq}
use Rattle.std.specs.Cmp.{nat_eq_equiv}
use Rattle.std.specs.List.{AllByRecursion, IsDistinct}

-- a row is the one that is found under its key
abbrev pub IsOwn : {A : Type 0} → (A → ℕ) → List A → A → Type 0
IsOwn key all row = find (λ r. nat_eq (key r) (key row)) all ≡ Some row

own_behind : {A : Type 0} (key : A → ℕ) (first : A) (all rows : List A)
    → AllByRecursion (λ n. nat_eq (key first) n ≡ false) (map key rows) → AllByRecursion (IsOwn key all) rows
    → AllByRecursion (IsOwn key (first ∷ all)) rows
own_behind key first all [] apart own = tt
own_behind key first all (row ∷ rows) apart own = (
  ap (λ b. cond b (Some first) (find (λ r. nat_eq (key r) (key row)) all)) apart.0 ∙ own.0,
  own_behind key first all rows apart.1 own.1,
)

pub own_keys : {A : Type 0} (key : A → ℕ) (rows : List A) → IsDistinct nat_eq (map key rows)
    → AllByRecursion (IsOwn key rows) rows
unfolding IsDistinct
own_keys key [] apart = tt
own_keys key (row ∷ rows) apart = (
  ap (λ b. cond b (Some row) (find (λ r. nat_eq (key r) (key row)) rows)) (nat_eq_equiv.refl (key row)),
  own_behind key row rows rows apart.0 (own_keys key rows apart.1),
)

-- what is distinct is so further back
pub distinct_behind : (xs ys : List ℕ) → IsDistinct nat_eq (xs ++ ys) → IsDistinct nat_eq ys
unfolding IsDistinct
distinct_behind [] ys apart = apart
distinct_behind (x ∷ xs) ys apart = distinct_behind xs ys apart.1

-- what holds of all rows holds of one that is found
found_at : {A : Type 0} (P : A → Type 0) (b : Bool) (x row : A) (rest : Option A) → P x → (rest ≡ Some row → P row)
    → cond b (Some x) rest ≡ Some row → P row
found_at P true x row rest p later h = subst P (let same : x ≡ row = cc in same) p
found_at P false x row rest p later h = later h

pub found_all : {A : Type 0} (P : A → Type 0) (test : A → Bool) (rows : List A) → AllByRecursion P rows → (row : A)
    → find test rows ≡ Some row → P row
found_all P test [] all row h = absurd cc
found_all P test (x ∷ xs) all row h =
    found_at P (test x) x row (find test xs) all.0 (λ e. found_all P test xs all.1 row e) h

-- a row that is found passes the test
passes_at : {A : Type 0} (test : A → Bool) (b : Bool) (x row : A) (rest : Option A) → test x ≡ b
    → (rest ≡ Some row → test row ≡ true) → cond b (Some x) rest ≡ Some row → test row ≡ true
passes_at test true x row rest is later h = subst (λ y. test y ≡ true) (let same : x ≡ row = cc in same) is
passes_at test false x row rest is later h = later h

pub found_passes : {A : Type 0} (test : A → Bool) (rows : List A) (row : A) → find test rows ≡ Some row
    → test row ≡ true
found_passes test [] row h = absurd cc
found_passes test (x ∷ xs) row h =
    passes_at test (test x) x row (find test xs) refl (λ e. found_passes test xs row e) h
