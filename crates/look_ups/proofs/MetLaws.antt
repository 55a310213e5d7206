-- Classes that were met.
use Rattle.std.proofs.Common.{◌≡◌, ℕ, ◌==◌, ◌||◌, Bool, false, cond, List, [], ◌∷◌, ◌++◌, refl, ap, ◌∙◌, arith}
use Rattle.std.specs.List.{list_any}
use Rattle.indexmap.specs.IndexSet.{insert_key}

abbrev same : ℕ → ℕ → Bool
same a b = a == b

back : (a b : ℕ) → (a == b) ≡ (b == a)
back a b = grind arith

pub was_met : (met : List ℕ) (class : ℕ) → list_any (same class) met ≡ list_any (λ other. other == class) met
was_met [] class = refl
was_met (first ∷ met) class = by_test (class == first) (first == class) (back class first) (was_met met class)
  where
    by_test : (one other : Bool) → one ≡ other → list_any (same class) met ≡ list_any (λ other. other == class) met
        → (one || list_any (same class) met) ≡ (other || list_any (λ other. other == class) met)
    by_test one other is rest = grind (arith, is, rest)

-- a class that wasn't met stands behind those that were
pub is_met : (met : List ℕ) (class : ℕ) → list_any (λ other. other == class) met ≡ false
    → insert_key same met class ≡ met ++ class ∷ []
is_met met class new = ap (λ (b : Bool). cond b met (met ++ class ∷ [])) (was_met met class ∙ new)
