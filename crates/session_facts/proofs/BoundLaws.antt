-- The set of breakpoints that were told to be verified, as the list that the machine has.
use Rattle.std.proofs.Common.{◌≡◌, ℕ, ◌==◌, ◌||◌, Bool, cond, List, [], ◌∷◌, ◌++◌, refl, ap, arith}
use Rattle.std.specs.List.{list_any}
use Rattle.indexmap.specs.IndexSet.{insert_key}
use Rattle.machine_model.specs.Breakpoints.{has_id, with_id}

abbrev same : ℕ → ℕ → Bool
same a b = a == b

back : (a b : ℕ) → (a == b) ≡ (b == a)
back a b = grind arith

pub has_is : (ids : List ℕ) (id : ℕ) → list_any (same id) ids ≡ has_id ids id
has_is [] id = refl
has_is (first ∷ ids) id = by_test (id == first) (first == id) (back id first) (has_is ids id)
  where
    by_test : (one other : Bool) → one ≡ other → list_any (same id) ids ≡ has_id ids id
        → (one || list_any (same id) ids) ≡ (other || has_id ids id)
    by_test one other is rest = grind (arith, is, rest)

-- a breakpoint is told, behind those that were, once
pub inserted : (ids : List ℕ) (id : ℕ) → insert_key same ids id ≡ with_id ids id
inserted ids id = ap (λ (b : Bool). cond b ids (ids ++ id ∷ [])) (has_is ids id)
