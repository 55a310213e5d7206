-- What is made of all items of a list, place by place.
use Rattle.std.proofs.Common.{◌≡◌, ◌∙◌, ◌++◌, ◌∷◌, ◌+◌, ℕ, zero, suc, List, [], Some, None, append_assoc, ap}
use Rattle.std.proofs.Common.{arith, drop, flat_map, refl, sym}
use Rattle.std.proofs.lemmas.List.{append-nil}
use Rattle.std.specs.List.{slice_get}

-- the item at a place, and those behind it
one_more : {A B : Type 0} (f : A → List B) (all : List A) (place : ℕ) (a : A) → slice_get all place ≡ Some a
    → flat_map f (drop place all) ≡ f a ++ flat_map f (drop (suc place) all)
one_more f [] place a is = cc
one_more f (first ∷ others) zero a is =
    let same : first ≡ a = cc in ap (λ one. f one ++ flat_map f others) same
one_more f (first ∷ others) (suc place) a is = one_more f others place a is

-- behind the last there is none
no_more : {A B : Type 0} (f : A → List B) (all : List A) (place : ℕ) → slice_get all place ≡ None
    → flat_map f (drop place all) ≡ []
no_more f [] zero is = refl
no_more f [] (suc place) is = refl
no_more f (first ∷ others) zero is = cc
no_more f (first ∷ others) (suc place) is = no_more f others place is

-- the item at a place is gone through
pub moved : {A B : Type 0} (f : A → List B) (all : List A) (place later : ℕ) (a : A) (before now : List B)
    → slice_get all place ≡ Some a → later ≡ place + 1 → now ≡ before ++ f a
    → before ++ flat_map f (drop place all) ≡ flat_map f all → now ++ flat_map f (drop later all) ≡ flat_map f all
moved f all place later a before now is next put so =
    let behind : later ≡ suc place = omega (arith, next) in
    rw (put, behind)
    (append_assoc before (f a) (flat_map f (drop (suc place) all))
    ∙ ap (λ rest. before ++ rest) (sym (one_more f all place a is)) ∙ so)

-- all are
pub ended : {A B : Type 0} (f : A → List B) (all : List A) (place : ℕ) (before : List B) → slice_get all place ≡ None
    → before ++ flat_map f (drop place all) ≡ flat_map f all → before ≡ flat_map f all
ended f all place before is so =
    sym (append-nil before) ∙ ap (λ rest. before ++ rest) (sym (no_more f all place is)) ∙ so
