-- The sizes that five numbers are, by what `IdSizes::new` says of them.
use Rattle.std.proofs.Common.{◌≡◌, ◌∙◌, ℕ, ◌≤◌, Bool, true, false, List, [], ◌∷◌, Option, Some, None, refl, sym, ap, subst}
use Rattle.std.proofs.Common.{arith, nat_le}
use Rattle.std.specs.Prelude.{position}
use Rattle.std.proofs.lemmas.Bool.{le-leb}
use Rattle.std.proofs.lemmas.Bool.Decides.{nat_tests}
use Rattle.std.proofs.Math.Bridge.{le_prop}
use Rattle.jdwp_values.specs.declared.sizes.IdSizes.{IdSizes}
use Rattle.jdwp_values.specs.Sizes.{IsSize, is_no_size}
use Rattle.script_files.specs.Sizes.{shown_size, size_of, all_sizes, sizes_of}

one_size : {n : ℕ} (p q : IsSize n) → p ≡ q
one_size p q = ap (λ low. (low, p.1)) (le_prop p.0 q.0) ∙ ap (λ high. (q.0, high)) (le_prop p.1 q.1)

size_shown : (n : ℕ) (p : IsSize n) (low high : Bool) (e : nat_le 1 n ≡ low) (f : nat_le n 8 ≡ high)
    → shown_size n low high e f ≡ Some p
size_shown n p true true e f = ap Some (one_size _ p)
size_shown n p true false e f = let is : nat_le n 8 ≡ true = le-leb n 8 p.1 in absurd cc
size_shown n p false high e f = let is : nat_le 1 n ≡ true = le-leb 1 n p.0 in absurd cc

size_is : (n : ℕ) (p : IsSize n) → size_of n ≡ Some p
size_is n p = size_shown n p (nat_le 1 n) (nat_le n 8) refl refl

-- five sizes
pub sizes_are : (s : IdSizes) (numbers : List ℕ) → numbers ≡ s.field ∷ s.method ∷ s.object ∷ s.class ∷ s.frame ∷ []
    → sizes_of numbers ≡ Some s
sizes_are s numbers e =
    ap sizes_of e ∙ rw (
      size_is s.field s.field_is_size,
      size_is s.method s.method_is_size,
      size_is s.object s.object_is_size,
      size_is s.class s.class_is_size,
      size_is s.frame s.frame_is_size,
    ) refl

not_none : (n : ℕ) → IsSize n → is_no_size n ≡ false
not_none n p = let low : 1 ≤ n = p.0 in let high : n ≤ 8 = p.1 in grind (arith, nat_tests)

none_found : (f m o c r : ℕ) → IsSize f → IsSize m → IsSize o → IsSize c → IsSize r
    → position is_no_size (f ∷ m ∷ o ∷ c ∷ r ∷ []) ≡ None
none_found f m o c r a b d e g = rw (not_none f a, not_none m b, not_none o d, not_none c e, not_none r g) refl

no_sizes : (f m o c r k : ℕ) (a : Option (IsSize f)) (b : Option (IsSize m)) (d : Option (IsSize o))
    (e : Option (IsSize c)) (g : Option (IsSize r)) → position is_no_size (f ∷ m ∷ o ∷ c ∷ r ∷ []) ≡ Some k
    → all_sizes f m o c r a b d e g ≡ None
no_sizes f m o c r k None b d e g h = refl
no_sizes f m o c r k (Some a) None d e g h = refl
no_sizes f m o c r k (Some a) (Some b) None e g h = refl
no_sizes f m o c r k (Some a) (Some b) (Some d) None g h = refl
no_sizes f m o c r k (Some a) (Some b) (Some d) (Some e) None h = refl
no_sizes f m o c r k (Some a) (Some b) (Some d) (Some e) (Some g) h =
    let none = none_found f m o c r a b d e g in absurd cc

-- five numbers of which one is no size
pub sizes_are_none : (numbers : List ℕ) (k : ℕ) → position is_no_size numbers ≡ Some k → sizes_of numbers ≡ None
sizes_are_none [] k h = refl
sizes_are_none (f ∷ []) k h = refl
sizes_are_none (f ∷ m ∷ []) k h = refl
sizes_are_none (f ∷ m ∷ o ∷ []) k h = refl
sizes_are_none (f ∷ m ∷ o ∷ c ∷ []) k h = refl
sizes_are_none (f ∷ m ∷ o ∷ c ∷ r ∷ []) k h =
    no_sizes f m o c r k (size_of f) (size_of m) (size_of o) (size_of c) (size_of r) h
sizes_are_none (f ∷ m ∷ o ∷ c ∷ r ∷ n ∷ more) k h = refl
