-- The sizes of ids that five numbers are (JDWP, VirtualMachine command set, IDSizes).
use Rattle.std.specs.Prelude.{◌≡◌, ℕ, Bool, true, false, ◌&&◌, nat_le, List, [], ◌∷◌, Option, Some, None, refl}
use Rattle.std.proofs.Common.{◌≤◌}
use Rattle.std.proofs.lemmas.Bool.{leb-true, and_parts}
use Rattle.jdwp_values.specs.declared.sizes.IdSizes.{IdSizes}
use Rattle.jdwp_values.specs.Sizes.{IsSize}

-- a number that is a size, where it is one
abbrev pub shown_size : (n : ℕ) (low high : Bool) → nat_le 1 n ≡ low → nat_le n 8 ≡ high → Option (IsSize n)
shown_size n true true low high = Some (leb-true 1 n low, leb-true n 8 high)
shown_size n true false low high = None
shown_size n false high low e = None

abbrev pub size_of : (n : ℕ) → Option (IsSize n)
size_of n = shown_size n (nat_le 1 n) (nat_le n 8) refl refl

-- five of them, where all are sizes
abbrev pub all_sizes : (f m o c r : ℕ) → Option (IsSize f) → Option (IsSize m) → Option (IsSize o) → Option (IsSize c)
    → Option (IsSize r) → Option IdSizes
all_sizes f m o c r None b d e g = None
all_sizes f m o c r (Some a) None d e g = None
all_sizes f m o c r (Some a) (Some b) None e g = None
all_sizes f m o c r (Some a) (Some b) (Some d) None g = None
all_sizes f m o c r (Some a) (Some b) (Some d) (Some e) None = None
all_sizes f m o c r (Some a) (Some b) (Some d) (Some e) (Some g) = Some (record {
  field = f;
  method = m;
  object = o;
  class = c;
  frame = r;
  field_is_size = a;
  method_is_size = b;
  object_is_size = d;
  class_is_size = e;
  frame_is_size = g;
})

-- the sizes that five numbers are; nothing of another list
abbrev pub sizes_of : List ℕ → Option IdSizes
sizes_of [] = None
sizes_of (f ∷ []) = None
sizes_of (f ∷ m ∷ []) = None
sizes_of (f ∷ m ∷ o ∷ []) = None
sizes_of (f ∷ m ∷ o ∷ c ∷ []) = None
sizes_of (f ∷ m ∷ o ∷ c ∷ r ∷ []) = all_sizes f m o c r (size_of f) (size_of m) (size_of o) (size_of c) (size_of r)
sizes_of (f ∷ m ∷ o ∷ c ∷ r ∷ n ∷ more) = None
