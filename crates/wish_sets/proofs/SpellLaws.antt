-- A name goes on byte for byte as the path of its package does.
use Rattle.std.proofs.Common.{◌≡◌, ℕ, zero, suc, Bool, true, false, List, [], ◌∷◌, ◌++◌, refl, ap, sym, ◌∙◌, cond}
use Rattle.std.proofs.Common.{Option, Some, None, length, arith}
use Rattle.std.specs.Prelude.{◌==◌, ◌&&◌, bytes_eq}
use Rattle.std.specs.Str.Lossy.{replacement_bytes}
use Rattle.jdwp_values.specs.Lossy.{continued, lossy, lossy_after}
use Rattle.wish_sets.specs.Names.{dotted, package_name}
use Rattle.wish_sets.specs.Spelling.{dot_for, rest_behind, rest_behind_replaced, count_with, begun, gone_on}

-- whether the rest of a name is that of the rest of a path
abbrev pub matched : List ℕ → Option (ℕ × List ℕ) → Bool
matched path None = false
matched path (Some next) = bytes_eq next.1 (lossy_after next.0 (dotted path))

byte_matched : (path : List ℕ) (byte count : ℕ) (name : List ℕ)
    → bytes_eq name (dot_for byte ∷ lossy_after count (dotted path))
    ≡ matched path (count_with count (rest_behind name (dot_for byte)))
byte_matched path byte count [] = refl
byte_matched path byte count (first ∷ rest) = by (first == dot_for byte)
  where
    by : (b : Bool) → (b && bytes_eq rest (lossy_after count (dotted path)))
        ≡ matched path (count_with count (cond b (Some rest) None))
    by true = refl
    by false = refl

replaced_matched : (path name : List ℕ)
    → bytes_eq name (replacement_bytes ++ lossy_after 0 (dotted path))
    ≡ matched path (count_with 0 (rest_behind_replaced name))
replaced_matched path [] = refl
replaced_matched path (a ∷ []) = by (a == 239)
  where
    by : (b : Bool) → (b && false) ≡ false
    by true = refl
    by false = refl
replaced_matched path (a ∷ b ∷ []) = by (a == 239) (b == 191)
  where
    by : (p q : Bool) → (p && (q && false)) ≡ false
    by true true = refl
    by true false = refl
    by false q = refl
replaced_matched path (a ∷ b ∷ c ∷ rest) = by (a == 239) (b == 191) (c == 189)
  where
    by : (p q r : Bool) → (p && (q && (r && bytes_eq rest (lossy_after 0 (dotted path)))))
        ≡ matched path (count_with 0 (cond (p && (q && r)) (Some rest) None))
    by true true true = refl
    by true true false = refl
    by true false r = refl
    by false q r = refl

spelled : (byte : ℕ) (path : List ℕ) (count : ℕ) (name : List ℕ)
    → bytes_eq name (lossy_after count (dot_for byte ∷ dotted path)) ≡ matched path (gone_on byte path count name)
unfolding lossy_after
spelled byte path zero name = by (continued (dot_for byte) (dotted path))
  where
    by : (o : Option ℕ) → bytes_eq name (elim o as (λ _. List ℕ) [
      | None ↦ replacement_bytes ++ lossy_after 0 (dotted path)
      | Some n ↦ dot_for byte ∷ lossy_after n (dotted path)
    ]) ≡ matched path (begun byte o name)
    by None = replaced_matched path name
    by (Some n) = byte_matched path byte n name
spelled byte path (suc count) name = byte_matched path byte count name

pub spelled_whole : (whole : List ℕ) (byte : ℕ) (path : List ℕ) (count : ℕ) (name : List ℕ) → whole ≡ byte ∷ path
    → bytes_eq name (lossy_after count (dotted whole)) ≡ matched path (gone_on byte path count name)
spelled_whole whole byte path count name e =
    ap (λ bytes. bytes_eq name (lossy_after count (dotted bytes))) e ∙ spelled byte path count name

pub none_left : (name : List ℕ) (count : ℕ) → bytes_eq name (lossy_after count []) ≡ bytes_eq name []
unfolding lossy_after
none_left name zero = refl
none_left name (suc count) = refl

pub from_the_start : (name path : List ℕ) → bytes_eq name (lossy_after 0 (dotted path))
    ≡ bytes_eq name (package_name path)
unfolding lossy
from_the_start name path = refl

empty_name : (name : List ℕ) → (length name == 0) ≡ bytes_eq name []
empty_name [] = refl
empty_name (first ∷ name) = grind arith

no_bytes : (path : List ℕ) → length path ≡ 0 → dotted path ≡ []
no_bytes [] e = refl
no_bytes (byte ∷ path) e = absurd (omega (arith, e))

pub at_the_end : (path name : List ℕ) (count : ℕ) → length path ≡ 0
    → (length name == 0) ≡ bytes_eq name (lossy_after count (dotted path))
at_the_end path name count e =
    empty_name name ∙ sym (ap (λ bytes. bytes_eq name (lossy_after count bytes)) (no_bytes path e)
    ∙ none_left name count)
