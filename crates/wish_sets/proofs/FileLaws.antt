-- A key that doesn't end with a file isn't that of the file.
use Rattle.std.proofs.Common.{◌≡◌, ℕ, ◌-◌, ◌≤◌, Bool, true, false, List, refl, sym, ap, ◌∙◌, subst, length, drop, arith}
use Rattle.std.specs.Prelude.{◌&&◌, bytes_eq, not}
use Rattle.std.specs.List.{after_last, before_last, suffix_len}
use Rattle.std.proofs.lemmas.List.{length-drop}
use Rattle.std.proofs.lemmas.List.Sums.{suffix_len-le-length}
use Rattle.std.proofs.lemmas.Slice.Eq.{bytes_eq-Decides}
use Rattle.wish_sets.specs.Names.{is_slash}

-- bytes end with what is left of them behind a place
ends_from : (n : ℕ) (bytes : List ℕ) → n ≤ length bytes
    → bytes_eq (drop (length bytes - length (drop n bytes)) bytes) (drop n bytes) ≡ true
ends_from n bytes within =
    let count = length-drop n bytes in
    let back : length bytes - length (drop n bytes) ≡ n = omega (arith, count, within) in
    ap (λ k. bytes_eq (drop k bytes) (drop n bytes)) back ∙ (bytes_eq-Decides (drop n bytes) (drop n bytes)).1 refl

other_file : (key file : List ℕ) → bytes_eq (drop (length key - length file) key) file ≡ false
    → bytes_eq (after_last is_slash key) file ≡ false
other_file key file other = by (bytes_eq (after_last is_slash key) file) refl
  where
    by : (b : Bool) → bytes_eq (after_last is_slash key) file ≡ b → b ≡ false
    by false e = refl
    by true e =
        let same = (bytes_eq-Decides (after_last is_slash key) file).0 e in
        let ends = ends_from (length key - suffix_len (λ byte. not (is_slash byte)) key) key (omega arith) in
        let ended = subst (λ (f : List ℕ). bytes_eq (drop (length key - length f) key) f ≡ true) same ends in
        sym ended ∙ other

pub not_its_file : (filled : Bool) (key path file : List ℕ)
    → bytes_eq (drop (length key - length file) key) file ≡ false
    → false ≡ (filled && (bytes_eq (before_last is_slash key) path && bytes_eq (after_last is_slash key) file))
not_its_file filled key path file other =
    rw (other_file key file other) (by filled (bytes_eq (before_last is_slash key) path))
  where
    by : (a b : Bool) → false ≡ (a && (b && false))
    by false b = refl
    by true false = refl
    by true true = refl
