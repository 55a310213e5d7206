-- The text of bits is ASCII.
use Rattle.std.proofs.Common.{◌≡◌, ℕ, zero, suc, ◌/◌, ◌%◌, ◌<◌, Bool, true, false, ◌&&◌, nat_lt, eqb, List, [], ◌∷◌}
use Rattle.std.proofs.Common.{refl, ap, ◌∙◌, arith}
use Rattle.std.proofs.lemmas.Bool.{cond_both}
use Rattle.std.proofs.lemmas.Bool.Decides.{nat_tests}
use Rattle.std.specs.Fmt.{digits, digits_onto, digit_glyph}
use Rattle.std.specs.List.{list_all}
use Rattle.line_elements.specs.Bits.{bits_text}

abbrev is_ascii : ℕ → Bool
is_ascii byte = nat_lt byte 128

glyph_ascii : (d : ℕ) → d < 16 → is_ascii (digit_glyph false d) ≡ true
glyph_ascii d h = grind (arith, nat_tests)

more_ascii : (n : ℕ) (cs : List ℕ) → list_all is_ascii cs ≡ true →
    list_all is_ascii (digit_glyph false (n % 16) ∷ cs) ≡ true
more_ascii n cs h = ap (λ (b : Bool). b && list_all is_ascii cs) (glyph_ascii (n % 16) (omega arith)) ∙ h

digits_ascii : (k n : ℕ) (cs : List ℕ) → list_all is_ascii cs ≡ true →
    list_all is_ascii (digits_onto k 16 false n cs) ≡ true
digits_ascii zero n cs h = h
digits_ascii (suc k) n cs h =
    cond_both (eqb (n / 16) 0) (digit_glyph false (n % 16) ∷ cs)
    (digits_onto k 16 false (n / 16) (digit_glyph false (n % 16) ∷ cs)) (λ ds. list_all is_ascii ds ≡ true)
    (λ last. more_ascii n cs h)
    (λ more. digits_ascii k (n / 16) (digit_glyph false (n % 16) ∷ cs) (more_ascii n cs h))

pub bits_ascii : (n : ℕ) → list_all is_ascii (bits_text n) ≡ true
unfolding bits_text digits
bits_ascii n = digits_ascii 64 n [] refl
