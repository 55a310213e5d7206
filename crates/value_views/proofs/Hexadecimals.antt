-- Four digits in hexadecimal, and the number that they write.
use Rattle.std.proofs.Common.{◌≡◌, ℕ, ◌+◌, ◌-◌, ◌*◌, ◌/◌, ◌%◌, ◌<◌, false, cond, eqb, List, [], ◌∷◌, ◌++◌}
use Rattle.std.proofs.Common.{◌^◌, append-nil, length, replicate, Some, refl, ap, ◌∙◌, arith, option_and_then}
use Rattle.std.proofs.lemmas.Bool.{cond-true, cond_both, eqb-true, eq-eqb}
use Rattle.std.proofs.lemmas.Bool.Decides.{nat_tests}
use Rattle.std.proofs.lemmas.Option.{option_and_then_some, same_Some}
use Rattle.std.specs.Fmt.{digits, digits_onto, digit_glyph, padded_integral, char_count, format_spec}
use Rattle.value_views.specs.Quotes.{hexadecimal}
use Rattle.value_views.specs.Chars.{hex_value, hex_after}

abbrev glyph : ℕ → ℕ
glyph d = digit_glyph false d

-- zeros before digits, up to four
abbrev filled : List ℕ → List ℕ
filled ds = replicate (4 - length ds) 48 ++ ds

-- the digits of a number below 16 ^ 4, by how many it has
unrolled : (n : ℕ) → digits 16 false n
    ≡ cond (eqb (n / 16) 0) (glyph (n % 16) ∷ [])
    (cond (eqb (n / 16 / 16) 0) (glyph (n / 16 % 16) ∷ glyph (n % 16) ∷ [])
    (cond (eqb (n / 16 / 16 / 16) 0) (glyph (n / 16 / 16 % 16) ∷ glyph (n / 16 % 16) ∷ glyph (n % 16) ∷ [])
    (cond (eqb (n / 16 / 16 / 16 / 16) 0)
    (glyph (n / 16 / 16 / 16 % 16) ∷ glyph (n / 16 / 16 % 16) ∷ glyph (n / 16 % 16) ∷ glyph (n % 16) ∷ [])
    (digits_onto 60 16 false (n / 16 / 16 / 16 / 16)
    (glyph (n / 16 / 16 / 16 % 16) ∷ glyph (n / 16 / 16 % 16) ∷ glyph (n / 16 % 16) ∷ glyph (n % 16) ∷ [])))))
unfolding digits
unrolled n = refl

abbrev four : ℕ → ℕ → ℕ → ℕ → List ℕ
four x y z w = glyph x ∷ glyph y ∷ glyph z ∷ glyph w ∷ []

-- digits of which the first may be zero, filled up to four
pub four_digits : (n x y z w : ℕ) → n ≡ x * 4096 + y * 256 + z * 16 + w → x < 16 → y < 16 → z < 16 → w < 16
    → hexadecimal 4 n ≡ four x y z w
four_digits n x y z w e hx hy hz hw =
    let all = four x y z w in
    let q1 : n / 16 ≡ x * 256 + y * 16 + z = omega arith in
    let q2 : n / 16 / 16 ≡ x * 16 + y = omega arith in
    let q3 : n / 16 / 16 / 16 ≡ x = omega arith in
    let q4 : n / 16 / 16 / 16 / 16 ≡ 0 = omega arith in
    let r0 : n % 16 ≡ w = omega arith in
    let r1 : n / 16 % 16 ≡ z = omega arith in
    let r2 : n / 16 / 16 % 16 ≡ y = omega arith in
    let r3 : n / 16 / 16 / 16 % 16 ≡ x = omega arith in
    ap filled (unrolled n) ∙ cond_both (eqb (n / 16) 0) _ _ (λ ds. filled ds ≡ all)
    (λ t1. let s1 = eqb-true (n / 16) 0 t1 in let zx : x ≡ 0 = omega arith in let zy : y ≡ 0 = omega arith in
    let zz : z ≡ 0 = omega arith in rw (r0, zx, zy, zz) refl)
    (λ f1. cond_both (eqb (n / 16 / 16) 0) _ _ (λ ds. filled ds ≡ all)
    (λ t2. let s2 = eqb-true (n / 16 / 16) 0 t2 in let zx : x ≡ 0 = omega arith in
    let zy : y ≡ 0 = omega arith in rw (r0, r1, zx, zy) refl)
    (λ f2. cond_both (eqb (n / 16 / 16 / 16) 0) _ _ (λ ds. filled ds ≡ all)
    (λ t3. let s3 = eqb-true (n / 16 / 16 / 16) 0 t3 in let zx : x ≡ 0 = omega arith in
    rw (r0, r1, r2, zx) refl)
    (λ f3. ap filled (cond-true (eqb (n / 16 / 16 / 16 / 16) 0) _ _ (eq-eqb (n / 16 / 16 / 16 / 16) 0 q4))
    ∙ rw (r0, r1, r2, r3) refl)))

-- a digit is read as its value
pub value_of_glyph : (d : ℕ) → d < 16 → hex_value (glyph d) ≡ Some d
value_of_glyph d h = grind (arith, nat_tests)

-- what is read as a value is its digit
pub glyph_of_value : (byte d : ℕ) → hex_value byte ≡ Some d → (d < 16) × (glyph d ≡ byte)
glyph_of_value byte d e = grind (arith, nat_tests)

-- a digit behind others
pub hex_after-glyph : (n d : ℕ) (rest : List ℕ) → d < 16 → hex_after n (glyph d ∷ rest) ≡ hex_after (n * 16 + d) rest
hex_after-glyph n d rest h =
    ap (λ o. option_and_then (λ digit. hex_after (n * 16 + digit) rest) o) (value_of_glyph d h)

-- four digits are read as the number that they write
pub number_of_four : (x y z w : ℕ) → x < 16 → y < 16 → z < 16 → w < 16
    → hex_after 0 (four x y z w) ≡ Some (x * 4096 + y * 256 + z * 16 + w)
number_of_four x y z w hx hy hz hw =
    let whole : (((0 * 16 + x) * 16 + y) * 16 + z) * 16 + w ≡ x * 4096 + y * 256 + z * 16 + w = omega arith in
    hex_after-glyph 0 x (glyph y ∷ glyph z ∷ glyph w ∷ []) hx
    ∙ hex_after-glyph (0 * 16 + x) y (glyph z ∷ glyph w ∷ []) hy
    ∙ hex_after-glyph ((0 * 16 + x) * 16 + y) z (glyph w ∷ []) hz
    ∙ hex_after-glyph (((0 * 16 + x) * 16 + y) * 16 + z) w [] hw
    ∙ ap (λ n. Some n) whole

-- the first digit of those that are read
pub hex_after-some : (n byte m : ℕ) (bytes : List ℕ) → hex_after n (byte ∷ bytes) ≡ Some m
    → (d : ℕ) × (d < 16) × (glyph d ≡ byte) × (hex_after (n * 16 + d) bytes ≡ Some m)
hex_after-some n byte m bytes e =
    option_and_then_some (λ digit. hex_after (n * 16 + digit) bytes) (hex_value byte) m e
    (λ d here rest. let at = glyph_of_value byte d here in (d, at.0, at.1, rest))

-- four digits that are read are those of the number
pub four_of_number : (a b c d m : ℕ) → hex_after 0 (a ∷ b ∷ c ∷ d ∷ []) ≡ Some m
    → (m < 65536) × (hexadecimal 4 m ≡ a ∷ b ∷ c ∷ d ∷ [])
four_of_number a b c d m e =
    let x = hex_after-some 0 a m (b ∷ c ∷ d ∷ []) e in
    let y = hex_after-some (0 * 16 + x.0) b m (c ∷ d ∷ []) x.3 in
    let z = hex_after-some ((0 * 16 + x.0) * 16 + y.0) c m (d ∷ []) y.3 in
    let w = hex_after-some (((0 * 16 + x.0) * 16 + y.0) * 16 + z.0) d m [] z.3 in
    let whole = same_Some _ _ w.3 in
    let hx : x.0 < 16 = x.1 in
    let hy : y.0 < 16 = y.1 in
    let hz : z.0 < 16 = z.1 in
    let hw : w.0 < 16 = w.1 in
    let sum : m ≡ x.0 * 4096 + y.0 * 256 + z.0 * 16 + w.0 = omega arith in (
      omega arith,
      four_digits m x.0 y.0 z.0 w.0 sum hx hy hz hw ∙ rw (x.2, y.2, z.2, w.2) refl,
    )

-- what is written with zeros up to a width
pub padded_hexadecimal : (width n : ℕ)
    → padded_integral (format_spec 32 0 4 width (2 ^ 64 - 1)) false [] (digits 16 false n) ≡ hexadecimal width n
unfolding padded_integral char_count
padded_hexadecimal width n =
    let ds = digits 16 false n in
    let room : width - length ds - 0 - 0 ≡ width - length ds = omega arith in
    rw (room) (ap (λ l. replicate (width - length ds) 48 ++ l) (append-nil ds))
