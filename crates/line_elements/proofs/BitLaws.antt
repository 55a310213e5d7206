-- The text of bits is read as them again.
use Rattle.std.proofs.Common.{◌≡◌, ℕ, zero, suc, ◌+◌, ◌*◌, ◌/◌, ◌%◌, ◌^◌, ◌<◌, ◌≤◌, Bool, true, false}
use Rattle.std.proofs.Common.{cond, eqb, ⊎_elim, List, [], ◌∷◌, Some, None, refl, ap, ◌∙◌, arith, option_map, option_and_then}
use Rattle.std.proofs.lemmas.Bool.{cases_lt, eq-eqb, ne_eqb, lt-ltb}
use Rattle.std.proofs.Math.Nat.{pow-suc}
use Rattle.std.proofs.lemmas.Bool.Decides.{nat_tests}
use Rattle.std.specs.Fmt.{digits, digits_onto, digit_glyph}
use Rattle.line_elements.specs.Bits.{bits_text, digit_of, number_on, is_bare, bits_of}

-- a digit is read as its value
digit_again : (d : ℕ) → d < 16 → digit_of (digit_glyph false d) ≡ Some d
digit_again d h = grind (arith, nat_tests)

one_more : (n d : ℕ) (cs : List ℕ) → n < 2 ^ 60 → d < 16 →
    number_on n (digit_glyph false d ∷ cs) ≡ number_on (n * 16 + d) cs
one_more n d cs h k =
    ap (option_and_then (λ m. number_on m cs))
    (ap (λ (small : Bool). cond small (option_map (λ digit. n * 16 + digit) (digit_of (digit_glyph false d))) None)
    (lt-ltb n (2 ^ 60) h)
    ∙ ap (option_map (λ digit. n * 16 + digit)) (digit_again d k))

first_digit : (n : ℕ) (cs : List ℕ) → n < 16 → number_on 0 (digit_glyph false n ∷ cs) ≡ number_on n cs
first_digit n cs h = one_more 0 n cs (omega arith) h ∙ ap (λ (m : ℕ). number_on m cs) (omega arith)

-- the digits of a number, by whether it is one alone
one_digit : (k n : ℕ) (cs : List ℕ) → n < 16 → digits_onto (suc k) 16 false n cs ≡ digit_glyph false n ∷ cs
one_digit k n cs h =
    let same : n % 16 ≡ n = omega (arith, h) in
    ap (λ (last : Bool). cond last (digit_glyph false (n % 16) ∷ cs)
    (digits_onto k 16 false (n / 16) (digit_glyph false (n % 16) ∷ cs))) (eq-eqb (n / 16) 0 (omega (arith, h)))
    ∙ ap (λ (d : ℕ). digit_glyph false d ∷ cs) same

more_digits : (k n : ℕ) (cs : List ℕ) → 16 ≤ n →
    digits_onto (suc k) 16 false n cs ≡ digits_onto k 16 false (n / 16) (digit_glyph false (n % 16) ∷ cs)
more_digits k n cs h =
    ap (λ (last : Bool). cond last (digit_glyph false (n % 16) ∷ cs)
    (digits_onto k 16 false (n / 16) (digit_glyph false (n % 16) ∷ cs)))
    (ne_eqb (n / 16) 0 (λ z. omega (arith, h, z)))

-- the digits of a number lead to it
number_again : (k n : ℕ) (cs : List ℕ) → n < 2 ^ 64 → n < 16 ^ suc k →
    number_on 0 (digits_onto (suc k) 16 false n cs) ≡ number_on n cs
number_again zero n cs h fits = ap (number_on 0) (one_digit 0 n cs fits) ∙ first_digit n cs fits
number_again (suc k) n cs h fits =
    ⊎_elim
    (λ small. ap (number_on 0) (one_digit (suc k) n cs small) ∙ first_digit n cs small)
    (λ large.
    let more = pow-suc 16 (suc k) in
    ap (number_on 0) (more_digits (suc k) n cs large)
    ∙ number_again k (n / 16) (digit_glyph false (n % 16) ∷ cs) (omega (arith, h)) (omega (arith, fits, more))
    ∙ one_more (n / 16) (n % 16) cs (omega (arith, h)) (omega arith)
    ∙ ap (λ (m : ℕ). number_on m cs) (omega arith))
    (cases_lt n 16)

-- no zero stands in front of other digits
front_bare : (d : ℕ) (cs : List ℕ) → 0 < d → d < 16 → is_bare (digit_glyph false d ∷ cs) ≡ true
front_bare d [] some h = refl
front_bare d (c ∷ cs) some h = grind (arith, nat_tests)

digits_bare : (k n : ℕ) (cs : List ℕ) → 0 < n → n < 16 ^ suc k →
    is_bare (digits_onto (suc k) 16 false n cs) ≡ true
digits_bare zero n cs some fits = ap is_bare (one_digit 0 n cs fits) ∙ front_bare n cs some fits
digits_bare (suc k) n cs some fits =
    ⊎_elim
    (λ small. ap is_bare (one_digit (suc k) n cs small) ∙ front_bare n cs some small)
    (λ large.
    let more = pow-suc 16 (suc k) in
    ap is_bare (more_digits (suc k) n cs large)
    ∙ digits_bare k (n / 16) (digit_glyph false (n % 16) ∷ cs) (omega (arith, large)) (omega (arith, fits, more)))
    (cases_lt n 16)

all_bare : (n : ℕ) → n < 2 ^ 64 → is_bare (digits 16 false n) ≡ true
unfolding digits
all_bare zero h = refl
all_bare (suc n) h = digits_bare 63 (suc n) [] (omega arith) (omega (arith, h))

all_read : (n : ℕ) → n < 2 ^ 64 → number_on 0 (digits 16 false n) ≡ Some n
unfolding digits
all_read n h = number_again 63 n [] h (omega (arith, h))

pub bits_again : (n : ℕ) → n < 2 ^ 64 → bits_of (bits_text n) ≡ Some n
unfolding bits_of bits_text
bits_again n h =
    ap (λ (bare : Bool). cond bare (number_on 0 (digits 16 false n)) None) (all_bare n h) ∙ all_read n h
