-- Digits, whole numbers and signs: what is computed of them is what they are by the grammar.
use Rattle.std.proofs.Common.{◌≡◌, ◌≢◌, ◌<◌, ◌≤◌, ◌^◌, ℕ, ℤ, pos, neg_ℤ, Bool, true, false, List, [], ◌∷◌}
use Rattle.std.proofs.Common.{◌+◌, ◌-◌, ◌*◌, min, length, get_or, take, sym, ap, subst, ◌∙◌, refl, arith, Option, Some, None}
use Rattle.std.specs.Prelude.{nat_le, nat_lt, ◌==◌, ◌&&◌, if◌then◌else◌, option_and_then}
use Rattle.std.specs.Cmp.Derive.{both_true}
use Rattle.std.specs.Char.{digit_value, is_ascii_digit}
use Rattle.std.specs.List.{list_all}
use Rattle.std.specs.Str.Parse.{AllDigits, digits_value}
use Rattle.std.proofs.lemmas.Bool.{and_parts, eqb-true, leb-true, ltb-true, lt-ltb, le-leb}
use Rattle.std.proofs.lemmas.Bool.Decides.{nat_tests}
use Rattle.std.proofs.lemmas.Int.Digits.{digits_value_more}
use Rattle.std.proofs.lemmas.List.Folds.{list_all_at}
use Rattle.std.proofs.lemmas.Option.{option_and_then_some}
use Rattle.std.proofs.lemmas.Str.{digit_value_digit}
use Rattle.std.proofs.lemmas.Str.Parse.{digit_from_value}
use Rattle.field_exprs.proofs.Spans.{AllPassing}
use Rattle.break_rules.specs.Grammar.{IsDigits, IsWhole}
use Rattle.break_rules.specs.Parsing.{digits_in, has_digits, negative, no_sign, positive, whole_in}
use Rattle.field_exprs.specs.Grammar.{is_blank}
use Rattle.break_rules.proofs.Cuts.{unblank}

-- Digits --------------------------------------------------------------------------------------------------------------

is_digit : (byte : ℕ) → is_ascii_digit byte ≡ true → digit_value byte < 10
is_digit byte e = grind (arith, nat_tests)

digit_is : (byte : ℕ) → digit_value byte < 10 → is_ascii_digit byte ≡ true
digit_is byte below = let range = digit_from_value byte below in grind (arith, nat_tests, range)

digit_is_solid : (byte : ℕ) → digit_value byte < 10 → unblank byte ≡ true
digit_is_solid byte below = let range = digit_from_value byte below in grind (arith, nat_tests, range)

pub digit_is_no_blank : (byte : ℕ) → digit_value byte < 10 → is_blank byte ≡ false
digit_is_no_blank byte below = let range = digit_from_value byte below in grind (arith, nat_tests, range)

digit_is_no_sign : (byte : ℕ) → digit_value byte < 10 → no_sign byte ≡ true
digit_is_no_sign byte below = let range = digit_from_value byte below in grind (arith, nat_tests, range)

digit_is_no_minus : (byte : ℕ) → digit_value byte < 10 → (byte == 45) ≡ false
digit_is_no_minus byte below = let range = digit_from_value byte below in grind (arith, nat_tests, range)

all_digits : (bytes : List ℕ) → list_all is_ascii_digit bytes ≡ true → AllDigits 10 bytes
all_digits [] e = tt
all_digits (byte ∷ bytes) e =
    let both = and_parts (is_ascii_digit byte) (list_all is_ascii_digit bytes) e in
    (is_digit byte both.0, all_digits bytes both.1)

digits_all : (bytes : List ℕ) → AllDigits 10 bytes → list_all is_ascii_digit bytes ≡ true
digits_all [] all = refl
digits_all (byte ∷ bytes) all = both_true (digit_is byte all.0) (digits_all bytes all.1)

pub digits_are_solid : (bytes : List ℕ) → AllDigits 10 bytes → AllPassing unblank bytes
digits_are_solid [] all = tt
digits_are_solid (byte ∷ bytes) all = (digit_is_solid byte all.0, digits_are_solid bytes all.1)

pub digits_are_no_signs : (bytes : List ℕ) → AllDigits 10 bytes → AllPassing no_sign bytes
digits_are_no_signs [] all = tt
digits_are_no_signs (byte ∷ bytes) all = (digit_is_no_sign byte all.0, digits_are_no_signs bytes all.1)

filled : (text : List ℕ) → text ≢ [] → 0 < length text
filled [] some = absurd (some refl)
filled (byte ∷ bytes) some = omega arith

empty_or : (text : List ℕ) → 0 < length text → text ≢ []
empty_or text long none = let size = ap (λ (l : List ℕ). length l) none in omega arith

pub digits_are : (most n : ℕ) (text : List ℕ) → IsDigits text most n → digits_in most text ≡ Some n
digits_are most n text is =
    let pass : has_digits most text ≡ true =
    both_true (both_true (lt-ltb 0 (length text) (filled text is.some)) (le-leb (length text) most is.short))
    (digits_all text is.digital) in
    ap (λ (b : Bool). if b then Some (digits_value 10 text) else None) pass ∙ ap (λ (m : ℕ). Some m) is.value

pub are_digits : (most n : ℕ) (text : List ℕ) → digits_in most text ≡ Some n → IsDigits text most n
are_digits most n text found = by (has_digits most text) refl found
  where
    by : (b : Bool) → has_digits most text ≡ b → (if b then Some (digits_value 10 text) else None) ≡ Some n
        → IsDigits text most n
    by false e none = absurd cc
    by true e some =
        let last = and_parts (nat_lt 0 (length text) && nat_le (length text) most) (list_all is_ascii_digit text) e in
        let first = and_parts (nat_lt 0 (length text)) (nat_le (length text) most) last.0 in
        record {
          digital = all_digits text last.1;
          some = empty_or text (ltb-true 0 (length text) first.0);
          short = leb-true (length text) most first.1;
          value = cc;
        }

-- Whole numbers -------------------------------------------------------------------------------------------------------

positive_is : (n : ℕ) → n < 2 ^ 63 → positive n ≡ Some (pos n)
positive_is n small = ap (λ (b : Bool). if b then Some (pos n) else None) (lt-ltb n (2 ^ 63) small)

negative_is : (n : ℕ) → n ≤ 2 ^ 63 → negative n ≡ Some (neg_ℤ (pos n))
negative_is n small = ap (λ (b : Bool). if b then Some (neg_ℤ (pos n)) else None) (le-leb n (2 ^ 63) small)

is_positive : (n : ℕ) (z : ℤ) → positive n ≡ Some z → (n < 2 ^ 63) × (pos n ≡ z)
is_positive n z found = by (nat_lt n (2 ^ 63)) refl found
  where
    by : (b : Bool) → nat_lt n (2 ^ 63) ≡ b → (if b then Some (pos n) else None) ≡ Some z → (n < 2 ^ 63) × (pos n ≡ z)
    by false e none = absurd cc
    by true e some = (ltb-true n (2 ^ 63) e, cc)

is_negative : (n : ℕ) (z : ℤ) → negative n ≡ Some z → (n ≤ 2 ^ 63) × (neg_ℤ (pos n) ≡ z)
is_negative n z found = by (nat_le n (2 ^ 63)) refl found
  where
    by : (b : Bool) → nat_le n (2 ^ 63) ≡ b → (if b then Some (neg_ℤ (pos n)) else None) ≡ Some z
        → (n ≤ 2 ^ 63) × (neg_ℤ (pos n) ≡ z)
    by false e none = absurd cc
    by true e some = (leb-true n (2 ^ 63) e, cc)

abbrev whole_by : Bool → List ℕ → List ℕ → Option ℤ
whole_by minus digits text =
    if minus then option_and_then negative (digits_in 20 digits) else option_and_then positive (digits_in 20 text)

pub whole_is : (text : List ℕ) (z : ℤ) → IsWhole text z → whole_in text ≡ Some z
whole_is [] z (IsWhole.unsigned is small) = absurd (is.some refl)
whole_is (byte ∷ bytes) z (IsWhole.unsigned {n = n} is small) =
    ap (λ (b : Bool). whole_by b bytes (byte ∷ bytes)) (digit_is_no_minus byte is.digital.0)
    ∙ ap (λ (found : Option ℕ). option_and_then positive found) (digits_are 20 n (byte ∷ bytes) is) ∙ positive_is n small
whole_is text z (IsWhole.signed {digits = digits} {n = n} is small) =
    ap (λ (found : Option ℕ). option_and_then negative found) (digits_are 20 n digits is) ∙ negative_is n small

pub is_whole : (text : List ℕ) (z : ℤ) → whole_in text ≡ Some z → IsWhole text z
is_whole [] z found = absurd cc
is_whole (byte ∷ bytes) z found = by (byte == 45) refl found
  where
    by : (b : Bool) → (byte == 45) ≡ b → whole_by b bytes (byte ∷ bytes) ≡ Some z → IsWhole (byte ∷ bytes) z
    by true e some =
        option_and_then_some negative (digits_in 20 bytes) z some (λ n digits small.
        let is = is_negative n z small in
        subst (λ (m : ℤ). IsWhole (byte ∷ bytes) m) is.1
        (subst (λ (b : ℕ). IsWhole (b ∷ bytes) (neg_ℤ (pos n))) (sym (eqb-true byte 45 e))
        (IsWhole.signed (are_digits 20 n bytes digits) is.0)))
    by false e some =
        option_and_then_some positive (digits_in 20 (byte ∷ bytes)) z some (λ n digits small.
        let is = is_positive n z small in
        subst (λ (m : ℤ). IsWhole (byte ∷ bytes) m) is.1
        (IsWhole.unsigned (are_digits 20 n (byte ∷ bytes) digits) is.0))

pub whole_is_solid : (text : List ℕ) (z : ℤ) → IsWhole text z → AllPassing unblank text
whole_is_solid text z (IsWhole.unsigned is small) = digits_are_solid text is.digital
whole_is_solid text z (IsWhole.signed {digits = digits} is small) = (refl, digits_are_solid digits is.digital)

pub whole_has_no_sign : (text : List ℕ) (z : ℤ) → IsWhole text z → AllPassing no_sign text
whole_has_no_sign text z (IsWhole.unsigned is small) = digits_are_no_signs text is.digital
whole_has_no_sign text z (IsWhole.signed {digits = digits} is small) = (refl, digits_are_no_signs digits is.digital)

pub whole_is_some : (z : ℤ) → ¬ IsWhole [] z
whole_is_some z (IsWhole.unsigned is small) = is.some refl

-- Their value ---------------------------------------------------------------------------------------------------------

nth_digit : (bytes : List ℕ) (end : ℕ) → end < length bytes → list_all is_ascii_digit bytes ≡ true
    → is_ascii_digit (get_or bytes end 0) ≡ true
nth_digit bytes end within all = by (is_ascii_digit (get_or bytes end 0)) refl
  where
    by : (b : Bool) → is_ascii_digit (get_or bytes end 0) ≡ b → b ≡ true
    by true e = refl
    by false e = let none = list_all_at is_ascii_digit bytes end 0 within e in absurd cc

-- a digit is at least `0`
pub digit_above : (bytes : List ℕ) (end : ℕ) → end < length bytes → list_all is_ascii_digit bytes ≡ true
    → 48 ≤ get_or bytes end 0
digit_above bytes end within all =
    (digit_from_value (get_or bytes end 0) (is_digit (get_or bytes end 0) (nth_digit bytes end within all))).0

-- the number with one digit more
pub one_more : (bytes : List ℕ) (end value product digit total : ℕ) → end < length bytes
    → list_all is_ascii_digit bytes ≡ true → value ≡ min (digits_value 10 (take end bytes)) (2 ^ 64 - 1)
    → product ≡ min (value * 10) (2 ^ 64 - 1) → digit + 48 ≡ get_or bytes end 0
    → total ≡ min (product + digit) (2 ^ 64 - 1)
    → total ≡ min (digits_value 10 (take (end + 1) bytes)) (2 ^ 64 - 1)
one_more bytes end value product digit total within all is times at sum =
    let byte = get_or bytes end 0 in
    let below = is_digit byte (nth_digit bytes end within all) in
    let same = digit_value_digit byte (digit_from_value byte below) in
    let more = digits_value_more 10 bytes end within in omega arith
