-- Big-endian numbers: the bytes of a number spell it, and the number of bytes is spelled by them.
use Rattle.std.proofs.Common.{◌≡◌, ℕ, zero, suc, ◌+◌, ◌-◌, ◌*◌, ◌/◌, ◌%◌, ◌^◌, ◌<◌, ◌≤◌, List, [], ◌∷◌, length, take}
use Rattle.std.proofs.Common.{drop, refl, ap, ◌∙◌, arith, subst, inl, inr, zero-add}
use Rattle.std.specs.Int.{byte_at, bytes_high_first}
use Rattle.std.specs.Int.Digits.{number_from_digits, number_from_digits_after}
use Rattle.std.proofs.Math.Arith.{mod-mul}
use Rattle.std.proofs.Math.Nat.{pow-suc, pow-succ', pow-le-pow_right, one-le-pow, mul-le-mul_right, suc-add}
use Rattle.std.proofs.Math.Nat.{mod-eq_of_lt}
use Rattle.std.proofs.lemmas.Grind.{pow_more}
use Rattle.std.proofs.lemmas.Nat.{div-mul-add, mod-mul-add}
use Rattle.std.proofs.lemmas.List.{get_or-drop, get_or-take, get_or_past, length-take}
use Rattle.std.proofs.lemmas.Bool.{cases_lt}
use Rattle.jdwp_values.specs.Bytes.{IsBytes}

pub IsBytes-drop : (n : ℕ) (bytes : List ℕ) → IsBytes bytes → IsBytes (drop n bytes)
IsBytes-drop n bytes h i = rw get_or-drop (h (n + i))

pub IsBytes-take : (n : ℕ) (bytes : List ℕ) → IsBytes bytes → IsBytes (take n bytes)
IsBytes-take n bytes h i =
    elim (cases_lt i n) [
      | inl lt ↦ rw (get_or-take n bytes i 0 lt) (h i)
      | inr le ↦ rw (get_or_past (take n bytes) i 0 (omega (arith, length-take n bytes))) (omega arith)
    ]

pub IsBytes-rest : (b : ℕ) (bytes : List ℕ) → IsBytes (b ∷ bytes) → IsBytes bytes
IsBytes-rest b bytes h i = h (suc i)

pub pow_pos : (k : ℕ) → 0 < 256 ^ k
pow_pos k = omega (arith, one-le-pow k 256 (omega arith))

-- one more byte
pub below_more : (n i b : ℕ) → n < 256 ^ i → b < 256 → n * 256 + b < 256 ^ (i + 1)
below_more n i b lt small = omega (arith, pow_more 256 i)

-- a number of at most eight bytes has at most 64 bits
pub fits_64 : (n i : ℕ) → n < 256 ^ i → i ≤ 8 → n < 2 ^ 64
fits_64 n i lt few = let top : 256 ^ i ≤ 256 ^ 8 = pow-le-pow_right (omega arith) few in omega arith

number_after-is : (acc : ℕ) (bs : List ℕ)
    → number_from_digits_after 256 acc bs ≡ acc * 256 ^ length bs + number_from_digits 256 bs
number_after-is acc [] = omega arith
number_after-is acc (b ∷ bs) =
    let here : number_from_digits_after 256 acc (b ∷ bs) ≡ (acc * 256 + b) * 256 ^ length bs + number_from_digits
    256 bs =
    number_after-is (acc * 256 + b) bs in
    let zeros : number_from_digits 256 (b ∷ bs) ≡ (0 * 256 + b) * 256 ^ length bs + number_from_digits 256 bs =
    number_after-is (0 * 256 + b) bs in
    let longer : 256 ^ length (b ∷ bs) ≡ 256 ^ length bs * 256 = pow-suc 256 (length bs) in
    rw (here, zeros, longer) (omega arith)

pub number-below : (bs : List ℕ) → IsBytes bs → number_from_digits 256 bs < 256 ^ length bs
number-below [] fits = omega arith
number-below (b ∷ bs) fits =
    let rest = number-below bs (IsBytes-rest b bs fits) in
    let first : b < 256 = fits 0 in
    let here : number_from_digits 256 (b ∷ bs) ≡ (0 * 256 + b) * 256 ^ length bs + number_from_digits 256 bs =
    number_after-is (0 * 256 + b) bs in
    let longer : 256 ^ length (b ∷ bs) ≡ 256 * 256 ^ length bs = pow-succ' 256 (length bs) in
    let room : suc b * 256 ^ length bs ≤ 256 * 256 ^ length bs = mul-le-mul_right (256 ^ length bs) first in
    rw (here, longer) (omega arith)

byte_at-is : (k n : ℕ) → byte_at k n ≡ n / 256 ^ k % 256
byte_at-is zero n = omega arith
byte_at-is (suc k) n = refl

byte_at-number : (acc b : ℕ) (bs : List ℕ) → b < 256 → IsBytes bs
    → byte_at (length bs) (number_from_digits_after 256 (acc * 256 + b) bs) ≡ b
byte_at-number acc b bs small fits =
    let k = length bs in
    let low = number-below bs fits in
    let high : (((acc * 256 + b) * 256 ^ k + number_from_digits 256 bs) / 256 ^ k) ≡ acc * 256 + b =
    div-mul-add (acc * 256 + b) (256 ^ k) (number_from_digits 256 bs) low in
    byte_at-is k (number_from_digits_after 256 (acc * 256 + b) bs) ∙ rw (number_after-is (acc * 256 + b) bs, high)
    (mod-mul-add acc 256 b small)

spelled_after : (acc : ℕ) (bs : List ℕ) → IsBytes bs
    → bytes_high_first (length bs) (number_from_digits_after 256 acc bs) ≡ bs
spelled_after acc [] fits = refl
spelled_after acc (b ∷ bs) fits =
    let rest = IsBytes-rest b bs fits in
    let small : b < 256 = fits 0 in
    rw (byte_at-number acc b bs small rest, spelled_after (acc * 256 + b) bs rest) refl

-- the number of some bytes is spelled by them
pub spelled : (size : ℕ) (bs : List ℕ) → length bs ≡ size → IsBytes bs
    → bytes_high_first size (number_from_digits 256 bs) ≡ bs
spelled size bs len fits =
    subst (λ (n : ℕ). bytes_high_first n (number_from_digits 256 bs) ≡ bs) len (spelled_after 0 bs fits)

number_again_after : (acc k n : ℕ)
    → number_from_digits_after 256 acc (bytes_high_first k n) ≡ acc * 256 ^ k + n % 256 ^ k
number_again_after acc zero n = omega arith
number_again_after acc (suc k) n =
    let digit = byte_at k n in
    let here = number_again_after (acc * 256 + digit) k n in
    let split : n % (256 * 256 ^ k) ≡ (n / 256 ^ k % 256) * 256 ^ k + n % 256 ^ k =
    mod-mul n (omega arith) (pow_pos k) in
    let whole : number_from_digits_after 256 acc (bytes_high_first (suc k) n) ≡ (acc * 256 + digit) * 256 ^ k + n % 256
    ^ k =
    here in
    let longer : 256 ^ suc k ≡ 256 * 256 ^ k = pow-succ' 256 k in
    rw (whole, longer, split, ← byte_at-is k n) (omega arith)

-- the spelling of a number is its number again
pub number_again : (size n : ℕ) → n < 256 ^ size → number_from_digits 256 (bytes_high_first size n) ≡ n
number_again size n lt = number_again_after 0 size n ∙ rw (mod-eq_of_lt lt) (omega arith)

pub length-bytes_high_first : (size n : ℕ) → length (bytes_high_first size n) ≡ size
length-bytes_high_first zero n = refl
length-bytes_high_first (suc size) n = ap suc (length-bytes_high_first size n)

-- the last bytes of a number's bytes are those of a shorter spelling
pub drop-bytes_high_first : (k size n : ℕ) → drop k (bytes_high_first (k + size) n) ≡ bytes_high_first size n
drop-bytes_high_first zero size n = rw (zero-add size) refl
drop-bytes_high_first (suc k) size n = rw (suc-add k size) (drop-bytes_high_first k size n)

pub drop_to_size : (size n : ℕ) → size ≤ 8 → drop (8 - size) (bytes_high_first 8 n) ≡ bytes_high_first size n
drop_to_size size n few =
    let e : (8 - size) + size ≡ 8 = omega arith in subst
    (λ (k : ℕ). drop (8 - size) (bytes_high_first k n) ≡ bytes_high_first size n) e
    (drop-bytes_high_first (8 - size) size n)
