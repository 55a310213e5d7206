-- Fronts of a text: how many bytes pass a test, where a text may be cut, and which digits an index begins with.
use Rattle.std.proofs.Common.{◌≡◌, ℕ, zero, suc, ◌+◌, ◌<◌, ◌≤◌, ◌*◌, Bool, true, false, cond, List, [], ◌∷◌, ◌++◌, Some}
use Rattle.std.proofs.Common.{length, take, drop, get_or, IsUtf8, sym, ap, subst, ◌∙◌, refl, arith, add-one}
use Rattle.std.proofs.Math.Numerals.{one-add}
use Rattle.std.specs.Str.{IsCharBoundary}
use Rattle.std.specs.Prelude.{slice_get}
use Rattle.std.specs.List.{AllByRecursion, prefix_len}
use Rattle.std.specs.Prelude.{◌||◌}
use Rattle.std.specs.Char.{digit_value, is_ascii_digit}
use Rattle.std.specs.Str.Parse.{digits_value, AllDigits}
use Rattle.std.proofs.lemmas.List.{take-append-drop, get_or-take, length-drop, drop_more, take_more}
use Rattle.std.proofs.lemmas.List.Sums.{prefix_len-le-length, prefix_len_passes, prefix_len_stops}
use Rattle.std.proofs.lemmas.Str.Parse.{digit_at}
use Rattle.std.proofs.lemmas.Bool.Decides.{nat_tests}
use Rattle.std.proofs.lemmas.Int.Digits.{digits_more, digits_value_more}
use Rattle.std.proofs.lemmas.List.{length-take-le}
use Rattle.std.proofs.lemmas.Str.{IsCharBoundary-start, IsCharBoundary-after_ascii}
use Rattle.field_exprs.specs.Grammar.{is_blank, begins_name, is_in_name, BeginsIndex, IsWord}
use Rattle.field_exprs.specs.Reading.{Stops, Skips, IsWordBefore, IsIndexBefore}

-- each byte of the longest front passes
pub passes : (test : ℕ → Bool) (bytes : List ℕ)
    → AllByRecursion (λ byte. test byte ≡ true) (take (prefix_len test bytes) bytes)
passes test [] = tt
passes test (byte ∷ bytes) = by (test byte) refl (passes test bytes)
  where
    by : (b : Bool) → test byte ≡ b
        → AllByRecursion (λ other. test other ≡ true) (take (prefix_len test bytes) bytes)
        → AllByRecursion (λ other. test other ≡ true) (take (cond b (1 + prefix_len test bytes) 0) (byte ∷ bytes))
    by true e others = rw one-add (e, others)
    by false e others = tt

-- and the next one doesn't
pub stops : (test : ℕ → Bool) (bytes : List ℕ) → Stops test (drop (prefix_len test bytes) bytes)
stops test [] = tt
stops test (byte ∷ bytes) = by (test byte) refl (stops test bytes)
  where
    by : (b : Bool) → test byte ≡ b → Stops test (drop (prefix_len test bytes) bytes)
        → Stops test (drop (cond b (1 + prefix_len test bytes) 0) (byte ∷ bytes))
    by true e behind = rw one-add behind
    by false e behind = e

-- a text may be cut behind ASCII
pub cut_behind_ascii : (text : List ℕ) (end : ℕ) → IsUtf8 text → end ≤ length text
    → ((k : ℕ) → k < end → get_or text k 0 < 128) → IsCharBoundary text end
cut_behind_ascii text zero utf8 within low = IsCharBoundary-start text utf8
cut_behind_ascii text (suc end) utf8 within low =
    subst (IsCharBoundary text) (add-one end)
    (IsCharBoundary-after_ascii text end utf8 (omega arith) (low end (omega arith)))

-- a blank is ASCII
blank_is_low : (byte : ℕ) → is_blank byte ≡ true → byte < 128
blank_is_low byte e = grind (arith, nat_tests)

-- a byte that is in no name is ASCII
stop_is_low : (byte : ℕ) → is_in_name byte ≡ false → byte < 128
stop_is_low byte e = grind (arith, nat_tests)

pub cut_behind_blanks : (text : List ℕ) → IsUtf8 text → IsCharBoundary text (prefix_len is_blank text)
cut_behind_blanks text utf8 =
    cut_behind_ascii text (prefix_len is_blank text) utf8 (prefix_len-le-length is_blank text)
    (λ k below. blank_is_low (get_or text k 0) (prefix_len_passes is_blank text k 0 below))

pub cut_behind_word : (text : List ℕ) → IsCharBoundary text (prefix_len is_in_name text)
cut_behind_word text = (
  prefix_len-le-length is_in_name text,
  λ within high.
      let low = stop_is_low (get_or text (prefix_len is_in_name text) 0) (prefix_len_stops is_in_name text 0 within) in
      absurd (omega arith),
)

-- Digits of an index --------------------------------------------------------------------------------------------------

pub last_is_digit : (bytes : List ℕ) (end : ℕ) → end < length bytes → AllDigits 10 (take (suc end) bytes)
    → digit_value (get_or bytes end 0) < 10
last_is_digit [] end within all = absurd (omega arith)
last_is_digit (byte ∷ bytes) zero within all = all.0
last_is_digit (byte ∷ bytes) (suc end) within all = last_is_digit bytes end (omega arith) all.1

pub none_is_read : BeginsIndex []
none_is_read = record { digital = tt; short = omega arith; small = omega arith }

pub one_more : (bytes : List ℕ) (end value : ℕ) → end < length bytes → BeginsIndex (take end bytes) → ¬ (end ≡ 10)
    → value ≡ digits_value 10 (take end bytes)
    → (digit_value (get_or bytes end 0) < 10) × (value * 10 + digit_value (get_or bytes end 0) ≤ 2147483647)
    → BeginsIndex (take (end + 1) bytes)
one_more bytes end value within begins room is fits =
    let value_is = digits_value_more 10 bytes end within in
    let before = length-take-le end bytes (omega arith) in
    let after = length-take-le (end + 1) bytes (omega arith) in
    let short = begins.short in
    record {
      digital = digits_more 10 bytes end within begins.digital fits.0;
      short = omega arith;
      small = omega (arith, fits.1);
    }

pub ten_are_all : (bytes : List ℕ) (end : ℕ) → end ≡ 10 → end < length bytes → ¬ BeginsIndex (take (end + 1) bytes)
ten_are_all bytes end ten within begins =
    let after = length-take-le (end + 1) bytes (omega arith) in
    let short = begins.short in omega arith

pub no_digit : (bytes : List ℕ) (end value : ℕ) → value ≡ digits_value 10 (take end bytes)
    → ¬ ((digit_value (get_or bytes end 0) < 10) × (value * 10 + digit_value (get_or bytes end 0) ≤ 2147483647))
    → end < length bytes → ¬ BeginsIndex (take (end + 1) bytes)
no_digit bytes end value is none within begins =
    let value_is = digits_value_more 10 bytes end within in
    let small = begins.small in
    none (
      last_is_digit bytes end within (subst (λ (n : ℕ). AllDigits 10 (take n bytes)) (add-one end) begins.digital),
      omega arith,
    )

-- a digit is ASCII
digit_is_low : (digits : List ℕ) (k : ℕ) → AllDigits 10 digits → k < length digits → get_or digits k 0 < 128
digit_is_low digits k all within = let range = digit_at digits k all within in omega arith

pub cut_behind_digits : (text : List ℕ) (end : ℕ) → IsUtf8 text → end ≤ length text → BeginsIndex (take end text)
    → IsCharBoundary text end
cut_behind_digits text end utf8 within begins =
    let size = length-take-le end text within in
    cut_behind_ascii text end utf8 within
    (λ k below. subst (λ (n : ℕ). n < 128) (get_or-take end text k 0 below)
    (digit_is_low (take end text) k begins.digital (omega arith)))

-- Cuts ----------------------------------------------------------------------------------------------------------------

pub skips : (test : ℕ → Bool) (text left : List ℕ) (end : ℕ) → end ≡ prefix_len test text → left ≡ drop end text
    → Skips test text left
skips test text left end is rest = (
  take (prefix_len test text) text,
  sym (take-append-drop (prefix_len test text) text)
      ∙ ap (λ (l : List ℕ). take (prefix_len test text) text ++ l) (sym (ap (λ (n : ℕ). drop n text) is) ∙ sym rest),
  passes test text,
  subst (Stops test) (sym (ap (λ (n : ℕ). drop n text) is) ∙ sym rest) (stops test text),
)

front_is_word : (text : List ℕ) (first : ℕ) → Some first ≡ slice_get text 0 → begins_name first ≡ true
    → IsWord (take (prefix_len is_in_name text) text)
front_is_word [] first there begins = absurd cc
front_is_word (byte ∷ bytes) first there begins =
    let same : first ≡ byte = cc in
    let begins_here : begins_name byte ≡ true = subst (λ (n : ℕ). begins_name n ≡ true) same begins in
    let in_name : is_in_name byte ≡ true = ap (λ (b : Bool). b || is_ascii_digit byte) begins_here in
    subst (λ (b : Bool). IsWord (take (cond b (1 + prefix_len is_in_name bytes) 0) (byte ∷ bytes))) (sym in_name)
    (rw one-add (begins_here, passes is_in_name bytes))

pub word_before : (text word left : List ℕ) (end first : ℕ) → Some first ≡ slice_get text 0 → begins_name first ≡ true
    → end ≡ prefix_len is_in_name text → word ≡ take end text → left ≡ drop end text → IsWordBefore text word left
word_before text word left end first there begins is front rest = record {
  parts = sym (take-append-drop end text) ∙ ap (λ (l : List ℕ). l ++ drop end text) (sym front)
      ∙ ap (λ (l : List ℕ). word ++ l) (sym rest);
  is_word = subst IsWord (sym (front ∙ ap (λ (n : ℕ). take n text) is)) (front_is_word text first there begins);
  stops = subst (Stops is_in_name) (sym (rest ∙ ap (λ (n : ℕ). drop n text) is)) (stops is_in_name text);
}

pub index_before : (text digits left : List ℕ) (end : ℕ) → end ≤ length text → digits ≡ take end text
    → left ≡ drop end text
    → BeginsIndex (take end text) → (end < length text → ¬ BeginsIndex (take (end + 1) text))
    → IsIndexBefore text digits left
index_before text digits left end within front rest begins longest = record {
  parts = sym (take-append-drop end text) ∙ ap (λ (l : List ℕ). l ++ drop end text) (sym front)
      ∙ ap (λ (l : List ℕ). digits ++ l) (sym rest);
  begins = subst BeginsIndex (sym front) begins;
  longest = λ byte more there longer.
      let size = length-drop end text in
      let all : length left ≡ suc (length more) = ap (λ (l : List ℕ). length l) there in
      let same : length left ≡ length (drop end text) = ap (λ (l : List ℕ). length l) rest in
      let inside : end < length text = omega arith in
      let next = sym there ∙ rest ∙ drop_more text end 0 inside in
      let is : byte ≡ get_or text end 0 = cc in
      let cut = take_more text end 0 inside ∙ ap (λ (l : List ℕ). l ++ get_or text end 0 ∷ []) (sym front)
      ∙ ap (λ (n : ℕ). digits ++ n ∷ []) (sym is) in
      longest inside (subst BeginsIndex (sym cut) longer);
}
