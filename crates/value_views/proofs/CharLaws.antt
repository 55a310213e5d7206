-- A char is read as it is shown.
use Rattle.std.proofs.Common.{◌≡◌, ◌≢◌, ℕ, zero, suc, ◌+◌, ◌*◌, ◌/◌, ◌%◌, ◌^◌, ◌<◌, ◌≤◌}
use Rattle.std.proofs.Common.{Bool, true, false, cond, eqb, leb}
use Rattle.std.proofs.Common.{List, [], ◌∷◌, ◌++◌, Option, Some, None, refl, ap, sym, subst, ◌∙◌, arith, find, ⊎_elim}
use Rattle.std.proofs.Common.{option_and_then, ◌||◌}
use Rattle.std.proofs.lemmas.Bool.{cond-true, cond-false, cond_both, cases_Bool, eqb-true, ne_eqb, leb-true}
use Rattle.std.proofs.lemmas.Bool.{and_parts, both_ways, or_cases, false_from_ne_true}
use Rattle.std.proofs.lemmas.List.{append_cancel_right}
use Rattle.std.proofs.lemmas.Option.{cond_some, option_and_then_some, none-some, same_Some}
use Rattle.std.proofs.lemmas.Slice.Eq.{bytes_eq-Decides}
use Rattle.std.specs.Int.{is_in_range}
use Rattle.std.specs.List.{range_with_len}
use Rattle.std.specs.Prelude.{codes}
use Rattle.std.specs.Str.{bytes_eq}
use Rattle.value_views.specs.Chars.{unquoted, behind_backslash, alone, escaped_in, unprinted, hex_after}
use Rattle.value_views.specs.Quotes.{char_text, char_inside, hexadecimal, escaped}
use Rattle.value_views.specs.Reads.{char_in}
use Rattle.value_views.proofs.Hexadecimals.{four_digits, number_of_four, four_of_number}

-- what is no printing char of ASCII is shown by its number
by_number : (n : ℕ) → is_in_range 32 126 n ≡ false → char_inside n ≡ escaped n
by_number n out =
    cond-false (eqb n 39) _ _ (ne_eqb n 39 (λ e. both_ways (is_in_range 32 126 n) out (ap (is_in_range 32 126) e)))
    ∙ cond-false (eqb n 92) _ _ (ne_eqb n 92 (λ e. both_ways (is_in_range 32 126 n) out (ap (is_in_range 32 126) e)))
    ∙ cond-false (is_in_range 32 126 n) _ _ out

-- the number of a char is read
number_read : (n : ℕ) → n < 65536 → is_in_range 32 126 n ≡ false → escaped_in (hexadecimal 4 n) ≡ Some n
number_read n h out =
    let x = n / 4096 in
    let y = n / 256 % 16 in
    let z = n / 16 % 16 in
    let w = n % 16 in
    let whole : n ≡ x * 4096 + y * 256 + z * 16 + w = omega arith in
    let hx : x < 16 = omega arith in
    let hy : y < 16 = omega arith in
    let hz : z < 16 = omega arith in
    let hw : w < 16 = omega arith in
    ap escaped_in (four_digits n x y z w whole hx hy hz hw)
    ∙ ap (option_and_then unprinted) (number_of_four x y z w hx hy hz hw ∙ ap (λ m. Some m) (sym whole))
    ∙ cond-false (is_in_range 32 126 n) _ _ out

-- what is shown of a char is read as it
unquoted-char_inside : (n : ℕ) → n < 65536 → unquoted (char_inside n) ≡ Some n
unquoted-char_inside n h =
    cond_both (eqb n 39) _ _ (λ l. unquoted l ≡ Some n) (λ quote. ap (λ m. Some m) (sym (eqb-true n 39 quote)))
    (λ no_quote. cond_both (eqb n 92) _ _ (λ l. unquoted l ≡ Some n)
    (λ slash. ap (λ m. Some m) (sym (eqb-true n 92 slash)))
    (λ no_slash. cond_both (is_in_range 32 126 n) _ _ (λ l. unquoted l ≡ Some n)
    (λ printing. cond-false (eqb n 92) _ _ no_slash ∙ cond-false (eqb n 39) _ _ no_quote
    ∙ cond-true (is_in_range 32 126 n) _ _ printing)
    (λ out. number_read n h out)))

skipped : (b : Bool) (o : Option ℕ) (n : ℕ) → cond b None o ≡ Some n → (b ≡ false) × (o ≡ Some n)
skipped false o n e = (refl, e)
skipped true o n e = absurd (none-some n e)

taken : (b : Bool) (o : Option ℕ) (n : ℕ) → cond b o None ≡ Some n → (b ≡ true) × (o ≡ Some n)
taken true o n e = (refl, e)
taken false o n e = absurd (none-some n e)

-- behind `\u`
number_shown : (digits : List ℕ) (n : ℕ) → escaped_in digits ≡ Some n
    → (n < 65536) × (is_in_range 32 126 n ≡ false) × (hexadecimal 4 n ≡ digits)
number_shown [] n e = absurd cc
number_shown (a ∷ []) n e = absurd cc
number_shown (a ∷ b ∷ []) n e = absurd cc
number_shown (a ∷ b ∷ c ∷ []) n e = absurd cc
number_shown (a ∷ b ∷ c ∷ d ∷ []) n e =
    option_and_then_some unprinted (hex_after 0 (a ∷ b ∷ c ∷ d ∷ [])) n e (λ m read left.
    let four = four_of_number a b c d m read in
    let kept = skipped (is_in_range 32 126 m) (Some m) n left in
    subst (λ v. (v < 65536) × (is_in_range 32 126 v ≡ false) × (hexadecimal 4 v ≡ a ∷ b ∷ c ∷ d ∷ []))
    (same_Some m n kept.1) (four.0, kept.0, four.1))
number_shown (a ∷ b ∷ c ∷ d ∷ f ∷ bytes) n e = absurd cc

-- a char that is shown behind `\` as itself
itself : (byte n code : ℕ) → (code < 65536) × (char_inside code ≡ 92 ∷ code ∷ []) → byte ≡ code → byte ≡ n
    → (n < 65536) × (char_inside n ≡ 92 ∷ byte ∷ [])
itself byte n code shown same read =
    subst (λ v. (v < 65536) × (char_inside v ≡ 92 ∷ byte ∷ [])) read
    (subst (λ v. (v < 65536) × (char_inside v ≡ 92 ∷ v ∷ [])) (sym same) shown)

behind_shown : (bytes : List ℕ) (n : ℕ) → behind_backslash bytes ≡ Some n
    → (n < 65536) × (char_inside n ≡ 92 ∷ bytes)
behind_shown [] n e = absurd cc
behind_shown (byte ∷ []) n e =
    let at = cond_some (eqb byte 39 || eqb byte 92) byte n e in
    ⊎_elim (λ quote. itself byte n 39 (omega arith, refl) (eqb-true byte 39 quote) at.1)
    (λ slash. itself byte n 92 (omega arith, refl) (eqb-true byte 92 slash) at.1)
    (or_cases (eqb byte 39) (eqb byte 92) at.0)
behind_shown (byte ∷ next ∷ bytes) n e =
    let at = taken (eqb byte 117) (escaped_in (next ∷ bytes)) n e in
    let shown = number_shown (next ∷ bytes) n at.1 in (
      shown.0,
      by_number n shown.1 ∙ ap (λ l. 92 ∷ 117 ∷ l) shown.2
          ∙ ap (λ b. 92 ∷ b ∷ next ∷ bytes) (sym (eqb-true byte 117 at.0)),
    )

alone_shown : (byte : ℕ) (bytes : List ℕ) (n : ℕ) → eqb byte 92 ≡ false → alone byte bytes ≡ Some n
    → (n < 65536) × (char_inside n ≡ byte ∷ bytes)
alone_shown byte [] n no_slash e =
    let other = skipped (eqb byte 39) (cond (is_in_range 32 126 byte) (Some byte) None) n e in
    let at = cond_some (is_in_range 32 126 byte) byte n other.1 in
    let low = leb-true byte 126 (and_parts (leb 32 byte) (leb byte 126) at.0).1 in
    let small : byte < 65536 = omega arith in
    subst (λ v. (v < 65536) × (char_inside v ≡ byte ∷ [])) at.1 (
      small,
      cond-false (eqb byte 39) _ _ other.0 ∙ cond-false (eqb byte 92) _ _ no_slash
          ∙ cond-true (is_in_range 32 126 byte) _ _ at.0,
    )
alone_shown byte (next ∷ bytes) n no_slash e = absurd cc

-- what is read as a char is shown of it
char_inside-unquoted : (inside : List ℕ) (n : ℕ) → unquoted inside ≡ Some n → (n < 65536) × (char_inside n ≡ inside)
char_inside-unquoted [] n e = absurd cc
char_inside-unquoted (byte ∷ bytes) n e =
    ⊎_elim (λ slash.
    let shown = behind_shown bytes n (sym (cond-true (eqb byte 92) _ _ slash) ∙ e) in
    (shown.0, shown.1 ∙ ap (λ b. b ∷ bytes) (sym (eqb-true byte 92 slash))))
    (λ no_slash. alone_shown byte bytes n no_slash (sym (cond-false (eqb byte 92) _ _ no_slash) ∙ e))
    (cases_Bool (eqb byte 92))

-- of numbers in a row the only one that passes is found
find_only : (test : ℕ → Bool) (from len n : ℕ) → from ≤ n → n < from + len → test n ≡ true
    → ((m : ℕ) → m < from + len → test m ≡ true → m ≡ n) → find test (range_with_len from len) ≡ Some n
find_only test from zero n low high passes only = absurd (omega arith)
find_only test from (suc len) n low high passes only =
    cond_both (test from) _ _ (λ o. o ≡ Some n)
    (λ here. ap (λ m. Some m) (only from (omega arith) here))
    (λ not_here. find_only test (from + 1) len n
    (above from n low (λ e. both_ways (test from) not_here (ap test e ∙ passes)))
    (omega arith) passes (λ m h t. only m (omega arith) t))
  where
    above : (a b : ℕ) → a ≤ b → (a ≡ b → ⊥) → a + 1 ≤ b
    above a b h other = omega arith

find_none : (test : ℕ → Bool) (from len : ℕ) → ((m : ℕ) → m < from + len → test m ≡ false)
    → find test (range_with_len from len) ≡ None
find_none test from zero none = refl
find_none test from (suc len) none =
    cond-false (test from) _ _ (none from (omega arith))
    ∙ find_none test (from + 1) len (λ m h. none m (omega arith))

-- what stands before the last byte
before_last : (xs ys : List ℕ) (byte : ℕ) → 39 ∷ (xs ++ byte ∷ []) ≡ 39 ∷ (ys ++ byte ∷ []) → xs ≡ ys
before_last xs ys byte e =
    let rest : xs ++ byte ∷ [] ≡ ys ++ byte ∷ [] = cc in append_cancel_right xs ys (byte ∷ []) rest

-- a char is shown so
abbrev is_shown : List ℕ → ℕ → Bool
is_shown text n = bytes_eq (char_text n) text

-- what is shown between quotes is read
inside_read : (text inside : List ℕ) (n : ℕ) → text ≡ codes "'" ++ inside ++ codes "'" → n < 65536
    → is_shown text n ≡ true → unquoted inside ≡ Some n
inside_read text inside n e small shown =
    let whole = (bytes_eq-Decides (char_text n) text).0 shown ∙ e in
    ap unquoted (sym (before_last (char_inside n) inside 39 whole)) ∙ unquoted-char_inside n small

found : (text inside : List ℕ) (len : ℕ) (o : Option ℕ) → text ≡ codes "'" ++ inside ++ codes "'" → len ≡ 65536
    → unquoted inside ≡ o → find (is_shown text) (range_with_len 0 len) ≡ o
found text inside len None e all read =
    find_none (is_shown text) 0 len (λ m h. false_from_ne_true (is_shown text m) (λ shown.
    none-some m (sym read ∙ inside_read text inside m e (omega arith) shown)))
found text inside len (Some n) e all read =
    let shown = char_inside-unquoted inside n read in
    let small : n < 65536 = shown.0 in
    let low : 0 ≤ n = omega arith in
    find_only (is_shown text) 0 len n low (omega arith)
    ((bytes_eq-Decides (char_text n) text).1 (ap (λ l. codes "'" ++ l ++ codes "'") shown.1 ∙ sym e))
    (λ m h passes. same_Some m n (sym (inside_read text inside m e (omega arith) passes) ∙ read))

not_found : (text : List ℕ) (len : ℕ) → ((inside : List ℕ) → text ≢ codes "'" ++ inside ++ codes "'")
    → find (is_shown text) (range_with_len 0 len) ≡ None
not_found text len none =
    find_none (is_shown text) 0 len (λ m h. false_from_ne_true (is_shown text m) (λ shown.
    none (char_inside m) (sym ((bytes_eq-Decides (char_text m) text).0 shown))))

pub some_char : (text inside : List ℕ) → text ≡ codes "'" ++ inside ++ codes "'" → char_in text ≡ unquoted inside
unfolding char_in
some_char text inside e = found text inside (2 ^ 16) (unquoted inside) e refl refl

pub no_char : (text : List ℕ) → ((inside : List ℕ) → text ≢ codes "'" ++ inside ++ codes "'") → char_in text ≡ None
unfolding char_in
no_char text none = not_found text (2 ^ 16) none

found_below : (test : ℕ → Bool) (from len n : ℕ) → find test (range_with_len from len) ≡ Some n → n < from + len
found_below test from zero n e = absurd (none-some n e)
found_below test from (suc len) n e =
    ⊎_elim (λ here. let same = same_Some from n (sym (cond-true (test from) _ _ here) ∙ e) in omega arith)
    (λ not_here. let below = found_below test (from + 1) len n (sym (cond-false (test from) _ _ not_here) ∙ e) in
    omega arith)
    (cases_Bool (test from))

-- what is found passes
pub found_passes : {A : Type 0} (test : A → Bool) (xs : List A) (y : A) → find test xs ≡ Some y → test y ≡ true
found_passes test [] y e = absurd (none-some y e)
found_passes test (x ∷ xs) y e =
    ⊎_elim (λ here. ap test (sym (same_Some x y (sym (cond-true (test x) _ _ here) ∙ e))) ∙ here)
    (λ not_here. found_passes test xs y (sym (cond-false (test x) _ _ not_here) ∙ e))
    (cases_Bool (test x))

-- what is read as a char is a number of 16 bits
pub char_fits : (text : List ℕ) (n : ℕ) → char_in text ≡ Some n → n < 65536
unfolding char_in
char_fits text n e = found_below (is_shown text) 0 (2 ^ 16) n e

-- and is read of what is shown of it
pub char_again : (n : ℕ) → n < 65536 → char_in (char_text n) ≡ Some n
char_again n small = some_char (char_text n) (char_inside n) refl ∙ unquoted-char_inside n small
