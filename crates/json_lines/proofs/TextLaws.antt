-- What stands between quotes in a text in UTF-8 is UTF-8.
use Rattle.std.proofs.Common.{◌≡◌, ℕ, zero, suc, ◌+◌, ◌*◌, ◌<◌, ◌≤◌, Bool, true, false, cond, ◌&&◌, ◌==◌, nat_lt}
use Rattle.std.proofs.Common.{nat_le}
use Rattle.std.proofs.Common.{List, [], ◌∷◌, ◌++◌, length, get_or, Option, Some, None, option_and_then, inl, inr}
use Rattle.std.proofs.Common.{refl, sym, ap, ◌∙◌}
use Rattle.std.proofs.Common.{subst, arith}
use Rattle.std.specs.Char.{is_digit, digit_value, encode_utf8, IsScalar}
use Rattle.std.specs.Str.{IsUtf8}
use Rattle.std.proofs.lemmas.Bool.{and_parts, false≢true, cases_lt, eqb-true, ltb-true, leb-true, ne_eqb, le-leb}
use Rattle.std.proofs.lemmas.List.{append-nil, length-append}
use Rattle.std.proofs.lemmas.Option.{cond_some}
use Rattle.std.proofs.lemmas.Str.{IsUtf8-append, IsUtf8-nil, IsUtf8-encode, IsUtf8-past_char, encode_ascii, inside_one}
use Rattle.std.proofs.lemmas.Str.{length-encode, len_utf8_bounds}
use Rattle.json.specs.Text.{content, plain, after_backslash, after_u, after_high, prepend, code_unit, short_escape}
use Rattle.json.specs.Text.{is_high_surrogate, is_low_surrogate, surrogate_pair}
use lib.Utf8.{scalar, scalars, encode, encodes, low_scalar}

-- ---- bytes

one_byte : (x : ℕ) → x < 128 → IsUtf8 (x ∷ [])
one_byte x small = subst IsUtf8 (encode_ascii x small) (IsUtf8-encode x (low_scalar x (omega arith)))

-- what stands behind a byte of ASCII
pub behind_ascii : (x : ℕ) (xs : List ℕ) → x < 128 → IsUtf8 (x ∷ xs) → IsUtf8 xs
behind_ascii x xs small utf8 =
    IsUtf8-past_char (x ∷ xs) xs x utf8 (ap (λ (front : List ℕ). front ++ xs) (sym (encode_ascii x small)))

-- the bytes of another character
is_high : (c : ℕ) → 128 ≤ c → (k : ℕ) → k < length (encode c) → 128 ≤ get_or (encode c) k 0
is_high c high k below = elim (cases_lt (get_or (encode c) k 0) 128) [
  | inl low ↦ absurd (omega (arith, inside_one c [] (encode c) k (sym (append-nil (encode c))) below low))
  | inr h ↦ h
]

high_scalar : (c : ℕ) → 57344 ≤ c → c < 1114112 → IsScalar c
high_scalar c low high = rw (ltb-not c low, le-leb 57344 c low, lt c high) refl
  where
    ltb-not : (c : ℕ) → 57344 ≤ c → nat_lt c 55296 ≡ false
    ltb-not c low = grind arith

    lt : (c : ℕ) → c < 1114112 → nat_lt c 1114112 ≡ true
    lt c high = grind arith

-- ---- what is read of them

abbrev IsText : Option (List ℕ) → Type 0
IsText None = Unit {0}
IsText (Some s) = IsUtf8 s

either : (b : Bool) (x y : Option (List ℕ)) → (b ≡ true → IsText x) → (b ≡ false → IsText y) → IsText (cond b x y)
either true x y p q = p refl
either false x y p q = q refl

prepended : (bytes : List ℕ) (o : Option (List ℕ)) → IsUtf8 bytes → IsText o → IsText (prepend bytes o)
prepended bytes None utf8 h = tt
prepended bytes (Some s) utf8 h = IsUtf8-append bytes s utf8 h

and_then : (o : Option ℕ) (f : ℕ → Option (List ℕ)) → ((n : ℕ) → o ≡ Some n → IsText (f n)) →
    IsText (option_and_then f o)
and_then None f h = tt
and_then (Some n) f h = h n refl

prepend-nil : (o : Option (List ℕ)) → o ≡ prepend [] o
prepend-nil None = refl
prepend-nil (Some s) = refl

prepend-cons : (x : ℕ) (xs : List ℕ) (o : Option (List ℕ)) → prepend (x ∷ []) (prepend xs o) ≡ prepend (x ∷ xs) o
prepend-cons x xs None = refl
prepend-cons x xs (Some s) = refl

-- bytes that are no ASCII stand for themselves
content-high : (xs r : List ℕ) → ((k : ℕ) → k < length xs → 128 ≤ get_or xs k 0) →
    content plain (xs ++ r) ≡ prepend xs (content plain r)
unfolding content
content-high [] r h = prepend-nil (content plain r)
content-high (x ∷ xs) r h =
    let high : 128 ≤ x = h 0 (omega arith) in
    rw (ne_eqb x 34 (λ e. omega arith), ne_eqb x 92 (λ e. omega arith), no_control x high)
    (ap (prepend (x ∷ [])) (content-high xs r (λ k below. h (suc k) (omega arith)))
    ∙ prepend-cons x xs (content plain r))
  where
    no_control : (x : ℕ) → 128 ≤ x → nat_lt x 32 ≡ false
    no_control x high = grind arith

-- a digit of hexadecimal is ASCII
digit_small : (x : ℕ) → is_digit x 16 ≡ true → (x < 128) × (digit_value x < 16)
digit_small x e = (grind arith, ltb-true (digit_value x) 16 e)

record IsUnit (a b c d u : ℕ) : Type 0 where
  first : a < 128
  second : b < 128
  third : c < 128
  fourth : d < 128
  bound : u < 65536

unit_of : (a b c d u : ℕ) → code_unit a b c d ≡ Some u → IsUnit a b c d u
unfolding code_unit
unit_of a b c d u e =
    let found = cond_some (is_digit a 16 && is_digit b 16 && is_digit c 16 && is_digit d 16) (unit_value a b c d) u e in
    let all = digits_of (is_digit a 16) (is_digit b 16) (is_digit c 16) (is_digit d 16) found.0 in
    let p = digit_small a all.0 in
    let q = digit_small b all.1 in
    let r = digit_small c all.2 in
    let t = digit_small d all.3 in
    record {
      first = p.0;
      second = q.0;
      third = r.0;
      fourth = t.0;
      bound = omega (arith, found.1, p.1, q.1, r.1, t.1);
    }
  where
    unit_value : (a b c d : ℕ) → ℕ
    unit_value a b c d = digit_value a * 4096 + digit_value b * 256 + digit_value c * 16 + digit_value d

    digits_of : (p q r t : Bool) → (p && q && r && t) ≡ true → (p ≡ true) × (q ≡ true) × (r ≡ true) × (t ≡ true)
    digits_of true true true true e = (refl, refl, refl, refl)
    digits_of true true true false e = absurd (false≢true e)
    digits_of true true false t e = absurd cc
    digits_of true false r t e = absurd cc
    digits_of false q r t e = absurd cc

escape_small : (x c : ℕ) → short_escape x ≡ Some c → (x < 128) × (c < 128)
unfolding short_escape
escape_small x c e = grind arith

-- ---- escapes

unit_scalar : (u : ℕ) → is_high_surrogate u ≡ false → is_low_surrogate u ≡ false → u < 65536 → IsScalar u
unit_scalar u high low bound = grind arith

pair_scalar : (h l : ℕ) → is_high_surrogate h ≡ true → is_low_surrogate l ≡ true → IsScalar (surrogate_pair h l)
pair_scalar h l high low =
    let p = and_parts (nat_le 55296 h) (nat_lt h 56320) high in
    let q = and_parts (nat_le 56320 l) (nat_lt l 57344) low in
    let a = leb-true 55296 h p.0 in
    let b = ltb-true h 56320 p.1 in
    let c = leb-true 56320 l q.0 in
    let d = ltb-true l 57344 q.1 in
    high_scalar (surrogate_pair h l) (omega (arith, a, b, c, d)) (omega (arith, a, b, c, d))

-- what stands behind four digits
behind_unit : (a b c d u : ℕ) (xs : List ℕ) → IsUnit a b c d u → IsUtf8 (a ∷ b ∷ c ∷ d ∷ xs) → IsUtf8 xs
behind_unit a b c d u xs unit utf8 =
    behind_ascii d xs unit.fourth
    (behind_ascii c (d ∷ xs) unit.third
    (behind_ascii b (c ∷ d ∷ xs) unit.second (behind_ascii a (b ∷ c ∷ d ∷ xs) unit.first utf8)))

-- of shorter texts it is known
abbrev Shorter : ℕ → Type 0
Shorter n = (rest : List ℕ) → length rest ≤ n → IsUtf8 rest → IsText (content plain rest)

behind_high : (n h : ℕ) (bs : List ℕ) → is_high_surrogate h ≡ true → length bs ≤ n → IsUtf8 bs → Shorter n →
    IsText (content (after_high h) bs)
unfolding content
behind_high n h [] high fits utf8 shorter = tt
behind_high n h (s ∷ []) high fits utf8 shorter = tt
behind_high n h (s ∷ u ∷ []) high fits utf8 shorter = tt
behind_high n h (s ∷ u ∷ a ∷ []) high fits utf8 shorter = tt
behind_high n h (s ∷ u ∷ a ∷ b ∷ []) high fits utf8 shorter = tt
behind_high n h (s ∷ u ∷ a ∷ b ∷ c ∷ []) high fits utf8 shorter = tt
behind_high n h (s ∷ u ∷ a ∷ b ∷ c ∷ d ∷ xs) high fits utf8 shorter =
    either ((s == 92) && (u == 117)) _ None
    (λ escape.
    let marks = and_parts (s == 92) (u == 117) escape in
    let first : s < 128 = omega (arith, eqb-true s 92 marks.0) in
    let second : u < 128 = omega (arith, eqb-true u 117 marks.1) in
    and_then (code_unit a b c d) _
    (λ l found.
    let unit = unit_of a b c d l found in
    let digits = behind_ascii u (a ∷ b ∷ c ∷ d ∷ xs) second
    (behind_ascii s (u ∷ a ∷ b ∷ c ∷ d ∷ xs) first utf8) in
    either (is_low_surrogate l) _ None
    (λ low. prepended (encode_utf8 (surrogate_pair h l)) (content plain xs)
    (IsUtf8-encode (surrogate_pair h l) (pair_scalar h l high low))
    (shorter xs (omega arith) (behind_unit a b c d l xs unit digits)))
    (λ other. tt)))
    (λ other. tt)

behind_u : (n : ℕ) (bs : List ℕ) → length bs ≤ n → IsUtf8 bs → Shorter n → IsText (content after_u bs)
unfolding content
behind_u n [] fits utf8 shorter = tt
behind_u n (a ∷ []) fits utf8 shorter = tt
behind_u n (a ∷ b ∷ []) fits utf8 shorter = tt
behind_u n (a ∷ b ∷ c ∷ []) fits utf8 shorter = tt
behind_u n (a ∷ b ∷ c ∷ d ∷ xs) fits utf8 shorter =
    and_then (code_unit a b c d) _
    (λ u found.
    let unit = unit_of a b c d u found in
    let rest = behind_unit a b c d u xs unit utf8 in
    either (is_high_surrogate u) _ _
    (λ high. behind_high n u xs high (omega arith) rest shorter)
    (λ no_high. either (is_low_surrogate u) None _
    (λ low. tt)
    (λ no_low. prepended (encode_utf8 u) (content plain xs)
    (IsUtf8-encode u (unit_scalar u no_high no_low unit.bound)) (shorter xs (omega arith) rest))))

behind_backslash : (n : ℕ) (bs : List ℕ) → length bs ≤ n → IsUtf8 bs → Shorter n → IsText (content after_backslash bs)
unfolding content
behind_backslash n [] fits utf8 shorter = tt
behind_backslash n (x ∷ xs) fits utf8 shorter =
    either (x == 117) _ _
    (λ is_u. behind_u n xs (omega arith) (behind_ascii x xs (omega (arith, eqb-true x 117 is_u)) utf8) shorter)
    (λ other. and_then (short_escape x) _
    (λ c found.
    let small = escape_small x c found in
    prepended (c ∷ []) (content plain xs) (one_byte c small.1)
    (shorter xs (omega arith) (behind_ascii x xs small.0 utf8))))

-- ---- the content of a string

one_character : (n c : ℕ) (cs : List ℕ) → length (encodes cs) ≤ n → scalar c ≡ true → scalars cs ≡ true → Shorter n →
    IsText (content plain (encode c ++ encodes cs))
unfolding content
one_character n c cs fits is are shorter =
    let rest : IsUtf8 (encodes cs) = (cs, (are, refl)) in
    elim (cases_lt c 128) [
      | inl small ↦
          rw (encode_ascii c small)
          (either (c == 34) _ _
          (λ quote. IsUtf8-nil)
          (λ other. either (c == 92) _ _
          (λ backslash. behind_backslash n (encodes cs) fits rest shorter)
          (λ no_escape. either (nat_lt c 32) None _
          (λ control. tt)
          (λ shown. prepended (c ∷ []) (content plain (encodes cs)) (one_byte c small)
          (shorter (encodes cs) fits rest)))))
      | inr high ↦
          subst IsText (sym (content-high (encode c) (encodes cs) (is_high c high)))
          (prepended (encode c) (content plain (encodes cs)) (IsUtf8-encode c is) (shorter (encodes cs) fits rest))
    ]

characters : (n : ℕ) (cs : List ℕ) → length (encodes cs) ≤ n → scalars cs ≡ true → IsText (content plain (encodes cs))
unfolding content
characters n [] fits are = tt
characters zero (c ∷ cs) fits are =
    absurd (omega (arith, length-append (encode c) (encodes cs), length-encode c, (len_utf8_bounds c).0))
characters (suc n) (c ∷ cs) fits are =
    let p = and_parts (scalar c) (scalars cs) are in
    one_character n c cs
    (omega (arith, length-append (encode c) (encodes cs), length-encode c, (len_utf8_bounds c).0)) p.0 p.1
    (λ rest short utf8. subst (λ (bytes : List ℕ). IsText (content plain bytes)) utf8.1.1
    (characters n utf8.0 (subst (λ (bytes : List ℕ). length bytes ≤ n) (sym utf8.1.1) short) utf8.1.0))

pub content_is_text : (bytes s : List ℕ) → IsUtf8 bytes → content plain bytes ≡ Some s → IsUtf8 s
content_is_text bytes s utf8 e =
    subst IsText e
    (subst (λ (front : List ℕ). IsText (content plain front)) utf8.1.1
    (characters (length (encodes utf8.0)) utf8.0 (omega arith) utf8.1.0))

-- ---- behind each quote

abbrev pub AreQuoted : List ℕ → Type 0
AreQuoted [] = Unit {0}
AreQuoted (x ∷ xs) = (x ≡ 34 → IsUtf8 xs) × AreQuoted xs

high_quoted : (xs r : List ℕ) → ((k : ℕ) → k < length xs → 128 ≤ get_or xs k 0) → AreQuoted r → AreQuoted (xs ++ r)
high_quoted [] r h quoted = quoted
high_quoted (x ∷ xs) r h quoted =
    let high : 128 ≤ x = h 0 (omega arith) in
    (λ e. absurd (omega arith), high_quoted xs r (λ k below. h (suc k) (omega arith)) quoted)

characters_quoted : (cs : List ℕ) → scalars cs ≡ true → AreQuoted (encodes cs)
characters_quoted [] are = tt
characters_quoted (c ∷ cs) are =
    let p = and_parts (scalar c) (scalars cs) are in
    elim (cases_lt c 128) [
      | inl small ↦ rw (encode_ascii c small) (λ e. (cs, (p.1, refl)), characters_quoted cs p.1)
      | inr high ↦ high_quoted (encode c) (encodes cs) (is_high c high) (characters_quoted cs p.1)
    ]

pub are_quoted : (text : List ℕ) → IsUtf8 text → AreQuoted text
are_quoted text utf8 = subst AreQuoted utf8.1.1 (characters_quoted utf8.0 utf8.1.0)
