-- What lossy text is at a character, at a text, and where no character begins.
use Rattle.std.proofs.Common.{◌≡◌, ℕ, zero, suc, ◌+◌, ◌-◌, ◌<◌, ◌≤◌, Bool, true, false, List, [], ◌∷◌, ◌++◌, length}
use Rattle.std.proofs.Common.{take, drop, Option, Some, None, refl, ap, sym, subst, ◌∙◌, append_assoc, arith}
use Rattle.std.proofs.Common.{length-append, length-drop, append-nil, IsUtf8, find}
use Rattle.std.specs.Str.{is_utf8, StartsWithNoChar, IsValidUpTo}
use Rattle.std.specs.Str.Lossy.{replacement_bytes}
use Rattle.std.specs.Char.{IsScalar}
use Rattle.std.proofs.lemmas.Bool.{and_parts, cond-true, cond-false}
use Rattle.std.proofs.lemmas.List.{take-append-drop, take-append-le, take_rest}
use Rattle.std.proofs.Math.Seq.{take-append_seam, take-add}
use Rattle.std.proofs.lemmas.Str.{IsUtf8-from_is_utf8, is_utf8-from_IsUtf8, IsUtf8-encode, IsUtf8-append, length-encode}
use Rattle.std.proofs.lemmas.Str.{len_utf8_bounds, encode_same}
use lib.Utf8.{encode, encodes, scalar, scalars}
use Rattle.jdwp_values.specs.Lossy.{continued, lossy_after, lossy}

not_true : (b : Bool) → (b ≡ true → ⊥) → b ≡ false
not_true false h = refl
not_true true h = absurd (h refl)

-- the least of four that passes
least : (test : ℕ → Bool) (n : ℕ) → n < 4 → test n ≡ true → ((m : ℕ) → m < n → test m ≡ false)
    → find test (0 ∷ 1 ∷ 2 ∷ 3 ∷ []) ≡ Some n
least test zero h t f = cond-true (test 0) _ _ t
least test (suc zero) h t f = cond-false (test 0) _ _ (f 0 (omega arith)) ∙ cond-true (test 1) _ _ t
least test (suc (suc zero)) h t f =
    cond-false (test 0) _ _ (f 0 (omega arith)) ∙ cond-false (test 1) _ _ (f 1 (omega arith)) ∙ cond-true (test 2) _ _ t
least test (suc (suc (suc zero))) h t f =
    cond-false (test 0) _ _ (f 0 (omega arith)) ∙ cond-false (test 1) _ _ (f 1 (omega arith)) ∙ cond-false (test 2) _ _
    (f 2 (omega arith)) ∙ cond-true (test 3) _ _ t
least test (suc (suc (suc (suc n)))) h t f = absurd (omega arith)

none : (test : ℕ → Bool) → ((m : ℕ) → test m ≡ false) → find test (0 ∷ 1 ∷ 2 ∷ 3 ∷ []) ≡ None
none test f =
    cond-false (test 0) _ _ (f 0) ∙ cond-false (test 1) _ _ (f 1) ∙ cond-false (test 2) _ _ (f 2) ∙ cond-false (test 3)
    _ _ (f 3)

lossy_nil : lossy [] ≡ []
unfolding lossy lossy_after
lossy_nil = refl

-- bytes of a sequence that began are shown as they are
goes_on : (xs rest : List ℕ) → lossy_after (length xs) (xs ++ rest) ≡ xs ++ lossy_after 0 rest
unfolding lossy_after
goes_on [] rest = refl
goes_on (x ∷ xs) rest = ap (λ l. x ∷ l) (goes_on xs rest)

-- what the definition shows of a byte, by what it began
abbrev shown_by : Option ℕ → ℕ → List ℕ → List ℕ
shown_by o b bytes =
    elim o as (λ _. List ℕ) [ None ↦ replacement_bytes ++ lossy_after 0 bytes | Some n ↦ b ∷ lossy_after n bytes ]

begins : (b : ℕ) (bs : List ℕ) (n : ℕ) → continued b bs ≡ Some n → lossy (b ∷ bs) ≡ b ∷ lossy_after n bs
unfolding lossy lossy_after
begins b bs n e = ap (λ o. shown_by o b bs) e

begins_none : (b : ℕ) (bs : List ℕ) → continued b bs ≡ None → lossy (b ∷ bs) ≡ replacement_bytes ++ lossy bs
unfolding lossy lossy_after
begins_none b bs e = ap (λ o. shown_by o b bs) e

char_first : (cs : List ℕ) (b : ℕ) (bs : List ℕ) → scalars cs ≡ true → encodes cs ≡ b ∷ bs
    → (c : ℕ) × (rest : List ℕ) × IsScalar c × (b ∷ bs ≡ encode c ++ rest)
char_first [] b bs s e = absurd (omega (arith, ap (λ (l : List ℕ). length l) e))
char_first (c ∷ cs) b bs s e = (c, encodes cs, (and_parts (scalar c) (scalars cs) s).0, sym e)

-- a text that is not empty begins with a character
begins_with : (b : ℕ) (bs : List ℕ) → IsUtf8 (b ∷ bs)
    → (c : ℕ) × (rest : List ℕ) × IsScalar c × (b ∷ bs ≡ encode c ++ rest)
begins_with b bs u = char_first u.0 b bs u.1.0 u.1.1

-- bytes whose front is a text that is not empty begin with a character
front_begins_with : (b : ℕ) (bs : List ℕ) (m : ℕ) → is_utf8 (b ∷ take m bs) ≡ true
    → (c : ℕ) × (rest : List ℕ) × IsScalar c × (b ∷ bs ≡ encode c ++ (rest ++ drop m bs))
front_begins_with b bs m t =
    let f = begins_with b (take m bs) (IsUtf8-from_is_utf8 (b ∷ take m bs) t) in (
      f.0,
      f.1,
      f.2,
      ap (λ l. b ∷ l) (sym (take-append-drop m bs)) ∙ ap (λ l. l ++ drop m bs) f.3 ∙ append_assoc
          (encode f.0) f.1 (drop m bs),
    )

-- no shorter front of a character is a text
shorter : (b : ℕ) (bs : List ℕ) (c m : ℕ) → encode c ≡ b ∷ bs → m < length bs → is_utf8 (b ∷ take m bs) ≡ false
shorter b bs c m e h = not_true _ (λ t.
    let f = front_begins_with b bs m t in
    let left = (encode_same f.0 c (f.1 ++ drop m bs) [] (sym f.3 ∙ sym e ∙ sym (append-nil (encode c)))).1 in
    omega (arith, ap (λ (l : List ℕ). length l) left, length-append f.1 (drop m bs), length-drop m bs))

char_continued : (b : ℕ) (bs rest : List ℕ) (c : ℕ) → IsScalar c → encode c ≡ b ∷ bs
    → continued b (bs ++ rest) ≡ Some (length bs)
char_continued b bs rest c s e =
    least (λ n. is_utf8 (b ∷ take n (bs ++ rest))) (length bs)
    (omega (arith, length-encode c, (len_utf8_bounds c).1, ap (λ (l : List ℕ). length l) e))
    (rw (take-append_seam bs rest) (is_utf8-from_IsUtf8 (b ∷ bs) (subst IsUtf8 e (IsUtf8-encode c s))))
    (λ m h. rw (take-append-le m bs rest (omega arith)) (shorter b bs c m e h))

shows_bytes : (xs rest : List ℕ) (c : ℕ) → IsScalar c → encode c ≡ xs → lossy (xs ++ rest) ≡ xs ++ lossy rest
unfolding lossy
shows_bytes [] rest c s e =
    absurd (omega (arith, length-encode c, (len_utf8_bounds c).0, ap (λ (l : List ℕ). length l) e))
shows_bytes (b ∷ bs) rest c s e =
    begins b (bs ++ rest) (length bs) (char_continued b bs rest c s e) ∙ ap (λ l. b ∷ l) (goes_on bs rest)

shows_chars : (cs rest : List ℕ) → scalars cs ≡ true → lossy (encodes cs ++ rest) ≡ encodes cs ++ lossy rest
shows_chars [] rest s = refl
shows_chars (c ∷ cs) rest s =
    let both = and_parts (scalar c) (scalars cs) s in
    ap lossy (append_assoc (encode c) (encodes cs) rest) ∙ shows_bytes (encode c) (encodes cs ++ rest) c both.0 refl
    ∙ ap (λ l. encode c ++ l) (shows_chars cs rest both.1) ∙ sym (append_assoc (encode c) (encodes cs) (lossy rest))

-- a text is shown as it is, whatever stands behind it
pub shows : (text rest : List ℕ) → IsUtf8 text → lossy (text ++ rest) ≡ text ++ lossy rest
shows text rest u = subst (λ t. lossy (t ++ rest) ≡ t ++ lossy rest) u.1.1 (shows_chars u.0 rest u.1.0)

pub itself : (text : List ℕ) → IsUtf8 text → lossy text ≡ text
itself text u = ap lossy (sym (append-nil text)) ∙ shows text [] u ∙ ap (λ l. text ++ l) lossy_nil ∙ append-nil text

-- where no character begins, a byte is replaced
pub replaces : (b : ℕ) (bs : List ℕ) → StartsWithNoChar (b ∷ bs) → lossy (b ∷ bs) ≡ replacement_bytes ++ lossy bs
replaces b bs no_char = begins_none b bs (none (λ n. is_utf8 (b ∷ take n bs)) (λ m. not_true _ (λ t.
    let f = front_begins_with b bs m t in no_char f.0 (f.1 ++ drop m bs) f.2 f.3)))

pub none_at_end : StartsWithNoChar []
none_at_end c rest s e =
    omega (
      arith,
      length-encode c,
      (len_utf8_bounds c).0,
      length-append (encode c) rest,
      ap (λ (l : List ℕ). length l) e,
    )

-- no character begins behind the longest front that is a text
pub none_behind : (bs : List ℕ) (n : ℕ) → IsValidUpTo bs n → StartsWithNoChar (drop n bs)
none_behind bs n v c rest s e =
    let at = length (encode c) in
    let cut : take (n + at) bs ≡ take n bs ++ encode c =
    take-add n at bs ∙ ap (λ l. take n bs ++ l) (ap (λ l. take at l) e ∙ take-append_seam (encode c) rest) in
    v.longest (n + at) (omega (arith, length-encode c, (len_utf8_bounds c).0))
    (subst IsUtf8 (sym cut) (IsUtf8-append (take n bs) (encode c) v.front (IsUtf8-encode c s)))

-- in a loop over such fronts: behind one a byte is replaced, or nothing stands there; and nothing is left
pub replaced : (shown with_text with_mark text behind rest all : List ℕ) → with_text ≡ shown ++ text
    → with_mark ≡ with_text ++ encode 0xFFFD
    → rest ≡ text ++ behind → IsUtf8 text → StartsWithNoChar behind → 1 ≤ length behind → shown ++ lossy rest ≡ all
    → with_mark ++ lossy (take (length behind - 1) (drop 1 behind)) ≡ all
unfolding encode
replaced shown with_text with_mark text [] rest all t m e u n l kept = absurd (omega arith)
replaced shown with_text with_mark text (b ∷ bs) rest all t m e u n l kept =
    let left = lossy bs in
    ap (λ s. with_mark ++ lossy s) (take_rest (b ∷ bs) 1) ∙ ap (λ s. s ++ left) (m ∙ ap (λ s. s ++ replacement_bytes) t)
    ∙ append_assoc (shown ++ text) replacement_bytes left ∙ append_assoc shown text (replacement_bytes ++ left)
    ∙ ap (λ s. shown ++ (text ++ s)) (sym (replaces b bs n)) ∙ ap (λ s. shown ++ s)
    (sym (shows text (b ∷ bs) u) ∙ ap lossy (sym e)) ∙ kept

pub at_end : (shown rest all : List ℕ) → length rest ≡ 0 → shown ++ lossy rest ≡ all → shown ≡ all
at_end shown [] all l kept = sym (append-nil shown) ∙ ap (λ s. shown ++ s) (sym lossy_nil) ∙ kept
at_end shown (b ∷ bs) all l kept = absurd (omega (arith, l))

pub last_text : (shown with_text text behind rest all : List ℕ) → with_text ≡ shown ++ text → rest ≡ text ++ behind
    → IsUtf8 text → length behind < 1
    → shown ++ lossy rest ≡ all → with_text ≡ all
last_text shown with_text text behind rest all t e u l kept =
    at_end with_text behind all (omega arith) (ap (λ s. s ++ lossy behind) t ∙ append_assoc shown text (lossy behind)
    ∙ ap (λ s. shown ++ s) (sym (shows text behind u) ∙ ap lossy (sym e)) ∙ kept)
