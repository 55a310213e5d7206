-- The line of bytes is spelled so, and is read as what it says.
use Rattle.std.proofs.Common.{◌≡◌, ℕ, zero, suc, ◌+◌, ◌-◌, ◌*◌, ◌/◌, ◌%◌, ◌<◌, List, [], ◌∷◌, ◌++◌, length, take, drop}
use Rattle.std.proofs.Common.{get_or, Bool, true, false, Bor, Option, Some, None, Ok, refl, sym, subst, ap, ◌∙◌}
use Rattle.std.proofs.Common.{append_assoc, length-append, arith}
use Rattle.std.specs.Prelude.{slice_index, codes, nat_eq, IfSome, MatchOption}
use Rattle.std.specs.Cmp.Lexicographic.{pointwise}
use Rattle.std.specs.Str.{bytes_eq}
use Rattle.std.proofs.Math.Seq.{take-suc}
use Rattle.std.proofs.lemmas.Bool.Decides.{Decides-eqb}
use Rattle.std.proofs.lemmas.Slice.Eq.{bytes_eq-Decides, strip_suffix_is}
use Rattle.hex.specs.Hex.{IsBytes, encode_lower, encode_with, lower_digits}
use Rattle.json.specs.Print.{escape, escape_byte}
use Rattle.serde_json.specs.Written.{compact_text}
use Rattle.wire_core.specs.declared.outside.Side.{Side}
use Rattle.wire_core.specs.declared.outside.Side.TheVariants.{Client, Target}
use Rattle.script_text.specs.declared.rows.Row.TheVariants.{Entry}
use Rattle.script_text.specs.declared.spelled.Way.{Way}
use Rattle.script_text.specs.declared.spelled.Way.TheVariants.{Came, Went}
use Rattle.script_text.specs.Orderly.{HasBytes}
use Rattle.script_text.specs.Reading.{row_in}
use Rattle.script_text.specs.Texts.{bytes_data, line_of}
use Rattle.script_text.specs.Spelled.{way_name, start_of, entry_of}
use Rattle.script_text.proofs.ShownLaws.{all_below, all_below-at, printed-in, printed-out, row_in-printed}

-- ---- digits stand in a text of JSON as they are

is_plain : ℕ → Bool
is_plain d = bytes_eq (escape_byte (slice_index lower_digits d)) (slice_index lower_digits d ∷ [])

escape-digit : (d : ℕ) → d < 16 → escape_byte (slice_index lower_digits d) ≡ slice_index lower_digits d ∷ []
unfolding is_plain all_below escape_byte
escape-digit d lt = (bytes_eq-Decides _ _).0 (all_below-at is_plain 16 d refl lt)

escape-encode_lower : (bytes : List ℕ) → IsBytes bytes → escape (encode_lower bytes) ≡ encode_lower bytes
unfolding encode_with
escape-encode_lower [] are = refl
escape-encode_lower (byte ∷ bytes) are =
    let fits : byte < 256 = are 0 in
    let high = escape-digit (byte / 16) (omega arith) in
    let low = escape-digit (byte % 16) (omega arith) in
    let rest = escape-encode_lower bytes (λ i. are (suc i)) in
    rw (high, low, rest) refl

-- ---- the whole line

closed : (digits : List ℕ) → (digits ++ 34 ∷ []) ++ 93 ∷ [] ≡ digits ++ 34 ∷ 93 ∷ []
closed digits = append_assoc digits (34 ∷ []) (93 ∷ [])

-- the text is spelled so, whatever the digits
spelled_as : (way : Way) (side : Side) (bytes : List ℕ) →
    compact_text (bytes_data (way_name way) side bytes)
    ≡ start_of way side ++ ((escape (encode_lower bytes) ++ 34 ∷ []) ++ 93 ∷ [])
unfolding escape_byte
spelled_as Came Client bytes = refl
spelled_as Came Target bytes = refl
spelled_as Went Client bytes = refl
spelled_as Went Target bytes = refl

spelled : (way : Way) (side : Side) (bytes : List ℕ) → IsBytes bytes →
    compact_text (bytes_data (way_name way) side bytes) ≡ start_of way side ++ (encode_lower bytes ++ codes "\"]")
spelled way side bytes are =
    spelled_as way side bytes
    ∙ ap (λ (text : List ℕ). start_of way side ++ text) (closed (escape (encode_lower bytes)))
    ∙ ap (λ (digits : List ℕ). start_of way side ++ (digits ++ 34 ∷ 93 ∷ [])) (escape-encode_lower bytes are)

-- a line that was added part by part
pub spelled_line : (way : Way) (side : Side) (bytes old begun middle new : List ℕ) → IsBytes bytes →
    begun ≡ old ++ start_of way side → middle ≡ begun ++ encode_lower bytes → new ≡ middle ++ codes "\"]\n" →
    new ≡ old ++ line_of (bytes_data (way_name way) side bytes)
unfolding line_of
spelled_line way side bytes old begun middle new are first second last =
    last
    ∙ ap (λ (text : List ℕ). text ++ codes "\"]\n") (second ∙ ap (λ (text : List ℕ). text ++ encode_lower bytes) first)
    ∙ append_assoc (old ++ start_of way side) (encode_lower bytes) (codes "\"]\n")
    ∙ append_assoc old (start_of way side) (encode_lower bytes ++ codes "\"]\n")
    ∙ ap (λ (text : List ℕ). old ++ (start_of way side ++ text))
    (sym (append_assoc (encode_lower bytes) (codes "\"]") (10 ∷ [])))
    ∙ ap (λ (text : List ℕ). old ++ text)
    (sym (append_assoc (start_of way side) (encode_lower bytes ++ codes "\"]") (10 ∷ [])))
    ∙ ap (λ (text : List ℕ). old ++ (text ++ 10 ∷ [])) (sym (spelled way side bytes are))

-- it is read as what it says
said : (way : Way) (side : Side) (bytes : List ℕ) → HasBytes bytes →
    row_in (compact_text (bytes_data (way_name way) side bytes)) ≡ Ok (Entry (entry_of way side bytes))
said Came side bytes has = row_in-printed _ _ (printed-in side bytes has.some has.are)
said Went side bytes has = row_in-printed _ _ (printed-out side bytes has.some has.are)

pub row_in-spelled : (way : Way) (side : Side) (bytes digits line : List ℕ) → HasBytes bytes →
    encode_lower bytes ≡ digits → line ≡ start_of way side ++ (digits ++ codes "\"]") →
    row_in line ≡ Ok (Entry (entry_of way side bytes))
row_in-spelled way side bytes digits line has same spells =
    ap row_in
    (spells
    ∙ ap (λ (text : List ℕ). start_of way side ++ (text ++ codes "\"]")) (sym same)
    ∙ sym (spelled way side bytes has.are))
    ∙ said way side bytes has

-- parts that were cut off at both ends
pub cut_off : (way : Way) (side : Side) (line front digits : List ℕ) → line ≡ front ++ codes "\"]" →
    front ≡ start_of way side ++ digits → line ≡ start_of way side ++ (digits ++ codes "\"]")
cut_off way side line front digits back begins =
    back
    ∙ ap (λ (text : List ℕ). text ++ codes "\"]") begins
    ∙ append_assoc (start_of way side) digits (codes "\"]")

pub end_is : (line end : List ℕ) (result : Option (Bor (List ℕ))) →
    MatchOption result (pointwise nat_eq (drop (length line - length end) line) end ≡ false) (λ front.
    (pointwise nat_eq (drop (length line - length end) line) end ≡ true)
    × (front.now ≡ take (length line - length end) line)
    × (length front.now + length end ≡ length line)) → IfSome result (λ front. line ≡ front.now ++ end)
end_is line end None cut = tt
end_is line end (Some front) cut = strip_suffix_is Decides-eqb line end (Some front) cut

-- what holds of each value that there is, holds of this one
pub at_some : {A : Type 0} (P : A → Type 0) (found : Option A) (a : A) → IfSome found P → found ≡ Some a → P a
at_some P found a has e = subst (λ it. IfSome it P) e has

-- ---- digits, pair by pair

pub IsBytes-nil : (bytes : List ℕ) → bytes ≡ [] → IsBytes bytes
IsBytes-nil bytes e = rw e (λ i. omega arith)

pub encode_lower-nil : (bytes : List ℕ) → bytes ≡ [] → encode_lower bytes ≡ []
unfolding encode_with
encode_lower-nil bytes e = ap encode_lower e

encode_lower-append : (xs ys : List ℕ) → encode_lower (xs ++ ys) ≡ encode_lower xs ++ encode_lower ys
unfolding encode_with
encode_lower-append [] ys = refl
encode_lower-append (x ∷ xs) ys =
    ap (λ (rest : List ℕ). slice_index lower_digits (x / 16) ∷ slice_index lower_digits (x % 16) ∷ rest)
    (encode_lower-append xs ys)

pub IsBytes-append : (xs : List ℕ) (y : ℕ) → IsBytes xs → y < 256 → IsBytes (xs ++ y ∷ [])
IsBytes-append [] y are fits zero = fits
IsBytes-append [] y are fits (suc i) = omega arith
IsBytes-append (x ∷ xs) y are fits zero = are 0
IsBytes-append (x ∷ xs) y are fits (suc i) = IsBytes-append xs y (λ k. are (suc k)) fits i

pub one_more : (bytes more : List ℕ) (byte i : ℕ) → more ≡ bytes ++ byte ∷ [] → length bytes ≡ i →
    length more ≡ i + 1
one_more bytes more byte i is count =
    ap length is ∙ length-append bytes (byte ∷ []) ∙ ap (λ (n : ℕ). n + 1) count

-- the byte of two digits
pub pair_is : (high low : ℕ) (h l : ℕ) → h < 16 → l < 16 → slice_index lower_digits h ≡ high →
    slice_index lower_digits l ≡ low → encode_lower ((16 * h + l) ∷ []) ≡ high ∷ low ∷ []
unfolding encode_with
pair_is high low h l big small first second =
    let upper : (16 * h + l) / 16 ≡ h = omega arith in
    let lower : (16 * h + l) % 16 ≡ l = omega arith in
    rw (upper, lower, first, second) refl

take-two : (digits : List ℕ) (n : ℕ) → n + 1 < length digits →
    take (n + 2) digits ≡ take n digits ++ get_or digits n 0 ∷ get_or digits (n + 1) 0 ∷ []
take-two digits n lt =
    let twice : n + 2 ≡ suc (suc n) = omega arith in
    let next : suc n ≡ n + 1 = omega arith in
    ap (λ (k : ℕ). take k digits) twice
    ∙ take-suc digits (suc n) 0 (omega (arith, lt))
    ∙ ap (λ (text : List ℕ). text ++ get_or digits (suc n) 0 ∷ []) (take-suc digits n 0 (omega (arith, lt)))
    ∙ append_assoc (take n digits) (get_or digits n 0 ∷ []) (get_or digits (suc n) 0 ∷ [])
    ∙ ap (λ (k : ℕ). take n digits ++ get_or digits n 0 ∷ get_or digits k 0 ∷ []) next

pub pair_more : (digits bytes more : List ℕ) (byte i : ℕ) → 2 * i + 1 < length digits →
    encode_lower bytes ≡ take (2 * i) digits →
    encode_lower (byte ∷ []) ≡ get_or digits (2 * i) 0 ∷ get_or digits (2 * i + 1) 0 ∷ [] →
    more ≡ bytes ++ byte ∷ [] → encode_lower more ≡ take (2 * (i + 1)) digits
pair_more digits bytes more byte i lt so_far pair is =
    let twice : 2 * (i + 1) ≡ 2 * i + 2 = omega arith in
    ap encode_lower is
    ∙ encode_lower-append bytes (byte ∷ [])
    ∙ ap (λ (text : List ℕ). text ++ encode_lower (byte ∷ [])) so_far
    ∙ ap (λ (text : List ℕ). take (2 * i) digits ++ text) pair
    ∙ sym (take-two digits (2 * i) lt)
    ∙ ap (λ (n : ℕ). take n digits) (sym twice)
