-- The text of a row: it is one line of ASCII, and is read as the row.
use Rattle.std.proofs.Common.{◌≡◌, ℕ, zero, suc, ◌<◌, ◌≤◌, ◌^◌, ◌/◌, ◌%◌, List, [], ◌∷◌, ◌++◌, length, Bool, true}
use Rattle.std.proofs.Common.{◌&&◌, Option, Some, option_and_then, option_map, Ok, decimal, refl}
use Rattle.std.proofs.Common.{sym, ap, ◌∙◌}
use Rattle.std.proofs.Common.{append-nil, inl, inr, arith, lt-ltb, le-leb}
use Rattle.std.specs.Prelude.{nat_le, nat_lt, slice_index, codes}
use Rattle.std.specs.Char.{digit_value}
use Rattle.std.specs.List.{list_all}
use Rattle.std.specs.Str.{IsAscii}
use Rattle.std.specs.Str.Parse.{AllDigits}
use Rattle.std.proofs.lemmas.Bool.{and_parts, cases_lt, ltb-true}
use Rattle.std.proofs.lemmas.Fmt.{decimal_is_IsNumeral}
use Rattle.std.proofs.lemmas.Str.{IsUtf8-from_ascii}
use Rattle.std.proofs.lemmas.Str.Ascii.{IsAscii-nil, IsAscii-cons}
use Rattle.hex.specs.Hex.{IsBytes, encode_lower, encode_with, lower_digits}
use Rattle.hex.proofs.HexLemmas.{decode_of-encode_lower}
use Rattle.json.specs.Json as json
use Rattle.json.specs.Lex.{tokens}
use Rattle.json.specs.Print.{escape, escape_byte}
use Rattle.json.specs.Tree.{json_tokens, depth, HasNumbers}
use Rattle.json.proofs.Printed.Decimals.{IsNumber-decimal}
use Rattle.json.proofs.Printed.Tokens.{tokens-print}
use Rattle.json.proofs.Printed.Trees.{value-json_tokens, ArePrintable-json_tokens}
use Rattle.run_logs.specs.Runs.{IsRun}
use Rattle.run_logs.specs.declared.run.Run.TheVariants.{One}
use Rattle.serde_json.specs.Data.{Data, number, unsigned}
use Rattle.serde_json.specs.Read.{read, of_json, number_of}
use Rattle.serde_json.specs.Written.{compact_text, outline}
use Rattle.serde_json.proofs.Numbers.{number_of-decimal}
use Rattle.serde_json.proofs.Texts.{print-outline}
use Rattle.wire_core.specs.declared.outside.Side.{Side}
use Rattle.wire_core.specs.declared.outside.Side.TheVariants.{Client, Target}
use Rattle.wire_core.specs.declared.outside.Entry.{Entry as Logged}
use Rattle.wire_core.specs.declared.outside.Entry.TheVariants.{In, Out, Shut, Failed, Quiet as nothing}
use Rattle.script_text.specs.declared.rows.Row.{Row}
use Rattle.script_text.specs.declared.rows.Row.TheVariants.{Head, Limits, Entry, Quiet, Quiets, Ending, End}
use Rattle.script_text.specs.declared.rows.Version.{Version}
use Rattle.script_text.specs.Orderly.{HaveLine, IsSpelled, IsWithin}
use Rattle.script_text.specs.Texts.{bytes_data, side_data, bare_data, head_data, limits_data, quiets_data, entry_data}
use Rattle.script_text.specs.Texts.{ending_data, end_data}
use Rattle.script_text.specs.Rows.{is_lower_digit, bytes_of, decoded, row_of, most_turns, most_quiet, most_waiting}
use Rattle.script_text.specs.Rows.{most_quiets, count_of, version_of}
use Rattle.script_text.specs.Reading.{row_in, unless_shapeless}
use Rattle.script_text.proofs.LineLaws.{row_in-read}

-- ---- bytes that are shown as they are

-- no control character, and ASCII
abbrev pub is_shown : ℕ → Bool
is_shown byte = nat_le 32 byte && nat_lt byte 128

both : (a b : Bool) → a ≡ true → b ≡ true → (a && b) ≡ true
both a b e f = rw (e, f) refl

pub are_shown-append : (xs ys : List ℕ) → list_all is_shown xs ≡ true → list_all is_shown ys ≡ true →
    list_all is_shown (xs ++ ys) ≡ true
are_shown-append [] ys e f = f
are_shown-append (x ∷ xs) ys e f =
    let parts = and_parts (is_shown x) (list_all is_shown xs) e in
    both (is_shown x) (list_all is_shown (xs ++ ys)) parts.0 (are_shown-append xs ys parts.1 f)

IsAscii-shown : (xs : List ℕ) → list_all is_shown xs ≡ true → IsAscii xs
IsAscii-shown [] e = IsAscii-nil
IsAscii-shown (x ∷ xs) e =
    let parts = and_parts (is_shown x) (list_all is_shown xs) e in
    let small = and_parts (nat_le 32 x) (nat_lt x 128) parts.0 in
    IsAscii-cons x xs (ltb-true x 128 small.1) (IsAscii-shown xs parts.1)

-- ---- hexadecimal

unfoldable pub all_below : (ℕ → Bool) → ℕ → Bool
all_below test zero = true
all_below test (suc n) = test n && all_below test n

pub all_below-at : (test : ℕ → Bool) (n k : ℕ) → all_below test n ≡ true → k < n → test k ≡ true
unfolding all_below
all_below-at test zero k e lt = absurd (omega arith)
all_below-at test (suc n) k e lt =
    let parts = and_parts (test n) (all_below test n) e in
    elim (cases_lt k n) [
      | inl below ↦ all_below-at test n k parts.1 below
      | inr top ↦
          let here : k ≡ n = omega arith in
          rw here parts.0
    ]

-- a digit is shown as it is, and is lower-case
is_digit_shown : ℕ → Bool
is_digit_shown d =
    list_all is_shown (escape_byte (slice_index lower_digits d)) && is_lower_digit (slice_index lower_digits d)

digit_is_shown : (d : ℕ) → d < 16 → is_digit_shown d ≡ true
unfolding is_digit_shown all_below escape_byte
digit_is_shown d lt = all_below-at is_digit_shown 16 d refl lt

digit_parts : (d : ℕ) → d < 16 → (list_all is_shown (escape_byte (slice_index lower_digits d)) ≡ true)
    × (is_lower_digit (slice_index lower_digits d) ≡ true)
unfolding is_digit_shown
digit_parts d lt = and_parts _ _ (digit_is_shown d lt)

hexadecimal_is_shown : (bytes : List ℕ) → IsBytes bytes → list_all is_shown (escape (encode_lower bytes)) ≡ true
unfolding encode_with
hexadecimal_is_shown [] are = refl
hexadecimal_is_shown (byte ∷ bytes) are =
    let fits : byte < 256 = are 0 in
    are_shown-append (escape_byte (slice_index lower_digits (byte / 16))) _
    (digit_parts (byte / 16) (omega arith)).0
    (are_shown-append (escape_byte (slice_index lower_digits (byte % 16))) _
    (digit_parts (byte % 16) (omega arith)).0
    (hexadecimal_is_shown bytes (λ i. are (suc i))))

hexadecimal_is_lower : (bytes : List ℕ) → IsBytes bytes → list_all is_lower_digit (encode_lower bytes) ≡ true
unfolding encode_with
hexadecimal_is_lower [] are = refl
hexadecimal_is_lower (byte ∷ bytes) are =
    let fits : byte < 256 = are 0 in
    both _ _
    (digit_parts (byte / 16) (omega arith)).1
    (both _ _
    (digit_parts (byte % 16) (omega arith)).1
    (hexadecimal_is_lower bytes (λ i. are (suc i))))

some_digits : (bytes : List ℕ) → 0 < length bytes → nat_lt 0 (length (encode_lower bytes)) ≡ true
unfolding encode_with
some_digits [] some = absurd (omega arith)
some_digits (byte ∷ bytes) some = lt-ltb _ _ (omega arith)

bytes_of-encode_lower : (bytes : List ℕ) → 0 < length bytes → IsBytes bytes →
    bytes_of (encode_lower bytes) ≡ Some bytes
bytes_of-encode_lower bytes some are =
    rw (some_digits bytes some, hexadecimal_is_lower bytes are) (ap decoded (decode_of-encode_lower bytes are))

-- ---- rows

-- the compact text of a value is read as the value
read-compact : (value : Data) → HasNumbers (outline value) → depth (outline value) ≤ 127 →
    of_json (outline value) ≡ Some value → read (compact_text value) ≡ Some value
read-compact value numbers shallow same =
    let text : tokens (compact_text value) ≡ json_tokens (outline value) ++ [] =
    ap tokens (sym (print-outline value))
    ∙ tokens-print (json_tokens (outline value)) (ArePrintable-json_tokens (outline value) numbers)
    ∙ sym (append-nil (json_tokens (outline value))) in
    ap (λ ts. option_and_then of_json (option_and_then (λ p. json.if_last p.0 p.1) (json.value 127 ts))) text
    ∙ ap (λ r. option_and_then of_json (option_and_then (λ p. json.if_last p.0 p.1) r))
    (value-json_tokens (outline value) 127 [] shallow)
    ∙ same

-- a value's text is one line, and says a row
pub record IsPrinted (value : Data) (row : Row) : Type 0 where
  pub is_read : read (compact_text value) ≡ Some value
  pub is_shown : list_all is_shown (compact_text value) ≡ true
  pub is_row : row_of value ≡ Some row

pub row_in-printed : (value : Data) (row : Row) → IsPrinted value row → row_in (compact_text value) ≡ Ok row
row_in-printed value row printed =
    row_in-read (compact_text value) (Some value)
    (IsUtf8-from_ascii (compact_text value) (IsAscii-shown (compact_text value) printed.is_shown))
    printed.is_read
    ∙ ap unless_shapeless printed.is_row

shown_end : (bytes : List ℕ) → IsBytes bytes →
    list_all is_shown ((escape (encode_lower bytes) ++ 34 ∷ []) ++ 93 ∷ []) ≡ true
shown_end bytes are =
    are_shown-append (escape (encode_lower bytes) ++ 34 ∷ []) (93 ∷ [])
    (are_shown-append (escape (encode_lower bytes)) (34 ∷ []) (hexadecimal_is_shown bytes are) refl)
    refl

pub printed-in : (side : Side) (bytes : List ℕ) → 0 < length bytes → IsBytes bytes →
    IsPrinted (bytes_data (codes "in") side bytes) (Entry (In side bytes))
unfolding escape_byte
printed-in Client bytes some are = record {
  is_read = read-compact (bytes_data (codes "in") Client bytes) (tt, (tt, (tt, tt))) (omega arith) refl;
  is_shown = shown_end bytes are;
  is_row = rw (bytes_of-encode_lower bytes some are) refl;
}
printed-in Target bytes some are = record {
  is_read = read-compact (bytes_data (codes "in") Target bytes) (tt, (tt, (tt, tt))) (omega arith) refl;
  is_shown = shown_end bytes are;
  is_row = rw (bytes_of-encode_lower bytes some are) refl;
}

pub printed-out : (side : Side) (bytes : List ℕ) → 0 < length bytes → IsBytes bytes →
    IsPrinted (bytes_data (codes "out") side bytes) (Entry (Out side bytes))
unfolding escape_byte
printed-out Client bytes some are = record {
  is_read = read-compact (bytes_data (codes "out") Client bytes) (tt, (tt, (tt, tt))) (omega arith) refl;
  is_shown = shown_end bytes are;
  is_row = rw (bytes_of-encode_lower bytes some are) refl;
}
printed-out Target bytes some are = record {
  is_read = read-compact (bytes_data (codes "out") Target bytes) (tt, (tt, (tt, tt))) (omega arith) refl;
  is_shown = shown_end bytes are;
  is_row = rw (bytes_of-encode_lower bytes some are) refl;
}

printed-shut : (side : Side) → IsPrinted (side_data (codes "shut") side) (Entry (Shut side))
unfolding escape_byte
printed-shut Client = record {
  is_read = read-compact (side_data (codes "shut") Client) (tt, (tt, tt)) (omega arith) refl;
  is_shown = refl;
  is_row = refl;
}
printed-shut Target = record {
  is_read = read-compact (side_data (codes "shut") Target) (tt, (tt, tt)) (omega arith) refl;
  is_shown = refl;
  is_row = refl;
}

printed-failed : (side : Side) → IsPrinted (side_data (codes "failed") side) (Entry (Failed side))
unfolding escape_byte
printed-failed Client = record {
  is_read = read-compact (side_data (codes "failed") Client) (tt, (tt, tt)) (omega arith) refl;
  is_shown = refl;
  is_row = refl;
}
printed-failed Target = record {
  is_read = read-compact (side_data (codes "failed") Target) (tt, (tt, tt)) (omega arith) refl;
  is_shown = refl;
  is_row = refl;
}

pub printed-entry : (entry : Logged) → IsRun (One entry) → IsSpelled entry → IsPrinted (entry_data entry) (Entry entry)
printed-entry (In side bytes) one spelled = printed-in side bytes spelled.some spelled.are
printed-entry (Out side bytes) one spelled = printed-out side bytes spelled.some spelled.are
printed-entry (Shut side) one spelled = printed-shut side
printed-entry (Failed side) one spelled = printed-failed side
printed-entry nothing one spelled = absurd one

pub printed-quiet : IsPrinted (bare_data (codes "quiet")) Quiet
unfolding escape_byte
printed-quiet = record {
  is_read = read-compact (bare_data (codes "quiet")) (tt, tt) (omega arith) refl;
  is_shown = refl;
  is_row = refl;
}

pub printed-end : IsPrinted end_data End
unfolding escape_byte
printed-end = record {
  is_read = read-compact end_data (tt, tt) (omega arith) refl;
  is_shown = refl;
  is_row = refl;
}

-- an integer that is read again
number_read : (n : ℕ) → n < 2 ^ 64 → option_map number (number_of (decimal n)) ≡ Some (number (unsigned n))
number_read n fits = ap (option_map number) (number_of-decimal n fits)

-- an integer is written in digits
digit_shown : (digit : ℕ) → digit_value digit < 10 → is_shown digit ≡ true
digit_shown digit small = grind arith

digits_shown : (digits : List ℕ) → AllDigits 10 digits → list_all is_shown digits ≡ true
digits_shown [] are = refl
digits_shown (digit ∷ digits) are =
    both (is_shown digit) (list_all is_shown digits) (digit_shown digit are.0) (digits_shown digits are.1)

number_shown : (n : ℕ) → n < 2 ^ 64 → list_all is_shown (decimal n ++ 93 ∷ []) ≡ true
number_shown n fits =
    are_shown-append (decimal n) (93 ∷ []) (digits_shown (decimal n) (decimal_is_IsNumeral n fits).0.1) refl

pub printed-head : (version : ℕ) (row : Option Version) → version < 2 ^ 64 → version_of version ≡ row →
    IsPrinted (head_data version) (Head row)
unfolding escape_byte
printed-head version row fits is = record {
  is_read = read-compact (head_data version) (tt, (IsNumber-decimal version fits, tt)) (omega arith)
      (rw (number_read version fits) refl);
  is_shown = number_shown version fits;
  is_row = rw is refl;
}

-- an integer from 1 to another
count_of-within : (most n : ℕ) → IsWithin most n → count_of most n ≡ Some n
count_of-within most n within =
    rw (le-leb 1 n (omega (arith, within.some)), le-leb n most within.most) refl

pub printed-quiets : (n : ℕ) → IsWithin most_quiets n → IsPrinted (quiets_data n) (Quiets n)
unfolding escape_byte
printed-quiets n within =
    let fits : n < 2 ^ 64 = omega (arith, within.most) in
    record {
      is_read = read-compact (quiets_data n) (tt, (IsNumber-decimal n fits, tt)) (omega arith)
          (rw (number_read n fits) refl);
      is_shown = number_shown n fits;
      is_row = rw (count_of-within most_quiets n within) refl;
    }

-- digits, and what stands behind them
digits_then : (n : ℕ) (more : List ℕ) → n < 2 ^ 64 → list_all is_shown more ≡ true →
    list_all is_shown (decimal n ++ more) ≡ true
digits_then n more fits shown =
    are_shown-append (decimal n) more (digits_shown (decimal n) (decimal_is_IsNumeral n fits).0.1) shown

pub printed-limits : (turns quiet waiting : ℕ) → HaveLine turns quiet waiting →
    IsPrinted (limits_data turns quiet waiting) (Limits turns quiet waiting)
unfolding escape_byte
printed-limits turns quiet waiting have =
    let t_fits : turns < 2 ^ 64 = omega (arith, have.turns_are.most) in
    let q_fits : quiet < 2 ^ 64 = omega (arith, have.quiet_is.most) in
    let w_fits : waiting < 2 ^ 64 = omega (arith, have.waiting_is.most) in
    record {
      is_read = read-compact (limits_data turns quiet waiting)
          (tt, (IsNumber-decimal turns t_fits, (IsNumber-decimal quiet q_fits, (IsNumber-decimal waiting w_fits, tt))))
          (omega arith)
          (rw (number_read turns t_fits, number_read quiet q_fits, number_read waiting w_fits) refl);
      is_shown = digits_then turns _ t_fits (digits_then quiet _ q_fits (number_shown waiting w_fits));
      is_row = rw (
        count_of-within most_turns turns have.turns_are,
        count_of-within most_quiet quiet have.quiet_is,
        count_of-within most_waiting waiting have.waiting_is,
      ) refl;
    }

pub printed-ending : (status : ℕ) → status < 256 → IsPrinted (ending_data status) (Ending status)
unfolding escape_byte
printed-ending status fits = record {
  is_read = read-compact (ending_data status) (tt, (IsNumber-decimal status (omega (arith, fits)), tt)) (omega arith)
      (rw (number_read status (omega (arith, fits))) refl);
  is_shown = number_shown status (omega (arith, fits));
  is_row = rw (lt-ltb status 256 fits) refl;
}
