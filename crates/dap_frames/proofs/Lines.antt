-- The lines of a header are read as what they are.
use Rattle.std.proofs.Common.{◌≡◌, ℕ, zero, suc, ◌+◌, ◌-◌, ◌*◌, ◌<◌, ◌≤◌, Bool, true, false, ltb, leb, List, [], ◌∷◌}
use Rattle.std.proofs.Common.{◌++◌, length, replicate, Option, Some, None, refl, sym, ap, ◌∙◌, arith, inl, inr}
use Rattle.std.proofs.Common.{append_assoc}
use Rattle.std.specs.Prelude.{codes}
use Rattle.std.specs.Char.{digit_value}
use Rattle.std.specs.List.{AllByRecursion}
use Rattle.std.specs.Str.Parse.{AllDigits, digits_value, digits_value_after}
use Rattle.std.proofs.lemmas.Bool.{cases_Bool, and_from, lt-ltb, le-ltb, le-leb, ne_eqb}
use Rattle.std.proofs.lemmas.List.{length-append, length-replicate}
use Rattle.std.proofs.lemmas.Str.Parse.{digit_from_value}
use Rattle.wire_core.specs.Streams.{joined}
use Rattle.dap_frames.specs.declared.header.Reading.{Reading}
use Rattle.dap_frames.specs.declared.header.Reading.TheVariants.{Line, Name, Digits, Value, LineEnd}
use Rattle.dap_frames.specs.declared.header.Step.TheVariants.{Goes}
use Rattle.dap_frames.specs.declared.header.Head.{Head}
use Rattle.dap_frames.specs.declared.header.Head.TheVariants as heads
use Rattle.dap_frames.specs.declared.header.TheConstants.{MOST_DIGITS, LONGEST_BODY}
use Rattle.dap_frames.specs.Reading.{step, after_step, head, later, is_digit, with_digit, next_match, is_length_name}
use Rattle.dap_frames.specs.Reading.{behind_name}
use Rattle.dap_frames.specs.Frames.{IsNameByte, IsName, IsLengthName, IsPlain, IsLengthLine, IsOtherLine, AreLines}
use Rattle.dap_frames.specs.Frames.{IsLongHeader}
use Rattle.dap_frames.proofs.Heads.{later-later, later-zero}
use Rattle.dap_frames.proofs.Names.{name-byte-true, matched, length-name-true, length-name-is}

-- one more byte of many that lead on
one-more : (n : ℕ) (r t : Reading) (b : ℕ) (bs : List ℕ) (h : Head) → step r b ≡ Goes t → head t bs ≡ later n h
    → head r (b ∷ bs) ≡ later (suc n) h
one-more n r t b bs h goes rest =
    ap (λ s. after_step s (λ u. head u bs)) goes ∙ ap (later 1) rest ∙ later-later 1 n h ∙ ap (λ (k : ℕ). later k h)
    (omega arith)

-- ---- names

name-read : (name : List ℕ) (said m : Option ℕ) (rest : List ℕ) → AllByRecursion IsNameByte name
    → head (Name said m) (name ++ 58 ∷ rest) ≡ later (length name) (head (Name said (matched m name)) (58 ∷ rest))
name-read [] said m rest all = sym (later-zero (head (Name said m) (58 ∷ rest)))
name-read (b ∷ bs) said m rest all =
    one-more (length bs) (Name said m) (Name said (next_match m b)) b (bs ++ 58 ∷ rest)
    (head (Name said (matched m (b ∷ bs))) (58 ∷ rest))
    (rw (name-byte-true b all.0, ne_eqb b 58 all.0.2) refl) (name-read bs said (next_match m b) rest all.1)

pub name-starts : (name : List ℕ) (said : Option ℕ) (rest : List ℕ) → IsName name
    → head (Line said) (name ++ 58 ∷ rest) ≡ later (length name) (head (Name said (matched (Some 0) name)) (58 ∷ rest))
name-starts [] said rest is = absurd (omega (arith, is.0))
name-starts (b ∷ bs) said rest is =
    let all = is.1 in
    one-more (length bs) (Line said) (Name said (next_match (Some 0) b)) b (bs ++ 58 ∷ rest)
    (head (Name said (matched (Some 0) (b ∷ bs))) (58 ∷ rest))
    (rw (ne_eqb b 13 (omega (arith, all.0)), name-byte-true b all.0) refl)
    (name-read bs said (next_match (Some 0) b) rest all.1)

-- ---- other lines

value-read : (value : List ℕ) (said : Option ℕ) (rest : List ℕ) → AllByRecursion IsPlain value
    → head (Value said) (value ++ 13 ∷ 10 ∷ rest) ≡ later (length value + 2) (head (Line said) rest)
value-read [] said rest all = later-later 1 1 (head (Line said) rest)
value-read (b ∷ bs) said rest all =
    one-more (length bs + 2) (Value said) (Value said) b (bs ++ 13 ∷ 10 ∷ rest) (head (Line said) rest)
    (rw (ne_eqb b 13 all.0.0, ne_eqb b 10 all.0.1) refl) (value-read bs said rest all.1)
    ∙ ap (λ (k : ℕ). later k (head (Line said) rest)) (omega arith)

-- the parts of a line, one behind the other
line-parts : (name value rest : List ℕ)
    → (name ++ codes ":" ++ value ++ codes "\r\n") ++ rest ≡ name ++ 58 ∷ (value ++ 13 ∷ 10 ∷ rest)
line-parts name value rest =
    append_assoc (name ++ codes ":" ++ value) (codes "\r\n") rest ∙ append_assoc (name ++ codes ":") value
    (13 ∷ 10 ∷ rest)
    ∙ append_assoc name (codes ":") (value ++ 13 ∷ 10 ∷ rest)

line-length : (name value : List ℕ)
    → length (name ++ codes ":" ++ value ++ codes "\r\n") ≡ length name + (1 + (length value + 2))
line-length name value =
    omega (
      arith,
      length-append (name ++ codes ":" ++ value) (codes "\r\n"),
      length-append (name ++ codes ":") value,
      length-append name (codes ":"),
    )

-- three parts of a line, read one behind the other
three : (a b : ℕ) (h : Head) → later a (later 1 (later b h)) ≡ later (a + (1 + b)) h
three a b h = ap (later a) (later-later 1 b h) ∙ later-later a (1 + b) h

pub other-read : (line : List ℕ) (said : Option ℕ) (rest : List ℕ) → IsOtherLine line
    → head (Line said) (line ++ rest) ≡ later (length line) (head (Line said) rest)
other-read line said rest is =
    let m : Option ℕ = matched (Some 0) is.name in
    let after : List ℕ = is.value ++ 13 ∷ 10 ∷ rest in
    ap (λ (l : List ℕ). head (Line said) (l ++ rest)) is.text ∙ ap (head (Line said)) (line-parts is.name is.value rest)
    ∙ name-starts is.name said after is.is_name
    ∙ ap (λ (t : Bool). later (length is.name) (after_step (behind_name said t) (λ u. head u after)))
    (no-length is.name is.other)
    ∙ ap (λ (h : Head). later (length is.name) (later 1 h)) (value-read is.value said rest is.plain)
    ∙ three (length is.name) (length is.value + 2) (head (Line said) rest)
    ∙ ap (λ (k : ℕ). later k (head (Line said) rest)) (sym (ap length is.text ∙ line-length is.name is.value))
  where
    no-length : (name : List ℕ) → ¬ IsLengthName name → is_length_name (matched (Some 0) name) ≡ false
    no-length name other =
        elim (cases_Bool (is_length_name (matched (Some 0) name))) [
          | inl says ↦ absurd (other (length-name-is name says))
          | inr none ↦ none
        ]

-- ---- the line of the length

pub blanks-read : (k : ℕ) (rest : List ℕ)
    → head (Digits 0 0) (replicate k 32 ++ rest) ≡ later k (head (Digits 0 0) rest)
blanks-read zero rest = sym (later-zero (head (Digits 0 0) rest))
blanks-read (suc k) rest =
    one-more k (Digits 0 0) (Digits 0 0) 32 (replicate k 32 ++ rest) (head (Digits 0 0) rest) refl (blanks-read k rest)

pub digit_value_of : (b : ℕ) → digit_value b < 10 → (48 ≤ b) × (b ≤ 57) × (digit_value b ≡ b - 48)
digit_value_of b small =
    let range = digit_from_value b small in
    let low : 48 ≤ b = range.0 in
    let high : b ≤ 57 = omega (arith, range.1) in
    let below : b < 58 = omega arith in
    (low, high, rw (le-ltb b 48 low, lt-ltb b 58 below) refl)

value-grows : (value : ℕ) (ds : List ℕ) → value ≤ digits_value_after 10 value ds
value-grows value [] = omega arith
value-grows value (d ∷ ds) = omega (arith, value-grows (value * 10 + digit_value d) ds)

pub digits-read : (ds : List ℕ) (count value : ℕ) (rest : List ℕ) → AllDigits 10 ds → count + length ds ≤ 10
    → digits_value_after 10 value ds ≤ 16777216
    → head (Digits count value) (ds ++ rest) ≡ later (length ds)
    (head (Digits (count + length ds) (digits_value_after 10 value ds)) rest)
digits-read [] count value rest all room small =
    ap (λ (c : ℕ). head (Digits c value) rest) (omega arith) ∙ sym (later-zero (head (Digits (count + 0) value) rest))
digits-read (d ∷ ds) count value rest all room small =
    let digit = digit_value_of d all.0 in
    let next : ℕ = value * 10 + digit_value d in
    let fits : next ≤ 16777216 = omega (arith, value-grows next ds) in
    let same : with_digit value d ≡ next = omega (arith, digit.2) in
    let is : is_digit d ≡ true = and_from (leb 48 d) (leb d 57) (le-leb 48 d digit.0) (le-leb d 57 digit.1) in
    let inside : ltb LONGEST_BODY (with_digit value d) ≡ false = le-ltb 16777216 (with_digit value d) (omega arith) in
    let fewer : ltb count MOST_DIGITS ≡ true = lt-ltb count 10 (omega arith) in
    let goes : step (Digits count value) d ≡ Goes (Digits (count + 1) next) =
    rw (is, inside, fewer) (ap (λ (v : ℕ). Goes (Digits (count + 1) v)) same) in
    one-more (length ds) (Digits count value) (Digits (count + 1) next) d (ds ++ rest)
    (head (Digits (count + 1 + length ds) (digits_value_after 10 next ds)) rest) goes
    (digits-read ds (count + 1) next rest all.1 (omega arith) small)
    ∙ ap (λ (c : ℕ). later (suc (length ds)) (head (Digits c (digits_value_after 10 next ds)) rest)) (omega arith)

digits-end : (count value : ℕ) (rest : List ℕ) → 0 < count
    → head (Digits count value) (13 ∷ 10 ∷ rest) ≡ later 2 (head (Line (Some value)) rest)
digits-end count value rest some =
    let goes : step (Digits count value) 13 ≡ Goes (LineEnd (Some value)) = rw (lt-ltb 0 count some) refl in
    ap (λ s. after_step s (λ u. head u (10 ∷ rest))) goes ∙ later-later 1 1 (head (Line (Some value)) rest)

-- blanks and digits, and the end of the line
number-read : (blanks : ℕ) (digits : List ℕ) (n : ℕ) (rest : List ℕ) → AllDigits 10 digits → 0 < length digits
    → length digits ≤ 10
    → digits_value 10 digits ≡ n → n ≤ 16777216
    → head (Digits 0 0) (replicate blanks 32 ++ (digits ++ 13 ∷ 10 ∷ rest)) ≡ later (blanks + (length digits + 2))
    (head (Line (Some n)) rest)
number-read blanks digits n rest all some short value bounded =
    let fits : digits_value_after 10 0 digits ≤ 16777216 = omega (arith, value) in
    blanks-read blanks (digits ++ 13 ∷ 10 ∷ rest)
    ∙ ap (later blanks) (digits-read digits 0 0 (13 ∷ 10 ∷ rest) all (omega arith) fits)
    ∙ ap (λ (h : Head). later blanks (later (length digits) h))
    (digits-end (0 + length digits) (digits_value_after 10 0 digits) rest (omega arith))
    ∙ ap (later blanks) (later-later (length digits) 2 (head (Line (Some (digits_value_after 10 0 digits))) rest))
    ∙ later-later blanks (length digits + 2) (head (Line (Some (digits_value_after 10 0 digits))) rest)
    ∙ ap (λ (v : ℕ). later (blanks + (length digits + 2)) (head (Line (Some v)) rest)) value

pub length-read : (line : List ℕ) (n : ℕ) (rest : List ℕ) → IsLengthLine line n
    → head (Line None) (line ++ rest) ≡ later (length line) (head (Line (Some n)) rest)
length-read line n rest is =
    let number : List ℕ = replicate is.blanks 32 ++ is.digits in
    let after : List ℕ = number ++ 13 ∷ 10 ∷ rest in
    let count : length number ≡ is.blanks + length is.digits =
    length-append (replicate is.blanks 32) is.digits ∙ ap (λ (k : ℕ). k + length is.digits)
    (length-replicate is.blanks 32) in
    let text : line ≡ is.name ++ codes ":" ++ number ++ codes "\r\n" =
    is.text ∙ ap (λ (l : List ℕ). l ++ codes "\r\n")
    (append_assoc (is.name ++ codes ":") (replicate is.blanks 32) is.digits) in
    ap (λ (l : List ℕ). head (Line None) (l ++ rest)) text ∙ ap (head (Line None)) (line-parts is.name number rest)
    ∙ name-starts is.name None after is.is_name
    ∙ ap (λ (t : Bool). later (length is.name) (after_step (behind_name None t) (λ u. head u after)))
    (length-name-true is.name is.says_length)
    ∙ ap (λ (l : List ℕ). later (length is.name) (later 1 (head (Digits 0 0) l)))
    (append_assoc (replicate is.blanks 32) is.digits (13 ∷ 10 ∷ rest))
    ∙ ap (λ (h : Head). later (length is.name) (later 1 h))
    (number-read is.blanks is.digits n rest is.numeral.1 is.numeral.0 is.short is.value is.bounded)
    ∙ three (length is.name) (is.blanks + (length is.digits + 2)) (head (Line (Some n)) rest)
    ∙ ap (λ (k : ℕ). later k (head (Line (Some n)) rest))
    (omega (arith, ap length text, line-length is.name number, count))

-- ---- all lines

pub lines-read : (lines : List (List ℕ)) (said : Option ℕ) (n : ℕ) (rest : List ℕ) → AreLines said lines n
    → head (Line said) ((joined lines ++ codes "\r\n") ++ rest) ≡ heads.Ends n (length (joined lines) + 2)
lines-read [] said n rest are = ap (λ (s : Option ℕ). head (Line s) (13 ∷ 10 ∷ rest)) are
lines-read (line ∷ lines) said n rest are =
    ap (head (Line said))
    (ap (λ (l : List ℕ). l ++ rest) (append_assoc line (joined lines) (codes "\r\n")) ∙ append_assoc line
    (joined lines ++ codes "\r\n") rest)
    ∙ by are (λ s. lines-read lines s n rest)
    ∙ ap (λ (k : ℕ). heads.Ends n k) (omega (arith, length-append line (joined lines)))
  where
    by : AreLines said (line ∷ lines) n
        → ((s : Option ℕ) → AreLines s lines n → head (Line s) ((joined lines ++ codes "\r\n") ++ rest) ≡ heads.Ends n
        (length (joined lines) + 2))
        → head (Line said) (line ++ ((joined lines ++ codes "\r\n") ++ rest)) ≡ heads.Ends n
        (length line + (length (joined lines) + 2))
    by (inl o) next =
        other-read line said ((joined lines ++ codes "\r\n") ++ rest) o.0 ∙ ap (later (length line)) (next said o.1)
    by (inr l) next =
        ap (λ (s : Option ℕ). head (Line s) (line ++ ((joined lines ++ codes "\r\n") ++ rest))) l.0
        ∙ length-read line l.1 ((joined lines ++ codes "\r\n") ++ rest) l.2 ∙ ap (later (length line))
        (next (Some l.1) l.3)

-- A header is read as one, whatever follows it.
pub header-read : (header : List ℕ) (n : ℕ) (more : List ℕ) → IsLongHeader header n
    → head (Line None) (header ++ more) ≡ heads.Ends n (length header)
header-read header n more is =
    ap (λ (l : List ℕ). head (Line None) (l ++ more)) is.text ∙ lines-read is.lines None n more is.are_lines
    ∙ ap (λ (k : ℕ). heads.Ends n k) (omega (arith, ap length is.text, length-append (joined is.lines) (codes "\r\n")))
