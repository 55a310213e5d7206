-- Bits of a value as text: `0x`, and lower-case hexadecimal digits without leading zeros.
use Rattle.std.specs.Prelude.{ℕ, ◌+◌, ◌-◌, ◌*◌, ◌^◌, ◌==◌, ◌&&◌, ◌++◌, nat_lt, not, Bool, true, false, if◌then◌else◌}
use Rattle.std.specs.Prelude.{List, [], ◌∷◌, codes, Option, Some, None, option_map, option_and_then}
use Rattle.std.specs.Fmt.{digits}
use Rattle.std.specs.Int.{is_in_range}

-- the text of bits
unfoldable pub bits_text : ℕ → List ℕ
bits_text n = codes "0x" ++ digits 16 false n

-- the value of a digit, where the letters are lower-case
abbrev pub digit_of : ℕ → Option ℕ
digit_of c =
    if is_in_range 48 57 c then Some (c - 48) else (if is_in_range 97 102 c then Some (c - 87) else None)

-- the number that a digit more makes, where it has 64 bits
abbrev pub with_digit : ℕ → ℕ → Option ℕ
with_digit n c = if nat_lt n (2 ^ 60) then option_map (λ digit. n * 16 + digit) (digit_of c) else None

-- the number that digits go on with
abbrev pub number_on : ℕ → List ℕ → Option ℕ
number_on n [] = Some n
number_on n (c ∷ cs) = option_and_then (λ m. number_on m cs) (with_digit n c)

-- at least one digit, and no zero in front of another
abbrev pub is_bare : List ℕ → Bool
is_bare [] = false
is_bare (c ∷ []) = true
is_bare (c ∷ next ∷ cs) = not (c == 48)

-- the number of digits: of one to sixteen, since they have no leading zeros
abbrev pub number_of : List ℕ → Option ℕ
number_of cs = if is_bare cs then number_on 0 cs else None

-- the bits of a text, where it is one of bits
unfoldable pub bits_of : List ℕ → Option ℕ
bits_of [] = None
bits_of (a ∷ []) = None
bits_of (a ∷ b ∷ cs) = if (a == 48) && (b == 120) then number_of cs else None
