-- The number of a script, as it is given: 1 to 4 decimal digits, with a value from 1 to 1,000.
use Rattle.std.specs.Prelude.{ℕ, ◌+◌, ◌-◌, ◌*◌, nat_eq, nat_le, ◌&&◌, if◌then◌else◌, List, [], ◌∷◌, length, Option, Some, None}
use Rattle.std.specs.Prelude.{option_and_then}

-- the number of a digit more, where it is at most 1,000
abbrev pub digit_behind : ℕ → ℕ → Option ℕ
digit_behind number byte = if nat_le 48 byte && nat_le byte 57
    then (if nat_le (number * 10 + (byte - 48)) 1000 then Some (number * 10 + (byte - 48)) else None) else None

-- the number of decimal digits behind a number, where it is at most 1,000
abbrev pub number_behind : ℕ → List ℕ → Option ℕ
number_behind number [] = Some number
number_behind number (byte ∷ bytes) =
    option_and_then (λ next. number_behind next bytes) (digit_behind number byte)

-- a number that isn't 0
abbrev pub if_some : ℕ → Option ℕ
if_some number = if nat_eq number 0 then None else Some number

-- the number that a text is
unfoldable pub number_in : List ℕ → Option ℕ
number_in text = if nat_le (length text) 4 then option_and_then if_some (number_behind 0 text) else None
