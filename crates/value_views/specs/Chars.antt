-- How a char is read from the bytes between its quotes. Which char a text is says `char_in`: the one that is shown so.
use Rattle.std.specs.Prelude.{ℕ, ◌+◌, ◌-◌, ◌*◌, List, [], ◌∷◌, ◌==◌, ◌||◌, if◌then◌else◌}
use Rattle.std.specs.Prelude.{Option, Some, None, option_and_then}
use Rattle.std.specs.Int.{is_in_range}

-- the value of a digit in lower-case hexadecimal
abbrev pub hex_value : ℕ → Option ℕ
hex_value byte =
    if is_in_range 48 57 byte then Some (byte - 48) else
    (if is_in_range 97 102 byte then Some (byte - 87) else None)

-- the number that digits go on with
abbrev pub hex_after : ℕ → List ℕ → Option ℕ
hex_after n [] = Some n
hex_after n (byte ∷ bytes) = option_and_then (λ digit. hex_after (n * 16 + digit) bytes) (hex_value byte)

-- a number that is no printing char's
abbrev pub unprinted : ℕ → Option ℕ
unprinted n = if is_in_range 32 126 n then None else Some n

-- the char of four digits
abbrev pub escaped_in : List ℕ → Option ℕ
escaped_in [] = None
escaped_in (a ∷ []) = None
escaped_in (a ∷ b ∷ []) = None
escaped_in (a ∷ b ∷ c ∷ []) = None
escaped_in (a ∷ b ∷ c ∷ d ∷ []) = option_and_then unprinted (hex_after 0 (a ∷ b ∷ c ∷ d ∷ []))
escaped_in (a ∷ b ∷ c ∷ d ∷ e ∷ bytes) = None

-- the char behind `\`: a quote, another `\`, or one by its number
abbrev pub behind_backslash : List ℕ → Option ℕ
behind_backslash [] = None
behind_backslash (byte ∷ []) = if byte == 39 || (byte == 92) then Some byte else None
behind_backslash (byte ∷ next ∷ bytes) = if byte == 117 then escaped_in (next ∷ bytes) else None

-- a printing char that needs no `\`
abbrev pub alone : ℕ → List ℕ → Option ℕ
alone byte [] = if byte == 39 then None else (if is_in_range 32 126 byte then Some byte else None)
alone byte (next ∷ bytes) = None

-- the char between quotes
abbrev pub unquoted : List ℕ → Option ℕ
unquoted [] = None
unquoted (byte ∷ bytes) = if byte == 92 then behind_backslash bytes else alone byte bytes
