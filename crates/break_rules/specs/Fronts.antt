-- What the calls find at the front of a text.
use Rattle.std.specs.Prelude.{◌≡◌, ℕ, ◌^◌, ◌-◌, min, List, map, Option, None, Some, option_map, Result, Ok, Err}
use Rattle.std.specs.Borrow.{Bor}
use Rattle.break_rules.specs.Parsing.{behind_sign, digits_in, in_braces, piece_at, sign_in}
use Rattle.break_rules.specs.declared.rule.Piece.{Piece}
use Rattle.break_rules.specs.declared.rule.RuleFault.{RuleFault}
use Rattle.break_rules.specs.declared.rule.RuleFault.TheVariants.{NoMemory, Outside}

-- digits were found, as a number, or 2 ^ 64 - 1 where it is greater
abbrev pub HasDigits : ℕ → List ℕ → Option ℕ → Type 0
HasDigits most text found = found ≡ option_map (λ n. min n (2 ^ 64 - 1)) (digits_in most text)

-- what stands behind a sign was found
abbrev pub IsBehind : List ℕ → List ℕ → Option (Bor (List ℕ)) → Type 0
IsBehind sign text found = option_map (λ rest. rest.now) found ≡ behind_sign sign text

-- a sign of a table was found
abbrev pub IsSignIn : {A : Type 0} → List (Bor (List ℕ) × A) → List ℕ → Option (A × Bor (List ℕ)) → Type 0
IsSignIn signs text found =
    option_map (λ sign. (sign.0, sign.1.now)) found ≡ sign_in (map (λ sign. (sign.0.now, sign.1)) signs) text

-- a piece was read, or the end was met, where memory was not refused
abbrev pub IsPieceRead : List ℕ → Result (Option (Piece × Bor (List ℕ))) RuleFault → Type 0
IsPieceRead text (Ok found) = piece_at text ≡ Some (option_map (λ piece. (piece.0, piece.1.now)) found)
IsPieceRead text (Err NoMemory) = Unit {0}
IsPieceRead text (Err Outside) = piece_at text ≡ None

-- an expression in braces was read, where memory was not refused
abbrev pub IsBraced : List ℕ → Result (Piece × Bor (List ℕ)) RuleFault → Type 0
IsBraced inside (Ok piece) = in_braces inside ≡ Some (Some (piece.0, piece.1.now))
IsBraced inside (Err NoMemory) = Unit {0}
IsBraced inside (Err Outside) = in_braces inside ≡ None
