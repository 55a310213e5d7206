-- What a text is read as, worked out from its front to its end.
use Rattle.std.specs.Prelude.{◌≡◌, true, false, ℕ, ℤ, zero, suc, pos, neg_ℤ, ◌^◌, nat_le, nat_lt, Bool, ◌==◌, ◌||◌, ◌&&◌}
use Rattle.std.specs.Prelude.{not, if◌then◌else◌, List, [], ◌∷◌, length, take, reverse, bytes_eq, codes}
use Rattle.std.specs.Prelude.{Option, None, Some, option_map, option_and_then, Result, Ok, Err}
use Rattle.std.specs.Char.{is_ascii_digit}
use Rattle.std.specs.List.{list_all, prefix_len}
use Rattle.std.specs.Str.Parse.{digits_value}
use Rattle.field_exprs.specs.Grammar.{is_blank}
use Rattle.field_exprs.specs.Parsing.{behind, parsed}
use Rattle.field_exprs.specs.declared.expr.Expr.{Expr}
use Rattle.break_rules.specs.Grammar.{longest_rule}
use Rattle.break_rules.specs.declared.rule.Comparison.{Comparison}
use Rattle.break_rules.specs.declared.rule.Comparison.TheVariants as compare
use Rattle.break_rules.specs.declared.rule.Condition.{Condition}
use Rattle.break_rules.specs.declared.rule.Hit.{Hit}
use Rattle.break_rules.specs.declared.rule.HitRule.{HitRule}
use Rattle.break_rules.specs.declared.rule.HitRule.TheVariants as counts
use Rattle.break_rules.specs.declared.rule.Part.{Part}
use Rattle.break_rules.specs.declared.rule.Part.TheVariants as parts
use Rattle.break_rules.specs.declared.rule.Piece.{Piece}
use Rattle.break_rules.specs.declared.rule.Piece.TheVariants.{Plain as a_plain, Path as a_path}
use Rattle.break_rules.specs.declared.rule.RuleFault.{RuleFault}
use Rattle.break_rules.specs.declared.rule.RuleFault.TheVariants.{NoMemory, Outside}
use Rattle.break_rules.specs.declared.rule.Template.{Template}

-- without the blanks before it and behind it
abbrev pub core_of : List ℕ → List ℕ
core_of text = reverse (behind is_blank (reverse (behind is_blank text)))

-- digits at most so many, as a number
abbrev pub has_digits : ℕ → List ℕ → Bool
has_digits most text = nat_lt 0 (length text) && nat_le (length text) most && list_all is_ascii_digit text

abbrev pub digits_in : ℕ → List ℕ → Option ℕ
digits_in most text = if has_digits most text then Some (digits_value 10 text) else None

-- a rule that isn't too long
abbrev pub if_short : {A : Type 0} → List ℕ → Option A → Option A
if_short text read = if nat_le (length text) longest_rule then read else None

-- what a text has behind a sign that it begins with
abbrev pub behind_sign : List ℕ → List ℕ → Option (List ℕ)
behind_sign [] text = Some text
behind_sign (byte ∷ bytes) [] = None
behind_sign (byte ∷ bytes) (first ∷ rest) = if first == byte then behind_sign bytes rest else None

-- what a sign means, with what stands behind it, or what the signs after it say
abbrev pub sign_or : {A : Type 0} → A → Option (List ℕ) → Option (A × List ℕ) → Option (A × List ℕ)
sign_or meaning (Some rest) others = Some (meaning, rest)
sign_or meaning None others = others

-- the first of these signs that a text begins with, and what stands behind it
abbrev pub sign_in : {A : Type 0} → List (List ℕ × A) → List ℕ → Option (A × List ℕ)
sign_in [] text = None
sign_in (sign ∷ signs) text = sign_or sign.1 (behind_sign sign.0 text) (sign_in signs text)

-- Conditions ----------------------------------------------------------------------------------------------------------

-- a whole number of 64 bits
abbrev pub positive : ℕ → Option ℤ
positive n = if nat_lt n (2 ^ 63) then Some (pos n) else None

abbrev pub negative : ℕ → Option ℤ
negative n = if nat_le n (2 ^ 63) then Some (neg_ℤ (pos n)) else None

-- digits, behind `-` where the number isn't positive
abbrev pub whole_in : List ℕ → Option ℤ
whole_in [] = None
whole_in (first ∷ digits) =
    if first == 45 then option_and_then negative (digits_in 20 digits)
    else option_and_then positive (digits_in 20 (first ∷ digits))

-- an expression (DAP specification, Requests, Evaluate)
abbrev pub path_of : Result Expr ℕ → Option Part
path_of (Ok e) = Some (parts.Path e)
path_of (Err place) = None

abbrev pub whole_or : Option ℤ → List ℕ → Option Part
whole_or (Some n) text = Some (parts.Number n)
whole_or None text = path_of (parsed text)

-- a side: a word that stands for a value, a number, or an expression
abbrev pub side_by : List ℕ → List ℕ → Option Part
side_by core text =
    if bytes_eq core (codes "true") then Some (parts.Truth true)
    else (if bytes_eq core (codes "false") then Some (parts.Truth false)
    else (if bytes_eq core (codes "null") then Some parts.Null else whole_or (whole_in core) text))

abbrev pub side_of : List ℕ → Option Part
side_of text = side_by (core_of text) text

-- no side has such a byte: `=`, `!`, `<` or `>`
abbrev pub is_sign : ℕ → Bool
is_sign byte = byte == 61 || byte == 33 || byte == 60 || byte == 62

abbrev pub no_sign : ℕ → Bool
no_sign byte = not (is_sign byte)

-- how comparisons are written, a sign before those that it begins
abbrev pub comparisons : List (List ℕ × Comparison)
comparisons =
    (codes "==", compare.Equal) ∷ (codes "!=", compare.Unequal) ∷ (codes "<=", compare.LessEqual)
    ∷ (codes "<", compare.Less) ∷ (codes ">=", compare.GreaterEqual) ∷ (codes ">", compare.Greater) ∷ []

abbrev pub two_sides : Part → Comparison → Option Part → Option Condition
two_sides left comparison None = None
two_sides left comparison (Some right) = Some (record { left = left; rest = Some (comparison, right) })

abbrev pub compared_by : Part → Option (Comparison × List ℕ) → Option Condition
compared_by left None = None
compared_by left (Some sign) = two_sides left sign.0 (side_of sign.1)

-- what stands from the first sign on
abbrev pub sides_by : Part → List ℕ → Option Condition
sides_by left [] = Some (record { left = left; rest = None })
sides_by left (byte ∷ bytes) = compared_by left (sign_in comparisons (byte ∷ bytes))

abbrev pub sides_of : List ℕ → Option Condition
sides_of text =
    option_and_then (λ left. sides_by left (behind no_sign text)) (side_of (take (prefix_len no_sign text) text))

-- The condition that a text is.
unfoldable pub condition_of : List ℕ → Option Condition
condition_of text = if_short text (sides_of text)

-- Hit conditions ------------------------------------------------------------------------------------------------------

-- how rules of counts are written, a sign before those that it begins
abbrev pub count_rules : List (List ℕ × HitRule)
count_rules =
    (codes "==", counts.Equal) ∷ (codes ">=", counts.AtLeast) ∷ (codes ">", counts.Above)
    ∷ (codes "<=", counts.AtMost) ∷ (codes "<", counts.Below) ∷ (codes "%", counts.Multiple) ∷ []

-- a count from 1 to 2 ^ 31 - 1
abbrev pub counted : HitRule → ℕ → Option Hit
counted rule n =
    if nat_lt 0 n && nat_lt n (2 ^ 31) then Some (record { rule = rule; count = n }) else None

-- a count behind its sign, or alone
abbrev pub hit_by : Option (HitRule × List ℕ) → List ℕ → Option Hit
hit_by (Some sign) text = option_and_then (counted sign.0) (digits_in 10 (core_of sign.1))
hit_by None text = option_and_then (counted counts.Equal) (digits_in 10 (core_of text))

abbrev pub count_of : List ℕ → Option Hit
count_of text = hit_by (sign_in count_rules (behind is_blank text)) text

-- The hit condition that a text is.
unfoldable pub hit_of : List ℕ → Option Hit
hit_of text = if_short text (count_of text)

-- Log messages --------------------------------------------------------------------------------------------------------

abbrev pub not_open : ℕ → Bool
not_open byte = not (byte == 123)

abbrev pub not_closed : ℕ → Bool
not_closed byte = not (byte == 125)

abbrev pub path_piece : Result Expr ℕ → Option Piece
path_piece (Ok e) = Some (a_path e)
path_piece (Err place) = None

-- an expression up to the next `}`, which has to be there
abbrev pub closed_by : Piece → Option (List ℕ) → Option (Option (Piece × List ℕ))
closed_by path None = None
closed_by path (Some rest) = Some (Some (path, rest))

abbrev pub closed : Option Piece → List ℕ → Option (Option (Piece × List ℕ))
closed None left = None
closed (Some path) left = closed_by path (behind_sign (codes "}") left)

abbrev pub in_braces : List ℕ → Option (Option (Piece × List ℕ))
in_braces inside =
    closed (path_piece (parsed (take (prefix_len not_closed inside) inside))) (behind not_closed inside)

abbrev pub piece_by : List ℕ → Option (List ℕ) → Option (Option (Piece × List ℕ))
piece_by text None = Some (Some (a_plain (take (prefix_len not_open text) text), behind not_open text))
piece_by text (Some inside) = in_braces inside

-- The piece at the front, and what is left behind it: an expression behind `{`, or plain text up to the next `{`. There
-- is none at the end of a text, and a text may go wrong there.
abbrev pub piece_at : List ℕ → Option (Option (Piece × List ℕ))
piece_at [] = Some None
piece_at (byte ∷ bytes) = piece_by (byte ∷ bytes) (behind_sign (codes "{") (byte ∷ bytes))

-- a piece and those behind it
abbrev pub pieces_by : (List ℕ → Option (List Piece)) → Option (Option (Piece × List ℕ)) → Option (List Piece)
pieces_by others None = None
pieces_by others (Some None) = Some []
pieces_by others (Some (Some piece)) = option_map (λ pieces. piece.0 ∷ pieces) (others piece.1)

-- the pieces of a text of at most n bytes; each takes a byte or more
unfoldable pub pieces_at : ℕ → List ℕ → Option (List Piece)
pieces_at zero text = Some []
pieces_at (suc n) text = pieces_by (λ left. pieces_at n left) (piece_at text)

-- The log message that a text is.
abbrev pub of_pieces : List Piece → Template
of_pieces found = record { pieces = found }

unfoldable pub template_of : List ℕ → Option Template
template_of text = if_short text (option_map of_pieces (pieces_at (length text) text))

-- What the calls answer -----------------------------------------------------------------------------------------------

-- a text was read as it is parsed, where memory was not refused
abbrev pub IsRead : {A : Type 0} → Option A → Result A RuleFault → Type 0
IsRead read (Ok rule) = read ≡ Some rule
IsRead read (Err NoMemory) = Unit {0}
IsRead read (Err Outside) = read ≡ None

-- what was found, or that the text stands outside the grammar
abbrev pub or_outside : {A : Type 0} → Option A → Result A RuleFault
or_outside (Some found) = Ok found
or_outside None = Err Outside
