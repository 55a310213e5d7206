-- What a text is read as, worked out from its front to its end. `word_at`, `field_at` and `index_at` give what stands
-- at the front of a text and what is left behind it, `steps_at` and `expr_at` what a whole text is. Where a text goes
-- wrong each gives what is left of it there (Java Language Specification, Expressions, Field Access Expressions and
-- Array Access Expressions).
use Rattle.std.specs.Prelude.{◌≡◌, ℕ, zero, suc, ◌-◌, min, nat_le, Bool, ◌==◌, if◌then◌else◌, List, [], ◌∷◌, length}
use Rattle.std.specs.Prelude.{take, drop, take_while, bytes_eq, codes, Option, None, Some, Result, Ok, Err}
use Rattle.std.specs.Char.{is_digit}
use Rattle.std.specs.List.{prefix_len}
use Rattle.std.specs.Str.Parse.{digits_value}
use Rattle.field_exprs.specs.declared.expr.Expr.{Expr}
use Rattle.field_exprs.specs.declared.expr.ExprFault.{ExprFault}
use Rattle.field_exprs.specs.declared.expr.ExprFault.TheVariants.{NoMemory, At}
use Rattle.field_exprs.specs.declared.expr.Head.{Head}
use Rattle.field_exprs.specs.declared.expr.Head.TheVariants.{This, Name}
use Rattle.field_exprs.specs.declared.expr.Hop.{Hop}
use Rattle.field_exprs.specs.declared.expr.Hop.TheVariants.{Field, Index}
use Rattle.field_exprs.specs.Grammar.{is_blank, begins_name, is_in_name}
use Rattle.field_exprs.specs.Reading.{longest_text, told_place}

-- what was read is handed on, and where it goes wrong stays
infixl 10 ◌>>=◌
abbrev pub ◌>>=◌ : {A B : Type 0} → Result A (List ℕ) → (A → Result B (List ℕ)) → Result B (List ℕ)
(Ok x) >>= f = f x
(Err left) >>= f = Err left

-- what is left behind the bytes at the front that pass a test, up to the first that fails it
abbrev pub behind : (ℕ → Bool) → List ℕ → List ℕ
behind test text = drop (prefix_len test text) text

-- the word at the front, up to the first byte in none (Java Language Specification, Lexical Structure, Identifiers)
abbrev pub word_at : List ℕ → Result (List ℕ × List ℕ) (List ℕ)
word_at [] = Err []
word_at (byte ∷ bytes) =
    if begins_name byte then Ok (take_while is_in_name (byte ∷ bytes), behind is_in_name (byte ∷ bytes))
    else Err (byte ∷ bytes)

-- a word is `this` or a name (Java Language Specification, Lexical Structure, Keywords)
abbrev pub head_of : List ℕ → Head
head_of word = if bytes_eq word (codes "this") then This else Name word

-- a word but `this` is a field
abbrev pub field_of : List ℕ × List ℕ → Result (Hop × List ℕ) (List ℕ)
field_of word = if bytes_eq word.0 (codes "this") then Err word.1 else Ok (Field word.0, word.1)

-- a field, of a text behind `.`
abbrev pub field_at : List ℕ → Result (Hop × List ℕ) (List ℕ)
field_at text = word_at text >>= field_of

-- so many digits, or nine where their number is above 2 ^ 31 - 1, the greatest index of an array
abbrev pub no_greater : List ℕ → ℕ → ℕ
no_greater text n = if nat_le (digits_value 10 (take n text)) 2147483647 then n else 9

-- how many digits at the front an index begins with: all that stand there, but ten at most
abbrev pub index_len : List ℕ → ℕ
index_len text = no_greater text (min 10 (prefix_len (λ byte. is_digit byte 10) text))

-- digits are an index if there are any, and `]` stands behind them
abbrev pub index_of : List ℕ → List ℕ → Result (Hop × List ℕ) (List ℕ)
index_of [] left = Err left
index_of (digit ∷ digits) [] = Err []
index_of (digit ∷ digits) (byte ∷ left) =
    if byte == 93 then Ok (Index (digits_value 10 (digit ∷ digits)), left) else Err (byte ∷ left)

-- an index, of a text behind `[` (Java Language Specification, Arrays, Array Access)
abbrev pub index_at : List ℕ → Result (Hop × List ℕ) (List ℕ)
index_at text = index_of (take (index_len text) text) (drop (index_len text) text)

-- the hop that the first byte says: `.` begins a field and `[` an index, and no other byte begins one
abbrev pub hop_at : List ℕ → Option (Result (Hop × List ℕ) (List ℕ))
hop_at [] = None
hop_at (byte ∷ text) =
    if byte == 46 then Some (field_at text) else if byte == 91 then Some (index_at text) else None

-- no hop is left, and nothing else may be
abbrev pub none_left : List ℕ → Result (List Hop) (List ℕ)
none_left [] = Ok []
none_left (byte ∷ bytes) = Err (byte ∷ bytes)

-- a hop and the steps behind it, or blanks up to the end
abbrev pub steps_by : (List ℕ → Result (List Hop) (List ℕ)) → List ℕ → Option (Result (Hop × List ℕ) (List ℕ))
    → Result (List Hop) (List ℕ)
steps_by steps text None = none_left (behind is_blank text)
steps_by steps text (Some hop) = hop >>= λ first. steps first.1 >>= λ hops. Ok (first.0 ∷ hops)

-- the steps that a text of at most n bytes is; each hop takes a byte or more
unfoldable pub steps_at : ℕ → List ℕ → Result (List Hop) (List ℕ)
steps_at zero text = Ok []
steps_at (suc n) text = steps_by (λ left. steps_at n left) text (hop_at text)

-- the expression that a text of any length is: blanks, a word, and steps
abbrev pub expr_at : List ℕ → Result Expr (List ℕ)
expr_at text =
    word_at (behind is_blank text) >>= λ word.
    steps_at (length word.1) word.1 >>= λ hops.
    Ok (record { head = head_of word.0; steps = hops })

-- an expression is refused where its text is too long, and any other text before what is left of it
abbrev pub parsed_by : List ℕ → Result Expr (List ℕ) → Result Expr ℕ
parsed_by text (Ok e) = if nat_le (length text) longest_text then Ok e else Err longest_text
parsed_by text (Err left) = Err (told_place (length text - length left))

-- What a text is read as: the expression that it is, or the place that is told where it is refused.
unfoldable pub parsed : List ℕ → Result Expr ℕ
parsed text = parsed_by text (expr_at text)

-- what a text is parsed as, as `parse` gives it
abbrev pub as_read : Result Expr ℕ → Result Expr ExprFault
as_read (Ok e) = Ok e
as_read (Err place) = Err (At place)

-- a text was read as it is parsed, where memory was not refused
abbrev pub IsParsed : List ℕ → Result Expr ExprFault → Type 0
IsParsed text (Ok e) = parsed text ≡ Ok e
IsParsed text (Err NoMemory) = Unit {0}
IsParsed text (Err (At place)) = parsed text ≡ Err place
