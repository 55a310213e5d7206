-- Which expression a text is: a name or `this`, then any number of `.` with a name and `[` with an index and `]`.
-- Blanks stand before it and behind it, and none inside (Java Language Specification, Expressions, Field Access
-- Expressions and Array Access Expressions).
use Rattle.std.specs.Prelude.{◌≡◌, ◌≢◌, ℕ, ◌≤◌, nat_le, List, [], ◌∷◌, ◌++◌, length, codes}
use Rattle.std.specs.Prelude.{Bool, ◌==◌, ◌||◌, IsTrue}
use Rattle.std.specs.Char.{is_ascii_alphabetic, is_ascii_digit}
use Rattle.std.specs.List.{AllByRecursion}
use Rattle.std.specs.Str.Parse.{AllDigits, digits_value}
use Rattle.field_exprs.specs.declared.expr.Expr.{Expr}
use Rattle.field_exprs.specs.declared.expr.Head.{Head}
use Rattle.field_exprs.specs.declared.expr.Head.TheVariants.{This, Name}
use Rattle.field_exprs.specs.declared.expr.Hop.{Hop}
use Rattle.field_exprs.specs.declared.expr.Hop.TheVariants.{Field, Index}

-- a blank is a space or a tab
abbrev pub is_blank : ℕ → Bool
is_blank byte = byte == 32 || byte == 9

-- a word begins with a letter, `_`, `$` or a character outside ASCII, whose bytes are 128 and above (Java Language
-- Specification, Lexical Structure, Identifiers)
abbrev pub begins_name : ℕ → Bool
begins_name byte = is_ascii_alphabetic byte || byte == 95 || byte == 36 || nat_le 128 byte

-- and goes on with these and with digits
abbrev pub is_in_name : ℕ → Bool
is_in_name byte = begins_name byte || is_ascii_digit byte

-- only blanks, or nothing
abbrev pub AreBlanks : List ℕ → Type 0
AreBlanks text = AllByRecursion (λ byte. IsTrue (is_blank byte)) text

-- a word: one or more such bytes, the first one no digit
abbrev pub IsWord : List ℕ → Type 0
IsWord [] = ⊥
IsWord (byte ∷ bytes) = IsTrue (begins_name byte) × AllByRecursion (λ next. IsTrue (is_in_name next)) bytes

-- a name is a word but `this` (Java Language Specification, Lexical Structure, Keywords)
abbrev pub IsName : List ℕ → Type 0
IsName name = IsWord name × (name ≢ codes "this")

-- digits that an index may begin with: at most ten, of at most 2 ^ 31 - 1, which is the greatest index of an array
-- (Java Language Specification, Arrays, Array Access)
pub record BeginsIndex (digits : List ℕ) : Type 0 where
  pub digital : AllDigits 10 digits
  pub short : length digits ≤ 10
  pub small : digits_value 10 digits ≤ 2147483647

-- a head is `this` or a name
abbrev pub IsHead : List ℕ → Head → Type 0
IsHead text This = text ≡ codes "this"
IsHead text (Name name) = (text ≡ name) × IsName name

-- a hop is `.` and a name, or `[`, one digit or more, and `]`
abbrev pub IsHop : List ℕ → Hop → Type 0
IsHop text (Field name) = (text ≡ codes "." ++ name) × IsName name
IsHop text (Index n) = (digits : List ℕ) × (text ≡ codes "[" ++ digits ++ codes "]") × BeginsIndex digits
    × (digits ≢ []) × (digits_value 10 digits ≡ n)

-- steps are hops one behind the other, and blanks behind the last
abbrev pub AreSteps : List ℕ → List Hop → Type 0
AreSteps text [] = AreBlanks text
AreSteps text (hop ∷ hops) =
    (first : List ℕ) × (rest : List ℕ) × (text ≡ first ++ rest) × IsHop first hop × AreSteps rest hops

-- A text is an expression: blanks, its head, and its steps.
pub record IsExpr (text : List ℕ) (e : Expr) : Type 0 where
  pub blanks : List ℕ
  pub head : List ℕ
  pub steps : List ℕ
  pub parts : text ≡ blanks ++ (head ++ steps)
  pub before : AreBlanks blanks
  pub at_head : IsHead head e.head
  pub behind : AreSteps steps e.steps
