-- Which rule a text is: a condition, a hit condition or a log message (DAP specification, Types, SourceBreakpoint,
-- condition, hitCondition and logMessage).
use Rattle.std.specs.Prelude.{◌≡◌, ◌≢◌, ℕ, ℤ, pos, neg_ℤ, ◌<◌, ◌≤◌, ◌^◌, List, [], ◌∷◌, ◌++◌, length, codes}
use Rattle.std.specs.Prelude.{true, false, Option, None, Some}
use Rattle.std.specs.List.{AllByRecursion}
use Rattle.std.specs.Str.Parse.{AllDigits, digits_value}
use Rattle.field_exprs.specs.Grammar.{AreBlanks, IsExpr}
use Rattle.field_exprs.specs.declared.expr.Expr.{Expr}
use Rattle.break_rules.specs.declared.rule.Comparison.{Comparison}
use Rattle.break_rules.specs.declared.rule.Comparison.TheVariants as compare
use Rattle.break_rules.specs.declared.rule.Condition.{Condition}
use Rattle.break_rules.specs.declared.rule.Hit.{Hit}
use Rattle.break_rules.specs.declared.rule.HitRule.{HitRule}
use Rattle.break_rules.specs.declared.rule.HitRule.TheVariants as counts
use Rattle.break_rules.specs.declared.rule.Part.{Part}
use Rattle.break_rules.specs.declared.rule.Part.TheVariants as parts
use Rattle.break_rules.specs.declared.rule.Piece.{Piece}
use Rattle.break_rules.specs.declared.rule.Piece.TheVariants.{Plain as a_plain, Path as a_path}
use Rattle.break_rules.specs.declared.rule.Template.{Template}

-- the most bytes of a rule
abbrev pub longest_rule : ℕ
longest_rule = 4096

-- a text is this one between blanks
pub record IsBetween (text core : List ℕ) : Type 0 where
  pub before : List ℕ
  pub behind : List ℕ
  pub parts : text ≡ before ++ core ++ behind
  pub blank_before : AreBlanks before
  pub blank_behind : AreBlanks behind

-- Conditions ----------------------------------------------------------------------------------------------------------

-- 1 to 20 digits, of this value
pub record IsDigits (digits : List ℕ) (most n : ℕ) : Type 0 where
  pub digital : AllDigits 10 digits
  pub some : digits ≢ []
  pub short : length digits ≤ most
  pub value : digits_value 10 digits ≡ n

-- a whole number of 64 bits: digits, and `-` before those of one that isn't positive
pub data IsWhole : List ℕ → ℤ → Type 0 where
  unsigned : {digits : List ℕ} {n : ℕ} → IsDigits digits 20 n → n < 2 ^ 63 → IsWhole digits (pos n)
  signed : {digits : List ℕ} {n : ℕ} → IsDigits digits 20 n → n ≤ 2 ^ 63
      → IsWhole (codes "-" ++ digits) (neg_ℤ (pos n))

-- words that stand for values where they stand alone (Java Language Specification, Lexical Structure, Boolean Literals
-- and The Null Literal)
pub data IsLiteral : List ℕ → Part → Type 0 where
  whole : {text : List ℕ} {n : ℤ} → IsWhole text n → IsLiteral text (parts.Number n)
  is_true : IsLiteral (codes "true") (parts.Truth true)
  is_false : IsLiteral (codes "false") (parts.Truth false)
  is_null : IsLiteral (codes "null") parts.Null

-- a side of a condition: a literal, or an expression that is none
pub data IsPart (text : List ℕ) : Part → Type 0 where
  literal : {core : List ℕ} {part : Part} → IsBetween text core → IsLiteral core part → IsPart text part
  path : {e : Expr} → IsExpr text e
      → ((core : List ℕ) (part : Part) → IsBetween text core → ¬ IsLiteral core part) → IsPart text (parts.Path e)

-- how a comparison is written (Java Language Specification, Expressions, Relational Operators and Equality Operators)
abbrev pub sign_of : Comparison → List ℕ
sign_of compare.Equal = codes "=="
sign_of compare.Unequal = codes "!="
sign_of compare.Less = codes "<"
sign_of compare.LessEqual = codes "<="
sign_of compare.Greater = codes ">"
sign_of compare.GreaterEqual = codes ">="

-- one side alone, or two with a comparison between them
abbrev pub IsSides : List ℕ → Part → Option (Comparison × Part) → Type 0
IsSides text left None = IsPart text left
IsSides text left (Some rest) =
    (first second : List ℕ) × (text ≡ first ++ sign_of rest.0 ++ second) × IsPart first left × IsPart second rest.1

-- A text is a condition, of at most so many bytes.
pub record IsCondition (text : List ℕ) (condition : Condition) : Type 0 where
  pub short : length text ≤ longest_rule
  pub sides : IsSides text condition.left condition.rest

-- Hit conditions ------------------------------------------------------------------------------------------------------

-- how a rule of counts is written; `==` may be left out
pub data IsSign : List ℕ → HitRule → Type 0 where
  left_out : IsSign [] counts.Equal
  equal : IsSign (codes "==") counts.Equal
  at_least : IsSign (codes ">=") counts.AtLeast
  above : IsSign (codes ">") counts.Above
  at_most : IsSign (codes "<=") counts.AtMost
  less : IsSign (codes "<") counts.Below
  multiple : IsSign (codes "%") counts.Multiple

-- A text is a hit condition: a sign, and 1 to 10 digits, of a value from 1 to 2 ^ 31 - 1, between blanks.
pub record IsHit (text : List ℕ) (hit : Hit) : Type 0 where
  pub short : length text ≤ longest_rule
  pub first : List ℕ
  pub second : List ℕ
  pub sign : List ℕ
  pub digits : List ℕ
  pub parts : text ≡ first ++ second
  pub at_sign : IsBetween first sign
  pub at_digits : IsBetween second digits
  pub is_sign : IsSign sign hit.rule
  pub is_count : IsDigits digits 10 hit.count
  pub some : 0 < hit.count
  pub small : hit.count < 2 ^ 31

-- Log messages --------------------------------------------------------------------------------------------------------

-- a byte isn't this one
abbrev pub IsNot : ℕ → ℕ → Type 0
IsNot other byte = byte ≢ other

-- the next piece isn't plain, or there is none
abbrev pub NoPlain : List Piece → Type 0
NoPlain [] = Unit {0}
NoPlain (a_plain text ∷ others) = ⊥
NoPlain (a_path e ∷ others) = Unit {0}

-- Pieces one behind the other: plain text without `{`, as far as it goes; or an expression in braces, which ends at the
-- next `}`.
abbrev pub ArePieces : List ℕ → List Piece → Type 0
ArePieces text [] = text ≡ []
ArePieces text (a_plain front ∷ others) =
    (rest : List ℕ) × (text ≡ front ++ rest) × (front ≢ []) × AllByRecursion (IsNot 123) front × NoPlain others
    × ArePieces rest others
ArePieces text (a_path e ∷ others) =
    (inner rest : List ℕ) × (text ≡ codes "{" ++ inner ++ codes "}" ++ rest) × AllByRecursion (IsNot 125) inner
    × IsExpr inner e × ArePieces rest others

-- A text is a log message.
pub record IsTemplate (text : List ℕ) (template : Template) : Type 0 where
  pub short : length text ≤ longest_rule
  pub pieces : ArePieces text template.pieces
