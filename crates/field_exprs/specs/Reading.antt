-- Where a text goes wrong that is no expression.
use Rattle.std.specs.Prelude.{◌≡◌, ℕ, ◌<◌, ◌≤◌, ◌-◌, ◌^◌, min, List, [], ◌∷◌, ◌++◌, length, Bool, false, ◌⊎◌}
use Rattle.std.specs.Prelude.{IsTrue, codes, Result, Ok, Err}
use Rattle.std.specs.List.{AllByRecursion}
use Rattle.field_exprs.specs.declared.expr.Expr.{Expr}
use Rattle.field_exprs.specs.declared.expr.ExprFault.{ExprFault}
use Rattle.field_exprs.specs.declared.expr.ExprFault.TheVariants.{NoMemory, At}
use Rattle.field_exprs.specs.declared.expr.Hop.{Hop}
use Rattle.field_exprs.specs.declared.expr.Hop.TheVariants.{Field, Index}
use Rattle.field_exprs.specs.Grammar.{is_in_name, IsWord, IsName, BeginsIndex, IsHop, AreSteps, IsExpr}

-- a text is some expression
abbrev pub IsAccepted : List ℕ → Type 0
IsAccepted text = (e : Expr) × IsExpr text e

-- a front begins an accepted text
abbrev pub BeginsAccepted : List ℕ → Type 0
BeginsAccepted front = (more : List ℕ) × IsAccepted (front ++ more)

-- A text that is no expression goes wrong behind its longest front that begins an accepted text.
pub record GoesWrong (text : List ℕ) (place : ℕ) : Type 0 where
  pub front : List ℕ
  pub left : List ℕ
  pub parts : text ≡ front ++ left
  pub outside : ¬ IsAccepted text
  pub begins : BeginsAccepted front
  pub longest : (other rest : List ℕ) → text ≡ other ++ rest → BeginsAccepted other → length other ≤ length front
  pub at : place ≡ length front

-- the most bytes of a text that is read
abbrev pub longest_text : ℕ
longest_text = 4096

-- an expression is refused where its text is too long, at the first byte that is too many
pub record IsTooLong (text : List ℕ) (place : ℕ) : Type 0 where
  pub accepted : IsAccepted text
  pub long : longest_text < length text
  pub at : place ≡ longest_text

-- a place is told in 32 bits; one past them as their greatest
abbrev pub told_place : ℕ → ℕ
told_place place = min place (2 ^ 32 - 1)

-- A text is read as the expression that it is, where it isn't too long; else the place is told at which it is refused.
abbrev pub IsRead : List ℕ → Result Expr ExprFault → Type 0
IsRead text (Ok e) = IsExpr text e × (length text ≤ longest_text)
IsRead text (Err NoMemory) = Unit {0}
IsRead text (Err (At told)) = (place : ℕ) × (told ≡ told_place place) × (GoesWrong text place ⊎ IsTooLong text place)

-- Parts ---------------------------------------------------------------------------------------------------------------

-- a text is some steps
abbrev pub IsTail : List ℕ → Type 0
IsTail text = (hops : List Hop) × AreSteps text hops

-- a text that isn't empty begins with a byte that fails a test
abbrev pub Stops : (ℕ → Bool) → List ℕ → Type 0
Stops test [] = Unit {0}
Stops test (byte ∷ bytes) = test byte ≡ false

-- a text is a front, of which each byte passes a test, and what is left from the first byte on that fails it
abbrev pub Skips : (ℕ → Bool) → List ℕ → List ℕ → Type 0
Skips test text left =
    (front : List ℕ) × (text ≡ front ++ left) × AllByRecursion (λ byte. IsTrue (test byte)) front × Stops test left

-- a text is a word, up to the first byte that is in none, and what is left
pub record IsWordBefore (text word left : List ℕ) : Type 0 where
  pub parts : text ≡ word ++ left
  pub is_word : IsWord word
  pub stops : Stops is_in_name left

-- a text is digits that an index may begin with, as many as may be, and what is left
pub record IsIndexBefore (text digits left : List ℕ) : Type 0 where
  pub parts : text ≡ digits ++ left
  pub begins : BeginsIndex digits
  pub longest : (byte : ℕ) (rest : List ℕ) → left ≡ byte ∷ rest → ¬ BeginsIndex (digits ++ byte ∷ [])

-- a hop stands before what is left; where it ends with a word, the word goes on no further
abbrev pub IsHopBefore : List ℕ → List ℕ → Hop → Type 0
IsHopBefore text left (Field name) = (text ≡ codes "." ++ (name ++ left)) × IsName name × Stops is_in_name left
IsHopBefore text left (Index n) = (first : List ℕ) × (text ≡ first ++ left) × IsHop first (Index n)

-- Reading breaks between a front and what is left of a text: the front begins a text of a language, but no such text
-- goes on with the next byte, and none ends where nothing is left.
pub record Breaks (Language : List ℕ → Type 0) (front left : List ℕ) : Type 0 where
  pub outside : ¬ Language (front ++ left)
  pub more : List ℕ
  pub begins : Language (front ++ more)
  pub next : (byte : ℕ) (rest other : List ℕ) → left ≡ byte ∷ rest → ¬ Language (front ++ byte ∷ other)

-- a text breaks before what is left of it
abbrev pub BreaksBefore : (List ℕ → Type 0) → List ℕ → List ℕ → Type 0
BreaksBefore Language text left = (front : List ℕ) × (text ≡ front ++ left) × Breaks Language front left
