-- What reading keeps: a text is one rule at most, and it is read as the rule that it is.
use Rattle.std.specs.Prelude.{◌≡◌, ℕ, ℤ, List, [], Bool, Option, None, Some}
use Rattle.break_rules.specs.Grammar.{IsCondition, IsHit, IsTemplate}
use Rattle.break_rules.specs.Judging.{judged}
use Rattle.break_rules.specs.Parsing.{condition_of, hit_of, template_of}
use Rattle.break_rules.specs.Rendering.{paths_in, rendered}
use Rattle.break_rules.specs.declared.rule.Comparison.{Comparison}
use Rattle.break_rules.specs.declared.rule.Comparison.TheVariants as compare
use Rattle.break_rules.specs.declared.rule.Seen.{Seen}
use Rattle.break_rules.specs.declared.rule.Seen.TheVariants.{Number, Truth, Reference}
use Rattle.break_rules.specs.declared.rule.Template.{Template}

-- what is computed of a text is the rule that it is by the grammar, and nothing where it is none
abbrev pub Reads : {A : Type 0} → (List ℕ → A → Type 0) → (List ℕ → Option A) → Type 0
Reads {A} IsRule rule_of =
    ((text : List ℕ) (rule : A) → IsRule text rule → rule_of text ≡ Some rule)
    × ((text : List ℕ) (rule : A) → rule_of text ≡ Some rule → IsRule text rule)

-- A text is one condition at most, and read as that; a hit condition, and a log message, likewise.
abbrev pub ReadsConditions : Type 0
ReadsConditions = Reads IsCondition condition_of

abbrev pub ReadsHits : Type 0
ReadsHits = Reads IsHit hit_of

abbrev pub ReadsTemplates : Type 0
ReadsTemplates = Reads IsTemplate template_of

-- two sides are of one kind that can be compared so
pub data AreComparable : Comparison → Seen → Seen → Type 0 where
  numbers : {comparison : Comparison} {a b : ℤ} → AreComparable comparison (Number a) (Number b)
  equal_truths : {a b : Bool} → AreComparable compare.Equal (Truth a) (Truth b)
  unequal_truths : {a b : Bool} → AreComparable compare.Unequal (Truth a) (Truth b)
  equal_objects : {a b : ℕ} → AreComparable compare.Equal (Reference a) (Reference b)
  unequal_objects : {a b : ℕ} → AreComparable compare.Unequal (Reference a) (Reference b)

abbrev pub CanBeJudged : Seen → Option (Comparison × Seen) → Type 0
CanBeJudged left None = (is : Bool) × (left ≡ Truth is)
CanBeJudged left (Some rest) = AreComparable rest.0 left rest.1

-- A condition is judged just where it can be.
abbrev pub Judges : Type 0
Judges = (left : Seen) (rest : Option (Comparison × Seen))
    → ((is : Bool) → judged left rest ≡ Some is → CanBeJudged left rest)
    × (CanBeJudged left rest → (is : Bool) × (judged left rest ≡ Some is))

-- a text without an expression logs itself
abbrev pub LogsPlain : Type 0
LogsPlain = (text : List ℕ) (template : Template) → IsTemplate text template → paths_in template.pieces ≡ []
    → rendered template [] ≡ text
