-- Plans that no error fails: one to what a plan can't do without is handed on, as its value.
use Rattle.std.specs.Prelude.{◌==◌, ◌≡◌, Bool, true, not, map, Option, None, Some}
use Rattle.std.specs.Prelude.{Result as Tried, Ok, Err}
use Rattle.machine_model.specs.Facts.{is_of_class}
use Rattle.machine_model.specs.Names.{Answer, Want}
use Rattle.machine_model.specs.Plans.{Need, Plan, Refusal, fails, gives, has, lacks, pairs, refusal_by, tries, wants}

-- of two plans side by side that are refused the first decides
abbrev pub two_caught : {A B C : Type 0} → (A × B → Plan (Tried C Refusal)) → Tried A Refusal × Tried B Refusal
    → Plan (Tried C Refusal)
two_caught go ((Ok a), (Ok b)) = go (a, b)
two_caught go ((Ok a), (Err why)) = gives (Err why)
two_caught go ((Err why), other) = gives (Err why)

-- The same plan, which no error fails: it tries what it can't do without, and where that is refused it gives why.
unfoldable pub caught : {A : Type 0} → Plan A → Plan (Tried A Refusal)
caught (gives a) = gives (Ok a)
caught (wants (Want.Must question) rest) = tries question (λ heard. elim heard [
  | Ok answer ↦ caught (rest (Some answer))
  | Err why ↦ gives (Err why)
])
caught (wants (Want.May question) rest) = wants (Want.May question) (λ heard. caught (rest heard))
caught (wants (Want.Fact question) rest) = wants (Want.Fact question) (λ heard. caught (rest heard))
caught (tries question rest) = tries question (λ heard. caught (rest heard))
caught (pairs p q rest) = pairs (caught p) (caught q) (two_caught (λ two. caught (rest two)))

-- What a caught plan comes to, by what the plan itself does -----------------------------------------------------------

-- what is lacking may be refused
abbrev pub soft : Want → Want
soft (Want.Must question) = Want.May question
soft (Want.May question) = Want.May question
soft (Want.Fact question) = Want.Fact question

-- a value is a value, and the error that decides is handed on as what it says (JDWP, Error Constants, INVALID_THREAD)
abbrev pub handed_on : {A : Type 0} → Need A → Need (Tried A Refusal)
handed_on (has a) = has (Ok a)
handed_on (fails fault) = has (Err (refusal_by (fault.code == 10)))
handed_on (lacks want others) = lacks (soft want) (map soft others)

-- in a world it is the plan's own value there, or why it has none
abbrev pub ValueOf : {A : Type 0} → Option (Tried A Refusal) → Option A → Type 0
ValueOf None there = ⊥
ValueOf (Some (Ok a)) there = there ≡ Some a
ValueOf (Some (Err why)) there = there ≡ None

-- Plans whose errors never meet ---------------------------------------------------------------------------------------

-- no fact of a class is what a plan can't do without
abbrev pub is_right : Want → Bool
is_right (Want.Must question) = not (is_of_class question)
is_right (Want.May question) = true
is_right (Want.Fact question) = true

-- One question behind the other: nothing is side by side, so that the first error is the only one.
unfoldable pub IsChain : {A : Type 0} → Plan A → Type 0
IsChain (gives a) = Unit {0}
IsChain (wants want rest) = (is_right want ≡ true) × ((heard : Option Answer) → IsChain (rest heard))
IsChain (tries question rest) = (heard : Tried Answer Refusal) → IsChain (rest heard)
IsChain (pairs p q rest) = ⊥
