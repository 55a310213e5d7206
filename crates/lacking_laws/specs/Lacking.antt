-- What becomes of a look-up as more is heard. The laws stand at the end, behind what they speak of.
use Rattle.std.specs.Prelude.{◌≡◌, ◌⊎◌, ◌∷◌, List, [], Option, None, Some}
use Rattle.machine_model.specs.Due.{asked_hand}
use Rattle.machine_model.specs.Facts.{fact_known, fact_of}
use Rattle.machine_model.specs.Lookups.{plan, sight_of}
use Rattle.machine_model.specs.Names.{Answer, Question, Replied}
use Rattle.machine_model.specs.Plans.{Fault, Found, Need, Sight, answer_in, fails, found_from, has, lacking, lacks}
use Rattle.machine_model.specs.Plans.{need}
use Rattle.machine_model.specs.Replying.{hand_replied}
use Rattle.machine_model.specs.State.{Hand, State}
use Rattle.machine_model.specs.declared.acts.TargetCommand.TheVariants.{Question as a_question}
use Rattle.machine_model.specs.declared.acts.Want.{Want}
use Rattle.machine_model.specs.declared.parts.Finding.{Finding}
use Rattle.machine_model.specs.declared.parts.Lookup.{Lookup}

-- More was heard: each reply stands, and each fact. A fact that is known now, and was replied before, is the one that
-- was replied.
pub record HearsOn (sight more : Sight) : Type 0 where
  pub replies : (question : Question) (found : Found) → found_from 0 sight.asked question ≡ Some found
      → found_from 0 more.asked question ≡ Some found
  pub facts : (question : Question) (heard : Option Answer) → fact_known sight.classes question ≡ Some heard
      → fact_known more.classes question ≡ Some heard
  pub learns : (question : Question) (found : Found) (heard : Option Answer)
      → fact_known sight.classes question ≡ None → found_from 0 sight.asked question ≡ Some found
      → fact_known more.classes question ≡ Some heard → heard ≡ fact_of question (answer_in found.replied)

-- the question has a reply
abbrev pub IsReplied : Sight → Question → Type 0
IsReplied sight question = (found : Found) × (found_from 0 sight.asked question ≡ Some found)

-- the fact is known
abbrev pub IsKnown : Sight → Question → Type 0
IsKnown sight question = (heard : Option Answer) × (fact_known sight.classes question ≡ Some heard)

-- it was heard
abbrev pub IsHeard : Sight → Want → Type 0
IsHeard sight (Want.Must question) = IsReplied sight question
IsHeard sight (Want.May question) = IsReplied sight question
IsHeard sight (Want.Fact question) = IsReplied sight question ⊎ IsKnown sight question

-- it stands in a list
abbrev pub Has : Want → List Want → Type 0
Has want [] = ⊥
Has want (other ∷ others) = (want ≡ other) ⊎ Has want others

-- each of these was heard by now, or is lacking still
abbrev pub AreHeardOr : Sight → List Want → List Want → Type 0
AreHeardOr more lacked [] = Unit {0}
AreHeardOr more lacked (want ∷ wants) = (IsHeard more want ⊎ Has want lacked) × AreHeardOr more lacked wants

-- What a plan comes to as more is heard: what was found stays; what has failed fails; what was lacking was heard, or is
-- lacking still, unless it fails.
pub data Grows {A : Type 0} (more : Sight) : Need A → Need A → Type 0 where
  found : {a : A} → Grows more (has a) (has a)
  failed : {old : Need A} {fault : Fault} → Grows more old (fails fault)
  lacked : {want : Want} {others : List Want} {new : Need A} → AreHeardOr more (lacking new) (want ∷ others)
      → Grows more (lacks want others) new

-- what a look-up comes to
abbrev pub comes_to : State → Lookup → Sight → Need Finding
comes_to state lookup sight = need sight (plan lookup state)

-- What a look-up lacks it lacks on, until it is heard or the look-up fails.
abbrev pub LacksOn : Type 0
LacksOn = (state : State) (lookup : Lookup) (sight more : Sight) → HearsOn sight more
    → Grows more (comes_to state lookup sight) (comes_to state lookup more)

-- A look-up that has failed lacks nothing more.
abbrev pub StaysFailed : Type 0
StaysFailed = (state : State) (lookup : Lookup) (sight more : Sight) (fault : Fault) → HearsOn sight more
    → comes_to state lookup sight ≡ fails fault → (now : Fault) × (comes_to state lookup more ≡ fails now)

-- What a look-up has found stays, or gives way to an error.
abbrev pub StaysFound : Type 0
StaysFound = (state : State) (lookup : Lookup) (sight more : Sight) (finding : Finding) → HearsOn sight more
    → comes_to state lookup sight ≡ has finding
    → (comes_to state lookup more ≡ has finding) ⊎ ((now : Fault) × (comes_to state lookup more ≡ fails now))

-- what was heard in one hand is heard in the other
abbrev pub Leads : State → Hand → Hand → Type 0
Leads state hand now = HearsOn (sight_of state hand) (sight_of state now)

-- a reply, and a question that is asked
pub record LeadOn (state : State) (hand : Hand) : Type 0 where
  pub answers : (question : Question) (replied : Replied)
      → Leads state hand (hand_replied (a_question question) replied hand)
  pub asks : (want : Want) → Leads state hand (asked_hand want hand)

-- A reply takes nothing back.
abbrev pub RepliesLead : Type 0
RepliesLead = (state : State) (hand : Hand) → LeadOn state hand
