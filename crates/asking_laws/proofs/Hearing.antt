-- What a reply to a plain question leaves of what was heard: all of it, and nothing else is heard by it.
use Rattle.std.proofs.Common.{◌≡◌, Bool, true, false, Option, Some, None, refl, sym, ap, subst, ◌∙◌}
use Rattle.std.specs.Prelude.{unwrap_or}
use Rattle.class_tables.specs.Lookups.{found_in}
use Rattle.machine_model.specs.Facts.{fact_known, fact_of}
use Rattle.machine_model.specs.Keys.{same_question}
use Rattle.machine_model.specs.Lookups.{sight_of}
use Rattle.machine_model.specs.Plans.{Found, Sight, answer_in, found_from}
use Rattle.machine_model.specs.Replying.{hand_replied, is_waiting, knows_fact, learnt}
use Rattle.machine_model.specs.State.{Hand, State, is_some}
use Rattle.machine_model.proofs.KeyLaws.{is_one, is_same}
use Rattle.machine_steps.specs.Names.{Answer, Question, Replied, a_question}
use Rattle.lacking_laws.specs.Lacking.{HearsOn}
use Rattle.lacking_laws.proofs.Hearing.{leads_on}
use Rattle.asking_laws.specs.Asking.{is_general}
use Rattle.asking_laws.proofs.Learning.{learnt_again, learnt_other}
use Rattle.asking_laws.proofs.Once.{are_once, waits_unheard}

same_some : {A : Type 0} (a b : A) → Some a ≡ Some b → a ≡ b
same_some {A} a b is = ap (λ (o : Option A). unwrap_or o a) is

some_none : {A : Type 0} {known : Option A} {heard : A} → known ≡ None → known ≡ Some heard → ⊥
some_none none knows = cc

pub hears_itself : (sight : Sight) → HearsOn sight sight
hears_itself sight = record {
  replies = λ question found is. is;
  facts = λ question heard is. is;
  learns = λ question found heard none is knows. absurd (some_none none knows);
}

pub hears_then : {sight more most : Sight} → HearsOn sight more → HearsOn more most → HearsOn sight most
hears_then {sight} {more} {most} f g = record {
  replies = λ question found is. g.replies question found (f.replies question found is);
  facts = λ question heard is. g.facts question heard (f.facts question heard is);
  learns = λ question found heard none is knows.
      by_known question found heard none is knows (fact_known more.classes question) refl;
}
  where
    by_known : (question : Question) (found : Found) (heard : Option Answer)
        → fact_known sight.classes question ≡ None → found_from 0 sight.asked question ≡ Some found
        → fact_known most.classes question ≡ Some heard
        → (known : Option (Option Answer)) → fact_known more.classes question ≡ known
        → heard ≡ fact_of question (answer_in found.replied)
    by_known question found heard none is knows None then =
        g.learns question found heard then (f.replies question found is) knows
    by_known question found heard none is knows (Some known) then =
        same_some heard known (sym knows ∙ g.facts question known then) ∙ f.learns question found known none is then

-- a reply comes to a question that has none
module _ (state : State) (hand : Hand) (question : Question) (replied : Replied) (plain : is_general question ≡ false)
    (once : are_once hand.asked ≡ true) (waits : is_waiting question hand.asked ≡ true) where
  apart : (other : Question) → same_question question other ≡ false → ¬ (other ≡ question)
  apart other differ is =
      let no : true ≡ false = sym (is_same question)
      ∙ subst (λ (q : Question). same_question question q ≡ false) is differ in cc

  pub other_known : (other : Question) → ¬ (other ≡ question)
      → fact_known (found_in (learnt question (answer_in replied) state.classes)) other
      ≡ fact_known (found_in state.classes) other
  other_known other = learnt_other question other (answer_in replied) state.classes plain

  still_known : (other : Question) (heard : Option Answer) → fact_known (found_in state.classes) other ≡ Some heard
      → fact_known (found_in (learnt question (answer_in replied) state.classes)) other ≡ Some heard
  still_known other heard knows = by_same (same_question question other) refl
    where
      by_same : (same : Bool) → same_question question other ≡ same
          → fact_known (found_in (learnt question (answer_in replied) state.classes)) other ≡ Some heard
      by_same false differ = other_known other (apart other differ) ∙ knows
      by_same true same =
          let is : question ≡ other = is_one question other same in
          let again : knows_fact question state.classes ≡ true =
          subst (λ (q : Question). knows_fact q state.classes ≡ true) (sym is) (ap is_some knows) in
          ap (λ known. fact_known (found_in known) other)
          (learnt_again question (answer_in replied) state.classes again) ∙ knows

  learns_none : (other : Question) (found : Found) (heard : Option Answer)
      → fact_known (found_in state.classes) other ≡ None → found_from 0 hand.asked other ≡ Some found
      → fact_known (found_in (learnt question (answer_in replied) state.classes)) other ≡ Some heard → ⊥
  learns_none other found heard none is knows = by_same (same_question question other) refl
    where
      by_same : (same : Bool) → same_question question other ≡ same → ⊥
      by_same false differ = some_none (other_known other (apart other differ) ∙ none) knows
      by_same true same = some_none (waits_unheard 0 question hand.asked once waits)
          (subst (λ (q : Question). found_from 0 hand.asked q ≡ Some found) (sym (is_one question other same)) is)

  pub hears_reply : HearsOn (sight_of state hand)
      (sight_of (record state { classes = learnt question (answer_in replied) state.classes })
      (hand_replied (a_question question) replied hand))
  hears_reply = record {
    replies = λ other found is. ((leads_on state hand).answers question replied).replies other found is;
    facts = λ other heard knows. still_known other heard knows;
    learns = λ other found heard none is knows. absurd (learns_none other found heard none is knows);
  }
