-- Nothing is asked of null: each question was lacking, and nothing that a part lacks asks so; and no step of null is set.
use Rattle.std.proofs.Common.{◌≡◌, ◌&&◌, ◌⊎◌, Bool, true, false, List, [], ◌∷◌, ◌++◌, refl, sym, ap, subst, ◌∙◌, inl}
use Rattle.std.proofs.Common.{inr}
use Rattle.std.specs.List.{AllByRecursion as All}
use Rattle.class_tables.specs.Lookups.{found_in}
use Rattle.jdwp_commands.specs.declared.question.Question.TheVariants as questions
use Rattle.machine_model.specs.Classes.{classes_plan}
use Rattle.machine_model.specs.Due.{lacked_by}
use Rattle.machine_model.specs.Harmless.{is_harmless, is_harmless_command}
use Rattle.machine_model.specs.Lookups.{sight_of}
use Rattle.machine_model.specs.Plans.{Plan, lacking, made_with, need, question_of}
use Rattle.machine_model.specs.Questions.{AreLacked, IsLacked, is_question}
use Rattle.machine_model.specs.Runs.{Message, Run}
use Rattle.machine_model.specs.State.{Hand, Machine, State}
use Rattle.machine_model.proofs.IdRows.{all_weak}
use Rattle.machine_steps.specs.Names.{Finding, Part, Question, TargetCommand, Want, a_question, an_effect, class_facts}
use Rattle.machine_steps.specs.Names.{classes_found}
use Rattle.machine_laws.proofs.BindingHands.{looks_first}
use Rattle.machine_laws.proofs.BindingParts.{lacked_meek}
use Rattle.machine_laws.proofs.BindingPlans.{classes_want, is_fact, makes, plan_lacks, wants_fact, wants_other}
use Rattle.machine_laws.proofs.HarmlessSteps.{effects_harmless}
use Rattle.machine_steps.proofs.IdLaws.{last_or_not}
use Rattle.machine_laws.proofs.QuestionLaws.{are_lacked}
use Rattle.machine_laws.proofs.SafePlans.{is_meek}
use Rattle.wish_sets.specs.Wanted.{Wanted}
use Rattle.machine_model.proofs.Bools.{and_second}

abbrev Harms : Want → Type 0
Harms want = is_harmless (question_of want) ≡ true

-- facts that breakpoints are bound by
fact_harms : (want : Want) → wants_fact want ≡ true → Harms want
fact_harms (Want.Fact question) is = by_question question is
  where
    by_question : (question : Question) → is_fact question ≡ true → is_harmless question ≡ true
    by_question (questions.SourceFile class) is = refl
    by_question (questions.Methods class) is = refl
    by_question (questions.LineTable class method) is = refl
    by_question _ is = cc
fact_harms _ is = cc

-- what the look-up of classes lacks
abbrev classes_shown : Bool → Wanted → State → Plan Finding
classes_shown unlisted wanted state = made_with classes_found (classes_plan unlisted wanted (found_in state.classes))

abbrev lacking_in : Bool → Wanted → State → Hand → List Want
lacking_in unlisted wanted state hand = lacking (need (sight_of state hand) (classes_shown unlisted wanted state))

classes_harm : (unlisted : Bool) (wanted : Wanted) (state : State) (hand : Hand)
    → All Harms (lacking_in unlisted wanted state hand)
classes_harm unlisted wanted state hand = plan_lacks (λ want. is_harmless (question_of want)) (sight_of state hand)
    (classes_shown unlisted wanted state)
    (makes _ classes_found _ (classes_want _ refl fact_harms unlisted wanted (found_in state.classes)))

-- what a part lacks
lacked_harm : (state : State) (hand : Hand) (parts : List Part) → All Harms (lacked_by state hand parts)
lacked_harm state hand (Part.Looks class_facts ∷ rest) = classes_harm state.unlisted state.wishes.wanted state hand
lacked_harm state hand parts = by_first (looks_first parts) refl
  where
    by_first : (first : Bool) → looks_first parts ≡ first → All Harms (lacked_by state hand parts)
    by_first false none = all_weak (λ want. is_meek want ≡ true) Harms
        (λ want. and_second (wants_other want) (is_harmless (question_of want))) (lacked_by state hand parts)
        (lacked_meek state hand parts none)
    by_first true is = cc

one_of : (before after : List Want) (want : Want) → All Harms (before ++ want ∷ after) → Harms want
one_of [] after want h = h.0
one_of (first ∷ before) after want h = one_of before after want h.1

was_lacked : {messages : List Message} {want : Want} → IsLacked messages want → Harms want
was_lacked {messages} {want} l = one_of l.before l.after want
    (subst (λ (wants : List Want). All Harms wants) l.lacked (lacked_harm l.there.state l.hand l.hand.parts))

-- each question that was sent
all_harmless : (messages before after : List Message) (question : Question) → AreLacked messages
    → messages ≡ before ++ Message.sends (a_question question) ∷ after → is_harmless question ≡ true
all_harmless messages [] after question AreLacked.none is = cc
all_harmless messages (first ∷ before) after question AreLacked.none is = cc
all_harmless messages before after question (AreLacked.aside {messages = earlier} message other h) is =
    by_place (last_or_not earlier message (Message.sends (a_question question)) before after is)
    (λ rest there. all_harmless earlier before rest question h there)
  where
    by_place : ((earlier ≡ before) × (message ≡ Message.sends (a_question question)))
        ⊎ ((rest : List Message) × (earlier ≡ before ++ Message.sends (a_question question) ∷ rest))
        → ((rest : List Message) → earlier ≡ before ++ Message.sends (a_question question) ∷ rest
        → is_harmless question ≡ true) → is_harmless question ≡ true
    by_place (inl (same, it)) behind = absurd (let no : false ≡ true = sym other ∙ ap is_question it in cc)
    by_place (inr (rest, there)) behind = behind rest there
all_harmless messages before after question (AreLacked.asks {messages = earlier} want lacked h) is =
    by_place (last_or_not earlier (Message.sends (a_question (question_of want)))
    (Message.sends (a_question question)) before after is)
    (λ rest there. all_harmless earlier before rest question h there)
  where
    by_place : ((earlier ≡ before)
        × (Message.sends (a_question (question_of want)) ≡ Message.sends (a_question question)))
        ⊎ ((rest : List Message) × (earlier ≡ before ++ Message.sends (a_question question) ∷ rest))
        → ((rest : List Message) → earlier ≡ before ++ Message.sends (a_question question) ∷ rest
        → is_harmless question ≡ true) → is_harmless question ≡ true
    by_place (inl (same, it)) behind =
        let one : question_of want ≡ question = cc in sym (ap is_harmless one) ∙ was_lacked lacked
    by_place (inr (rest, there)) behind = behind rest there

pub harmless : (messages before after : List Message) (m : Machine) (command : TargetCommand) → Run messages m
    → messages ≡ before ++ Message.sends command ∷ after → is_harmless_command command ≡ true
harmless messages before after m (a_question question) r is =
    all_harmless messages before after question (are_lacked messages m r) is
harmless messages before after m (an_effect effect) r is = effects_harmless messages before after m effect r is
