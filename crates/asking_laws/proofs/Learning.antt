-- A reply to one question changes what is known of that question alone, unless it lists all classes.
use Rattle.std.proofs.Common.{◌≡◌, ℕ, Bool, true, false, cond, List, [], ◌∷◌, Option, Some, None, refl, sym, ap, subst}
use Rattle.std.proofs.Common.{◌∙◌, option_map, arith}
use Rattle.std.specs.Prelude.{pos}
use Rattle.class_tables.specs.Facts.{Known, MethodOf, same_class, same_method}
use Rattle.class_tables.specs.Lookups.{found_in}
use Rattle.class_tables.specs.Tables.{put, under}
use Rattle.jdwp_commands.specs.declared.answer.Answer.TheVariants as answers
use Rattle.jdwp_commands.specs.declared.question.Question.TheVariants as questions
use Rattle.jdwp_values.specs.declared.id.ClassId.{ClassId}
use Rattle.machine_model.specs.Facts.{fact_known}
use Rattle.machine_model.specs.Plans.{answer_in}
use Rattle.machine_model.specs.Replying.{knows_fact, learnt, told_by, with_heard}
use Rattle.machine_model.specs.State.{State, is_some}
use Rattle.machine_steps.specs.Names.{Answer, Question, Replied}
use Rattle.asking_laws.specs.Asking.{is_general}

-- Tables --------------------------------------------------------------------------------------------------------------

is_mapped : {A B : Type 0} (f : A → B) (found : Option A) → is_some (option_map f found) ≡ is_some found
is_mapped f found = grind arith

-- what is put under a key that has nothing yet is found under no other
put_apart : {K V : Type 0} (same : K → K → Bool) (key other : K) (value : V) (entries : List (K × V))
    → is_some (under same key entries) ≡ false → same other key ≡ false
    → under same other (put same key value entries) ≡ under same other entries
put_apart {V = V} same key other value [] none apart = ap (λ (here : Bool). cond here (Some value) None) apart
put_apart {K} {V} same key other value (entry ∷ entries) none apart =
    by_here (same key entry.0) none (λ rest. put_apart same key other value entries rest apart)
  where
    by_here : (here : Bool) → is_some (cond here (Some entry.1) (under same key entries)) ≡ false
        → (is_some (under same key entries) ≡ false
        → under same other (put same key value entries) ≡ under same other entries)
        → under same other (cond here ((entry.0, value) ∷ entries) (entry ∷ put same key value entries))
        ≡ cond (same other entry.0) (Some entry.1) (under same other entries)
    by_here true none again = cc
    by_here false none again =
        ap (λ (rest : Option V). cond (same other entry.0) (Some entry.1) rest) (again none)

-- Keys ----------------------------------------------------------------------------------------------------------------

class_equal : (a b : ClassId) → same_class a b ≡ true → a ≡ b
class_equal a b is = let same : a.0 ≡ b.0 = grind (arith, is) in ap (λ (id : ℕ). record { 0 = id }) same

class_apart : (a b : ClassId) → ¬ (a ≡ b) → same_class a b ≡ false
class_apart a b apart = by_same (same_class a b) refl
  where
    by_same : (same : Bool) → same_class a b ≡ same → same ≡ false
    by_same true is = absurd (apart (class_equal a b is))
    by_same false is = refl

method_equal : (a b : MethodOf) → same_method a b ≡ true → a ≡ b
method_equal a b is =
    let class : a.0.0 ≡ b.0.0 = grind (arith, is) in
    let method : a.1.0 ≡ b.1.0 = grind (arith, is) in
    ap (λ (id : ℕ). (record { 0 = id }, a.1)) class ∙ ap (λ (id : ℕ). (b.0, record { 0 = id })) method

method_apart : (a b : MethodOf) → ¬ (a ≡ b) → same_method a b ≡ false
method_apart a b apart = by_same (same_method a b) refl
  where
    by_same : (same : Bool) → same_method a b ≡ same → same ≡ false
    by_same true is = absurd (apart (method_equal a b is))
    by_same false is = refl

-- Facts ---------------------------------------------------------------------------------------------------------------

-- what is told of one fact says nothing of another
abbrev SaysNothing : Question → Question → Option Answer → Known → Type 0
SaysNothing question other heard known = is_general question ≡ false → knows_fact question known ≡ false
    → ¬ (other ≡ question)
    → fact_known (found_in (with_heard question heard known)) other ≡ fact_known (found_in known) other

heard_other : (question other : Question) (heard : Option Answer) (known : Known)
    → SaysNothing question other heard known
heard_other (questions.SourceFile c) (questions.SourceFile d) heard known plain none apart =
    ap (option_map (option_map answers.SourceFile)) (put_apart same_class c d _ known.sources
    (sym (is_mapped _ (under same_class c known.sources)) ∙ none)
    (class_apart d c (λ is. apart (ap questions.SourceFile is))))
heard_other (questions.SourceFile c) _ heard known plain none apart = refl
heard_other (questions.Methods c) (questions.Methods d) heard known plain none apart =
    ap (option_map (λ found. Some (answers.Methods found))) (put_apart same_class c d _ known.methods
    (sym (is_mapped _ (under same_class c known.methods)) ∙ none)
    (class_apart d c (λ is. apart (ap questions.Methods is))))
heard_other (questions.Methods c) _ heard known plain none apart = refl
heard_other (questions.Fields c) (questions.Fields d) heard known plain none apart =
    ap (option_map (λ found. Some (answers.Fields found))) (put_apart same_class c d _ known.fields
    (sym (is_mapped _ (under same_class c known.fields)) ∙ none)
    (class_apart d c (λ is. apart (ap questions.Fields is))))
heard_other (questions.Fields c) _ heard known plain none apart = refl
heard_other (questions.Superclass c) (questions.Superclass d) heard known plain none apart =
    ap (option_map (λ above. Some (answers.Superclass above))) (put_apart same_class c d _ known.supers
    (sym (is_mapped _ (under same_class c known.supers)) ∙ none)
    (class_apart d c (λ is. apart (ap questions.Superclass is))))
heard_other (questions.Superclass c) _ heard known plain none apart = refl
heard_other (questions.LineTable c m) (questions.LineTable d n) heard known plain none apart =
    ap (option_map (option_map answers.LineTable)) (put_apart same_method (c, m) (d, n) _ known.lines
    (sym (is_mapped _ (under same_method (c, m) known.lines)) ∙ none)
    (method_apart (d, n) (c, m) (λ is. apart (ap (λ (one : MethodOf). questions.LineTable one.0 one.1) is))))
heard_other (questions.LineTable c m) _ heard known plain none apart = refl
heard_other (questions.VariableTable c m) (questions.VariableTable d n) heard known plain none apart =
    ap (option_map (option_map (answers.VariableTable (pos 0)))) (put_apart same_method (c, m) (d, n) _ known.variables
    (sym (is_mapped _ (under same_method (c, m) known.variables)) ∙ none)
    (method_apart (d, n) (c, m) (λ is. apart (ap (λ (one : MethodOf). questions.VariableTable one.0 one.1) is))))
heard_other (questions.VariableTable c m) _ heard known plain none apart = refl
heard_other questions.AllClasses other heard known plain none apart = cc
heard_other _ other heard known plain none apart = refl

pub learnt_other : (question other : Question) (heard : Option Answer) (known : Known) → is_general question ≡ false
    → ¬ (other ≡ question)
    → fact_known (found_in (learnt question heard known)) other ≡ fact_known (found_in known) other
learnt_other question other heard known plain apart = by_known (knows_fact question known) refl
  where
    by_known : (knows : Bool) → knows_fact question known ≡ knows
        → fact_known (found_in (cond knows known (with_heard question heard known))) other
        ≡ fact_known (found_in known) other
    by_known true is = refl
    by_known false is = heard_other question other heard known plain is apart

-- a fact that is known stays
pub learnt_again : (question : Question) (heard : Option Answer) (known : Known) → knows_fact question known ≡ true
    → learnt question heard known ≡ known
learnt_again question heard known is =
    ap (λ (knows : Bool). cond knows known (with_heard question heard known)) is

heard_loaded : (question : Question) (heard : Option Answer) (known : Known) → is_general question ≡ false
    → (with_heard question heard known).loaded ≡ known.loaded
heard_loaded questions.AllClasses heard known plain = cc
heard_loaded _ heard known plain = refl

-- no class is listed
pub learnt_loaded : (question : Question) (heard : Option Answer) (known : Known) → is_general question ≡ false
    → (learnt question heard known).loaded ≡ known.loaded
learnt_loaded question heard known plain = by_known (knows_fact question known)
  where
    by_known : (knows : Bool) → (cond knows known (with_heard question heard known)).loaded ≡ known.loaded
    by_known true = refl
    by_known false = heard_loaded question heard known plain

-- it tells of classes alone
pub told_plain : (question : Question) (replied : Replied) (state : State) → is_general question ≡ false
    → told_by question replied state
    ≡ record state { classes = learnt question (answer_in replied) state.classes }
told_plain questions.IdSizes replied state plain = cc
told_plain questions.AllClasses replied state plain = cc
told_plain _ replied state plain = refl
