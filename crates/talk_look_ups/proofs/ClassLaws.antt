-- What the look-up of classes comes to, as the code computes it.
use Rattle.std.proofs.Common.{◌≡◌, ℕ, ◌||◌, Bool, true, false, List, [], ◌∷◌, ◌++◌, Option, Some, None, refl, cond, flat_map}
use Rattle.std.proofs.Common.{◌+◌, ◌<◌, ◌∙◌, ap, drop, filter, get_or, length, option_map, sym}
use Rattle.std.proofs.lemmas.List.{append_assoc, drop_more}
use Rattle.class_tables.specs.Lookups.{found_in}
use Rattle.class_tables.specs.Signatures.{package_in}
use Rattle.class_tables.specs.declared.loaded.Loaded.{Loaded}
use Rattle.jdwp_commands.specs.declared.answer.Answer.{Answer}
use Rattle.jdwp_commands.specs.declared.answer.Answer.TheVariants as answers
use Rattle.jdwp_commands.specs.declared.asked.Replied.{Replied}
use Rattle.machine_model.specs.Names.{an_answer, an_error}
use Rattle.jdwp_commands.specs.declared.question.Question.TheVariants as questions
use Rattle.jdwp_values.specs.declared.class.LineTable.{LineTable}
use Rattle.jdwp_values.specs.declared.class.Method.{Method}
use Rattle.jdwp_values.specs.declared.id.ClassId.{ClassId}
use Rattle.machine_model.specs.Classes.{bound_plan, class_plan, counts, early_plan, is_keyed, keyed_plan, known_plan}
use Rattle.machine_model.specs.Classes.{lines_plan, methods_plan, package_plan, prepared_plan, source_plan, watched_plan}
use Rattle.machine_model.specs.Facts.{lines_in, methods_in, source_in}
use Rattle.machine_model.specs.Lookups.{plan}
use Rattle.machine_model.specs.Plans.{Found, Need, Sight, after, answer_in, asking, beside, chained, each, fact_heard}
use Rattle.machine_model.specs.Plans.{found_from, has, lacks, made_with, must_by, must_hear, need}
use Rattle.machine_model.specs.State.{State}
use Rattle.machine_model.specs.declared.acts.Sent.{Sent}
use Rattle.machine_model.specs.declared.acts.Want.{Want}
use Rattle.machine_model.specs.declared.parts.Finding.TheVariants.{Classes as classes_found}
use Rattle.machine_model.specs.declared.parts.Lookup.TheVariants.{Classes as class_facts}
use Rattle.talk_look_ups.proofs.PlanLaws.{each_lacks, joined_lacks, made_lacks}
use Rattle.session_facts.specs.ClassPlanning.{ClassNeed, all_found, all_lacking, bound_need, class_need, early_lacking}
use Rattle.session_facts.specs.ClassPlanning.{keyed_need, known_or, lines_lacking, lines_question, methods_heard}
use Rattle.session_facts.specs.ClassPlanning.{methods_need, signed_need}
use Rattle.session_facts.specs.ClassPlanning.{source_heard, source_need, unless_heard, watched_by, watched_in}
use Rattle.talk_look_ups.specs.Planning.{lacks_or, listing_by, sight_in}
use Rattle.wish_sets.specs.Places.{key_by}
use Rattle.wish_sets.specs.Wanted.{Wanted}
use Rattle.wish_sets.specs.Wished.{is_named, is_watched}

-- a plan of a class comes to what the class lacks, or finds
abbrev need_by : ClassNeed → Need (List ClassId)
need_by n = lacks_or n.lacking n.found

-- what is heard of the lines of a method; anything, while they are lacking
abbrev lines_value : Option (Option LineTable) → Option Found → Option Answer
lines_value (Some lines) found = option_map answers.LineTable lines
lines_value None None = None
lines_value None (Some found) = option_map answers.LineTable (lines_in (answer_in found.replied))

lines_need : (sight : Sight) (class : ClassId) (method : Method)
    → need sight (lines_plan class method)
    ≡ lacks_or (lines_lacking sight class method.id)
    (lines_value (sight.classes.lines class method.id) (found_from 0 sight.asked (lines_question class method.id)))
unfolding need
lines_need sight class method =
    by_known (sight.classes.lines class method.id) (found_from 0 sight.asked (lines_question class method.id))
  where
    by_known : (known : Option (Option LineTable)) (found : Option Found)
        → after (fact_heard (lines_question class method.id) (option_map (option_map answers.LineTable) known) found)
        (λ heard. has heard)
        ≡ lacks_or (unless_heard (known_or known lines_in found) (lines_question class method.id))
        (lines_value known found)
    by_known (Some lines) found = refl
    by_known None None = refl
    by_known None (Some found) = refl

-- the first of a list, where it counts, and then the others
counted_first : {A B : Type 0} (f : A → List B) (test : A → Bool) (a : A) (others : List A)
    → flat_map f (filter test (a ∷ others)) ≡ cond (test a) (f a) [] ++ flat_map f (filter test others)
counted_first f test a others = by_test (test a)
  where
    by_test : (passes : Bool)
        → flat_map f (cond passes (a ∷ filter test others) (filter test others))
        ≡ cond passes (f a) [] ++ flat_map f (filter test others)
    by_test true = refl
    by_test false = refl

-- one more is gone through
pub one_counted : {A B : Type 0} (f : A → List B) (test : A → Bool) (made before : List B) (all : List A) (place : ℕ)
    (one : A) (now : List B) → place < length all → one ≡ get_or all place one
    → now ≡ made ++ cond (test one) (f one) []
    → made ++ flat_map f (filter test (drop place all)) ≡ before ++ flat_map f (filter test all)
    → now ++ flat_map f (filter test (drop (place + 1) all)) ≡ before ++ flat_map f (filter test all)
one_counted f test made before all place one now within is now_is are =
    ap (λ n. n ++ flat_map f (filter test (drop (place + 1) all))) now_is
    ∙ append_assoc made (cond (test one) (f one) []) (flat_map f (filter test (drop (place + 1) all)))
    ∙ ap (λ first. made ++ first) (sym (counted_first f test one (drop (place + 1) all)))
    ∙ ap (λ a. made ++ flat_map f (filter test (a ∷ drop (place + 1) all))) is
    ∙ ap (λ rest. made ++ flat_map f (filter test rest)) (sym (drop_more all place one within))
    ∙ are

-- the lines of the methods of a class that count
methods_plan_need : (sight : Sight) (keyed : Bool) (wanted : Wanted) (class : ClassId) (signature : List ℕ)
    (methods : List Method)
    → need sight (methods_plan keyed wanted class signature methods)
    ≡ need_by (methods_need sight keyed wanted class signature (Some methods))
methods_plan_need sight keyed wanted class signature methods =
    let those = filter (counts keyed wanted signature) methods in
    made_lacks sight (λ heard. class ∷ []) (each (lines_plan class) those)
    (flat_map (λ method. lines_lacking sight class method.id) those) _
    (each_lacks sight (lines_plan class) (λ method. lines_lacking sight class method.id)
    (λ method. lines_value (sight.classes.lines class method.id)
    (found_from 0 sight.asked (lines_question class method.id))) (lines_need sight class) those)

bound_plan_need : (sight : Sight) (bound keyed : Bool) (wanted : Wanted) (class : ClassId) (signature : List ℕ)
    → need sight (bound_plan bound keyed wanted class signature)
    ≡ need_by (bound_need sight bound keyed wanted class signature)
unfolding need chained
bound_plan_need sight false keyed wanted class signature = refl
bound_plan_need sight true keyed wanted class signature =
    by_known (sight.classes.methods class) (found_from 0 sight.asked (questions.Methods class))
  where
    by_known : (known : Option (List Method)) (found : Option Found)
        → after (fact_heard (questions.Methods class) (option_map (λ list. Some (answers.Methods list)) known) found)
        (λ heard. need sight (methods_plan keyed wanted class signature (methods_in heard)))
        ≡ need_by (methods_need sight keyed wanted class signature (known_or known methods_in found))
    by_known (Some methods) found = methods_plan_need sight keyed wanted class signature methods
    by_known None None = refl
    by_known None (Some found) =
        methods_plan_need sight keyed wanted class signature (methods_in (answer_in found.replied))

keyed_plan_need : (sight : Sight) (keyed : Bool) (wanted : Wanted) (class : ClassId) (signature : List ℕ)
    → need sight (keyed_plan keyed wanted class signature)
    ≡ need_by (keyed_need sight keyed wanted class signature)
keyed_plan_need sight keyed wanted class signature =
    bound_plan_need sight (keyed || is_named wanted signature None) keyed wanted class signature

-- the methods of a class that a function names; anything, while they are lacking
abbrev early_value : Bool → Option (List Method) → List Method
early_value false methods = []
early_value true None = []
early_value true (Some methods) = methods

early_plan_need : (sight : Sight) (named : Bool) (class : ClassId)
    → need sight (early_plan named class)
    ≡ lacks_or (early_lacking named class (methods_heard sight class)) (early_value named (methods_heard sight class))
unfolding need
early_plan_need sight false class = refl
early_plan_need sight true class =
    by_known (sight.classes.methods class) (found_from 0 sight.asked (questions.Methods class))
  where
    by_known : (known : Option (List Method)) (found : Option Found)
        → after (fact_heard (questions.Methods class) (option_map (λ list. Some (answers.Methods list)) known) found)
        (λ heard. has (methods_in heard))
        ≡ lacks_or (early_lacking true class (known_or known methods_in found))
        (early_value true (known_or known methods_in found))
    by_known (Some methods) found = refl
    by_known None None = refl
    by_known None (Some found) = refl

-- what a class needs once its source and, where a function names it, its methods were gone for side by side
module _ (sight : Sight) (wanted : Wanted) (class : ClassId) (signature : List ℕ) where
  abbrev goes_on : Option (List ℕ) × List Method → Need (List ClassId)
  goes_on two = need sight (keyed_plan (is_keyed wanted (key_by signature two.0)) wanted class signature)

  abbrev early : Need (List Method)
  early = lacks_or (early_lacking (is_named wanted signature None) class (methods_heard sight class))
      (early_value (is_named wanted signature None) (methods_heard sight class))

  methods_lack : (keyed : Bool) → is_named wanted signature None ≡ true → methods_heard sight class ≡ None
      → lacks (Want.Fact (questions.Methods class)) [] ≡ need_by (keyed_need sight keyed wanted class signature)
  methods_lack true named none = rw none refl
  methods_lack false named none = rw (named, none) refl

  by_source : (source : Option (List ℕ))
      → after (beside (has source) early) goes_on ≡ need_by (source_need sight wanted class signature (Some source))
  by_source source = by_named (is_named wanted signature None) refl (methods_heard sight class) refl
    where
      by_named : (named : Bool) → is_named wanted signature None ≡ named → (methods : Option (List Method))
          → methods_heard sight class ≡ methods
          → after (beside (has source) (lacks_or (early_lacking named class methods) (early_value named methods))) goes_on
          ≡ need_by (source_need sight wanted class signature (Some source))
      by_named false is methods known =
          keyed_plan_need sight (is_keyed wanted (key_by signature source)) wanted class signature
      by_named true is (Some methods) known =
          keyed_plan_need sight (is_keyed wanted (key_by signature source)) wanted class signature
      by_named true is None known = methods_lack (is_keyed wanted (key_by signature source)) is known

  by_heard : (source : Option (List ℕ))
      → after (beside (has (source_in (option_map answers.SourceFile source))) early) goes_on
      ≡ need_by (source_need sight wanted class signature (Some source))
  by_heard None = by_source None
  by_heard (Some file) = by_source (Some file)

  by_lacking : (want : Want) (wants : List Want) (methods : List Method)
      → after (beside (lacks want []) (lacks_or wants methods)) goes_on ≡ lacks want wants
  by_lacking want [] methods = refl
  by_lacking want (other ∷ more) methods = refl

  source_plan_need : need sight (source_plan wanted class signature)
      ≡ need_by (source_need sight wanted class signature (source_heard sight class))
  unfolding need
  source_plan_need =
      ap (λ n. after (beside (need sight (asking source_in (Want.Fact (questions.SourceFile class)))) n) goes_on)
      (early_plan_need sight (is_named wanted signature None) class)
      ∙ by_known (sight.classes.source class) (found_from 0 sight.asked (questions.SourceFile class))
    where
      by_known : (known : Option (Option (List ℕ))) (found : Option Found)
          → after (beside (after (fact_heard (questions.SourceFile class)
          (option_map (option_map answers.SourceFile) known) found) (λ heard. has (source_in heard))) early) goes_on
          ≡ need_by (source_need sight wanted class signature (known_or known source_in found))
      by_known (Some source) found = by_heard source
      by_known None None = by_lacking (Want.Fact (questions.SourceFile class)) _ _
      by_known None (Some found) = by_heard (source_in (answer_in found.replied))

class_plan_need : (sight : Sight) (wanted : Wanted) (class : ClassId)
    → need sight (class_plan wanted class (sight.classes.loaded class)) ≡ need_by (class_need sight wanted class)
unfolding need
class_plan_need sight wanted class = by_loaded (sight.classes.loaded class)
  where
    by_watched : (signature : List ℕ) (watched : Bool)
        → need sight (watched_plan watched wanted class signature)
        ≡ need_by (signed_need sight wanted class (cond watched (Some signature) None))
    by_watched signature false = refl
    by_watched signature true = source_plan_need sight wanted class signature

    by_package : (signature : List ℕ) (path : Option (List ℕ))
        → need sight (package_plan wanted class signature path)
        ≡ need_by (signed_need sight wanted class (watched_by wanted signature path))
    by_package signature None = refl
    by_package signature (Some path) = by_watched signature (is_watched wanted path)

    by_prepared : (signature : List ℕ) (prepared : Bool)
        → need sight (prepared_plan prepared wanted class signature)
        ≡ need_by (signed_need sight wanted class
        (cond prepared (watched_by wanted signature (package_in signature)) None))
    by_prepared signature false = refl
    by_prepared signature true = by_package signature (package_in signature)

    by_loaded : (loaded : Option Loaded)
        → need sight (class_plan wanted class loaded)
        ≡ need_by (signed_need sight wanted class (watched_in wanted loaded))
    by_loaded None = refl
    by_loaded (Some loaded) = by_prepared loaded.signature loaded.prepared

-- The whole -----------------------------------------------------------------------------------------------------------

-- each class is asked for what is missing
known_plan_need : (sight : Sight) (wanted : Wanted)
    → need sight (known_plan wanted sight.classes)
    ≡ lacks_or (all_lacking sight wanted sight.classes.order) (all_found sight wanted sight.classes.order)
known_plan_need sight wanted = joined_lacks sight (λ class. class_plan wanted class (sight.classes.loaded class))
    (λ classes. classes) (λ class. (class_need sight wanted class).lacking)
    (λ class. (class_need sight wanted class).found) (class_plan_need sight wanted) sight.classes.order

-- where a watch was set since they were listed, all classes are listed beside it
pub listing_need : (state : State) (asked : List Sent) → state.unlisted ≡ true
    → need (sight_in state asked) (plan class_facts state)
    ≡ listing_by (found_from 0 asked questions.AllClasses)
    (all_lacking (sight_in state asked) state.wishes.wanted (found_in state.classes).order)
unfolding need made_with
listing_need state asked is =
    let sight = sight_in state asked in
    let wanted = state.wishes.wanted in
    rw is (ap (λ n. after (beside (after (must_hear questions.AllClasses (found_from 0 asked questions.AllClasses))
    (λ heard. has [])) n) (λ (two : List ClassId × List ClassId). has (classes_found two.0)))
    (known_plan_need sight wanted)
    ∙ by_found (found_from 0 asked questions.AllClasses) (all_lacking sight wanted (found_in state.classes).order)
    (all_found sight wanted (found_in state.classes).order))
  where
    by_reply : (place : ℕ) (replied : Replied) (wants : List Want) (classes : List ClassId)
        → after (beside (after (must_by place replied) (λ heard. has [])) (lacks_or wants classes))
        (λ (two : List ClassId × List ClassId). has (classes_found two.0))
        ≡ after (must_by place replied) (λ heard. lacks_or wants (classes_found []))
    by_reply place (an_answer answer) [] classes = refl
    by_reply place (an_answer answer) (want ∷ wants) classes = refl
    by_reply place (an_error code) [] classes = refl
    by_reply place (an_error code) (want ∷ wants) classes = refl

    by_found : (found : Option Found) (wants : List Want) (classes : List ClassId)
        → after (beside (after (must_hear questions.AllClasses found) (λ heard. has [])) (lacks_or wants classes))
        (λ (two : List ClassId × List ClassId). has (classes_found two.0)) ≡ listing_by found wants
    by_found None [] classes = refl
    by_found None (want ∷ wants) classes = refl
    by_found (Some found) wants classes = by_reply found.place found.replied wants classes

-- else each class alone
pub known_need : (state : State) (asked : List Sent) → state.unlisted ≡ false
    → need (sight_in state asked) (plan class_facts state)
    ≡ lacks_or (all_lacking (sight_in state asked) state.wishes.wanted (found_in state.classes).order)
    (classes_found (all_found (sight_in state asked) state.wishes.wanted (found_in state.classes).order))
known_need state asked is =
    let sight = sight_in state asked in
    let wanted = state.wishes.wanted in
    rw is (made_lacks sight classes_found (known_plan wanted (found_in state.classes)) _ _
    (known_plan_need sight wanted))
