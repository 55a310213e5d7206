-- What the look-up of classes asks: facts of classes alone, which are heard alike from what is known and from replies.
use Rattle.std.proofs.Common.{◌≡◌, ℕ, suc, Bool, true, false, cond, not, List, [], ◌∷◌, Option, Some, None, refl, sym}
use Rattle.std.proofs.Common.{ap, ◌∙◌, ◌||◌}
use Rattle.std.specs.List.{AllByRecursion as All}
use Rattle.std.specs.Prelude.{filter, Result as Tried}
use Rattle.class_tables.specs.Facts.{Known}
use Rattle.class_tables.specs.Lookups.{Lookups, found_in}
use Rattle.class_tables.specs.Signatures.{package_in}
use Rattle.class_tables.specs.declared.loaded.Loaded.{Loaded}
use Rattle.jdwp_commands.specs.declared.question.Question.TheVariants as questions
use Rattle.jdwp_values.specs.declared.id.ClassId.{ClassId}
use Rattle.machine_model.specs.Binding.{sight_alone}
use Rattle.machine_model.specs.Classes.{bound_plan, class_plan, classes_plan, counts, early_plan, is_keyed, keyed_plan}
use Rattle.machine_model.specs.Classes.{known_plan, lines_plan, methods_plan, package_plan, prepared_plan, source_plan}
use Rattle.machine_model.specs.Classes.{watched_plan}
use Rattle.machine_model.specs.Facts.{fact_known, methods_in, source_in}
use Rattle.machine_model.specs.Plans.{Found, Need, Plan, Sight, after, asking, asks_for, beside, chained, each}
use Rattle.machine_model.specs.Plans.{fact_heard, fails, found_at, found_from, gives, has, heard_of, joined, lacking}
use Rattle.machine_model.specs.Plans.{lacks, made_with, may_hear, must_by, must_hear, need, pairs, question_of, tries}
use Rattle.machine_model.specs.Plans.{Refusal, try_hear, wants}
use Rattle.machine_model.specs.State.{is_some}
use Rattle.machine_model.proofs.IdRows.{all_joined}
use Rattle.machine_model.proofs.KeyLaws.{is_one}
use Rattle.machine_steps.specs.Names.{Answer, Question, Replied, Sent, Want, an_answer, an_error}
use Rattle.wish_sets.specs.Places.{key_by}
use Rattle.wish_sets.specs.Wanted.{Wanted}
use Rattle.wish_sets.specs.Wished.{is_named, is_watched}
use Rattle.machine_model.proofs.PlanIds.{after_like}

-- Questions -----------------------------------------------------------------------------------------------------------

-- it asks for a list of all classes
abbrev pub is_listing : Question → Bool
is_listing questions.AllClasses = true
is_listing _ = false

-- it asks for a fact that breakpoints are bound by
abbrev pub is_fact : Question → Bool
is_fact (questions.SourceFile class) = true
is_fact (questions.Methods class) = true
is_fact (questions.LineTable class method) = true
is_fact _ = false

-- a want of such a fact
abbrev pub wants_fact : Want → Bool
wants_fact (Want.Fact question) = is_fact question
wants_fact _ = false

-- a want of anything else
abbrev pub wants_other : Want → Bool
wants_other want = not (is_listing (question_of want))

-- Plans ---------------------------------------------------------------------------------------------------------------

-- all that the plan may want passes a test
unfoldable pub AllWants : {A : Type 0} → (Want → Bool) → Plan A → Type 0
AllWants test (gives a) = Unit {0}
AllWants test (wants want rest) = (test want ≡ true) × ((heard : Option Answer) → AllWants test (rest heard))
AllWants test (tries question rest) =
    (test (Want.May question) ≡ true) × ((heard : Tried Answer Refusal) → AllWants test (rest heard))
AllWants test (pairs p q rest) = AllWants test p × AllWants test q × ((two : _) → AllWants test (rest two))

module _ (test : Want → Bool) where
  pub chains : {A B : Type 0} (p : Plan A) (f : A → Plan B) → AllWants test p → ((a : A) → AllWants test (f a))
      → AllWants test (chained p f)
  unfolding AllWants chained
  chains (gives a) f h k = k a
  chains (wants want rest) f h k = (h.0, λ heard. chains (rest heard) f (h.1 heard) k)
  chains (tries question rest) f h k = (h.0, λ heard. chains (rest heard) f (h.1 heard) k)
  chains (pairs p q rest) f h k = (h.0, h.1, λ two. chains (rest two) f (h.2 two) k)

  pub makes : {A B : Type 0} (f : A → B) (p : Plan A) → AllWants test p → AllWants test (made_with f p)
  unfolding AllWants made_with
  makes f (gives a) h = tt
  makes f (wants want rest) h = (h.0, λ heard. makes f (rest heard) (h.1 heard))
  makes f (tries question rest) h = (h.0, λ heard. makes f (rest heard) (h.1 heard))
  makes f (pairs p q rest) h = (h.0, h.1, λ two. makes f (rest two) (h.2 two))

  pub every : {A B : Type 0} (f : A → Plan B) → ((a : A) → AllWants test (f a)) → (list : List A)
      → AllWants test (each f list)
  unfolding AllWants each
  every f k [] = tt
  every f k (a ∷ others) = (k a, every f k others, λ two. tt)

  pub asks : {A : Type 0} (read : Option Answer → A) (want : Want) → test want ≡ true → AllWants test (asking read want)
  unfolding AllWants
  asks read want is = (is, λ heard. tt)

-- the look-up of classes, once they are listed, wants facts alone
bound_wants : (asked keyed : Bool) (wanted : Wanted) (class : ClassId) (signature : List ℕ)
    → AllWants wants_fact (bound_plan asked keyed wanted class signature)
unfolding AllWants
bound_wants false keyed wanted class signature = tt
bound_wants true keyed wanted class signature = chains wants_fact (asking methods_in (Want.Fact (questions.Methods class)))
    (methods_plan keyed wanted class signature) (asks wants_fact methods_in (Want.Fact (questions.Methods class)) refl)
    (λ methods. makes wants_fact (λ heard. class ∷ [])
    (each (lines_plan class) (filter (counts keyed wanted signature) methods))
    (every wants_fact (lines_plan class)
    (λ one. asks wants_fact (λ heard. heard) (Want.Fact (questions.LineTable class one.id)) refl)
    (filter (counts keyed wanted signature) methods)))

keyed_wants : (keyed : Bool) (wanted : Wanted) (class : ClassId) (signature : List ℕ)
    → AllWants wants_fact (keyed_plan keyed wanted class signature)
keyed_wants keyed wanted class signature =
    bound_wants (keyed || is_named wanted signature None) keyed wanted class signature

early_wants : (named : Bool) (class : ClassId) → AllWants wants_fact (early_plan named class)
unfolding AllWants
early_wants false class = tt
early_wants true class = asks wants_fact methods_in (Want.Fact (questions.Methods class)) refl

source_wants : (wanted : Wanted) (class : ClassId) (signature : List ℕ)
    → AllWants wants_fact (source_plan wanted class signature)
unfolding AllWants
source_wants wanted class signature = (
  asks wants_fact source_in (Want.Fact (questions.SourceFile class)) refl,
  early_wants (is_named wanted signature None) class,
  λ two. keyed_wants (is_keyed wanted (key_by signature two.0)) wanted class signature,
)

class_wants : (wanted : Wanted) (class : ClassId) (loaded : Option Loaded)
    → AllWants wants_fact (class_plan wanted class loaded)
unfolding AllWants
class_wants wanted class None = tt
class_wants wanted class (Some loaded) = by_prepared loaded.prepared
  where
    by_watched : (watched : Bool) → AllWants wants_fact (watched_plan watched wanted class loaded.signature)
    by_watched false = tt
    by_watched true = source_wants wanted class loaded.signature

    by_package : (path : Option (List ℕ)) → AllWants wants_fact (package_plan wanted class loaded.signature path)
    by_package None = tt
    by_package (Some path) = by_watched (is_watched wanted path)

    by_prepared : (prepared : Bool) → AllWants wants_fact (prepared_plan prepared wanted class loaded.signature)
    by_prepared false = tt
    by_prepared true = by_package (package_in loaded.signature)

pub known_wants : (wanted : Wanted) (known : Lookups) → AllWants wants_fact (known_plan wanted known)
known_wants wanted known = makes wants_fact joined (each (λ class. class_plan wanted class (known.loaded class)) known.order)
    (every wants_fact (λ class. class_plan wanted class (known.loaded class))
    (λ class. class_wants wanted class (known.loaded class)) known.order)

-- what passes a test that is stricter
all_weaker : {A : Type 0} (strict test : Want → Bool) → ((want : Want) → strict want ≡ true → test want ≡ true)
    → (p : Plan A) → AllWants strict p → AllWants test p
unfolding AllWants
all_weaker strict test k (gives a) h = tt
all_weaker strict test k (wants want rest) h =
    (k want h.0, λ heard. all_weaker strict test k (rest heard) (h.1 heard))
all_weaker strict test k (tries question rest) h =
    (k (Want.May question) h.0, λ heard. all_weaker strict test k (rest heard) (h.1 heard))
all_weaker strict test k (pairs p q rest) h = (
  all_weaker strict test k p h.0,
  all_weaker strict test k q h.1,
  λ two. all_weaker strict test k (rest two) (h.2 two),
)

-- the look-up of classes wants a list of them, or facts
pub classes_want : (test : Want → Bool) → test (Want.Must questions.AllClasses) ≡ true
    → ((want : Want) → wants_fact want ≡ true → test want ≡ true) → (unlisted : Bool) (wanted : Wanted) (known : Lookups)
    → AllWants test (classes_plan unlisted wanted known)
unfolding AllWants
classes_want test lists facts true wanted known = (
  asks test {A = List ClassId} (λ heard. []) (Want.Must questions.AllClasses) lists,
  all_weaker wants_fact test facts (known_plan wanted known) (known_wants wanted known),
  λ two. tt,
)
classes_want test lists facts false wanted known =
    all_weaker wants_fact test facts (known_plan wanted known) (known_wants wanted known)

-- What is lacking -----------------------------------------------------------------------------------------------------

heard_lacks : (test : Want → Bool) (sight : Sight) (want : Want) → test want ≡ true
    → All (λ want. test want ≡ true) (lacking (heard_of sight want))
heard_lacks test sight (Want.Must question) is = by_found (found_from 0 sight.asked question)
  where
    by_reply : (place : ℕ) (replied : Replied)
        → All (λ want. test want ≡ true) (lacking (must_by place replied))
    by_reply place (an_answer answer) = tt
    by_reply place (an_error code) = tt

    by_found : (found : Option Found) → All (λ want. test want ≡ true) (lacking (must_hear question found))
    by_found None = (is, tt)
    by_found (Some found) = by_reply found.place found.replied
heard_lacks test sight (Want.May question) is = by_found (found_from 0 sight.asked question)
  where
    by_found : (found : Option Found) → All (λ want. test want ≡ true) (lacking (may_hear question found))
    by_found None = (is, tt)
    by_found (Some found) = tt
heard_lacks test sight (Want.Fact question) is =
    by_known (fact_known sight.classes question) (found_from 0 sight.asked question)
  where
    by_known : (known : Option (Option Answer)) (found : Option Found)
        → All (λ want. test want ≡ true) (lacking (fact_heard question known found))
    by_known None None = (is, tt)
    by_known _ _ = tt

beside_lacks : {A B : Type 0} (test : Want → Bool) (n : Need A) (k : Need B)
    → All (λ want. test want ≡ true) (lacking n) → All (λ want. test want ≡ true) (lacking k)
    → All (λ want. test want ≡ true) (lacking (beside n k))
beside_lacks test (has a) (lacks want others) h k = k
beside_lacks test (fails fault) (has b) h k = tt
beside_lacks test (lacks want others) (has b) h k = h
beside_lacks test (lacks want others) (lacks other more) h k =
    all_joined (λ want. test want ≡ true) (want ∷ others) (other ∷ more) h k
beside_lacks test _ _ h k = tt

after_lacks : {A B : Type 0} (test : Want → Bool) (n : Need A) (f : A → Need B)
    → All (λ want. test want ≡ true) (lacking n) → ((a : A) → All (λ want. test want ≡ true) (lacking (f a)))
    → All (λ want. test want ≡ true) (lacking (after n f))
after_lacks test (has a) f h k = k a
after_lacks test (fails fault) f h k = tt
after_lacks test (lacks want others) f h k = h

try_lacks : (test : Want → Bool) (question : Question) (found : Option Found) → test (Want.May question) ≡ true
    → All (λ want. test want ≡ true) (lacking (try_hear question found))
try_lacks test question None is = (is, tt)
try_lacks test question (Some found) is = tt

-- what a plan lacks is what it may want
pub plan_lacks : {A : Type 0} (test : Want → Bool) (sight : Sight) (p : Plan A) → AllWants test p
    → All (λ want. test want ≡ true) (lacking (need sight p))
unfolding need AllWants
plan_lacks test sight (gives a) h = tt
plan_lacks test sight (wants want rest) h = after_lacks test (heard_of sight want) (λ heard. need sight (rest heard))
    (heard_lacks test sight want h.0) (λ heard. plan_lacks test sight (rest heard) (h.1 heard))
plan_lacks test sight (tries question rest) h =
    after_lacks test (try_hear question (found_from 0 sight.asked question)) (λ heard. need sight (rest heard))
    (try_lacks test question (found_from 0 sight.asked question) h.0)
    (λ heard. plan_lacks test sight (rest heard) (h.1 heard))
plan_lacks test sight (pairs p q rest) h =
    after_lacks test (beside (need sight p) (need sight q)) (λ two. need sight (rest two))
    (beside_lacks test (need sight p) (need sight q) (plan_lacks test sight p h.0) (plan_lacks test sight q h.1))
    (λ two. plan_lacks test sight (rest two) (h.2 two))

-- Facts that were replied are known -----------------------------------------------------------------------------------

-- the fact that was replied is known
abbrev pub IsLearnt : Known → Sent → Type 0
IsLearnt known sent = is_some sent.reply ≡ true → is_fact (question_of sent.want) ≡ true
    → is_some (fact_known (found_in known) (question_of sent.want)) ≡ true

unknown_unheard : (known : Known) (place : ℕ) (asked : List Sent) (question : Question) → All (IsLearnt known) asked
    → is_fact question ≡ true → fact_known (found_in known) question ≡ None → found_from place asked question ≡ None
unknown_unheard known place [] question h fact none = refl
unknown_unheard known place (sent ∷ asked) question h fact none =
    by_key (asks_for sent question) refl sent.reply refl (unknown_unheard known (suc place) asked question h.1 fact none)
  where
    by_key : (is : Bool) → asks_for sent question ≡ is → (reply : Option Replied) → sent.reply ≡ reply
        → found_from (suc place) asked question ≡ None
        → cond is (found_at place reply) (found_from (suc place) asked question) ≡ None
    by_key false key reply same rest = rest
    by_key true key None same rest = refl
    by_key true key (Some replied) same rest =
        let one = is_one (question_of sent.want) question key in
        let known_now = h.0 (ap is_some same) (ap is_fact one ∙ fact) in
        absurd (let no : true ≡ false =
        sym known_now ∙ ap (λ q. is_some (fact_known (found_in known) q)) one ∙ ap is_some none in cc)

-- a fact is heard alike with and without what was asked
heard_alone : (known : Known) (asked : List Sent) (want : Want) → All (IsLearnt known) asked → wants_fact want ≡ true
    → heard_of (record { classes = found_in known; asked = asked }) want ≡ heard_of (sight_alone known) want
heard_alone known asked (Want.Fact question) h fact = by_known (fact_known (found_in known) question) refl
  where
    by_known : (fact_now : Option (Option Answer)) → fact_known (found_in known) question ≡ fact_now
        → fact_heard question fact_now (found_from 0 asked question) ≡ fact_heard question fact_now None
    by_known None is = ap (fact_heard question None) (unknown_unheard known 0 asked question h fact is)
    by_known (Some heard) is = refl
heard_alone known asked _ h fact = cc

pub need_alone : {A : Type 0} (known : Known) (asked : List Sent) (p : Plan A) → All (IsLearnt known) asked
    → AllWants wants_fact p
    → need (record { classes = found_in known; asked = asked }) p ≡ need (sight_alone known) p
unfolding need AllWants
need_alone known asked (gives a) h k = refl
need_alone known asked (wants want rest) h k =
    ap (λ n. after n (λ heard. need (record { classes = found_in known; asked = asked }) (rest heard)))
    (heard_alone known asked want h k.0)
    ∙ after_like (heard_of (sight_alone known) want) _ _ (λ heard. need_alone known asked (rest heard) h (k.1 heard))
need_alone known asked (tries question rest) h k = cc
need_alone known asked (pairs p q rest) h k =
    ap (λ n. after n (λ two. need (record { classes = found_in known; asked = asked }) (rest two)))
    (ap (λ n. beside n (need (record { classes = found_in known; asked = asked }) q)) (need_alone known asked p h k.0)
    ∙ ap (beside (need (sight_alone known) p)) (need_alone known asked q h k.1))
    ∙ after_like (beside (need (sight_alone known) p) (need (sight_alone known) q)) _ _
    (λ two. need_alone known asked (rest two) h (k.2 two))

-- and never fails
abbrev pub does_fail : {A : Type 0} → Need A → Bool
does_fail (has a) = false
does_fail (fails fault) = true
does_fail (lacks want others) = false

heard_holds : (sight : Sight) (want : Want) → wants_fact want ≡ true → does_fail (heard_of sight want) ≡ false
heard_holds sight (Want.Fact question) fact =
    by_known (fact_known sight.classes question) (found_from 0 sight.asked question)
  where
    by_known : (fact_now : Option (Option Answer)) (found : Option Found)
        → does_fail (fact_heard question fact_now found) ≡ false
    by_known None None = refl
    by_known None (Some found) = refl
    by_known (Some heard) found = refl
heard_holds sight _ fact = cc

after_holds : {A B : Type 0} (n : Need A) (f : A → Need B) → does_fail n ≡ false → ((a : A) → does_fail (f a) ≡ false)
    → does_fail (after n f) ≡ false
after_holds (has a) f h k = k a
after_holds (fails fault) f h k = cc
after_holds (lacks want others) f h k = refl

beside_holds : {A B : Type 0} (n : Need A) (k : Need B) → does_fail n ≡ false → does_fail k ≡ false
    → does_fail (beside n k) ≡ false
beside_holds (has a) (fails fault) h k = cc
beside_holds (fails fault) k h l = cc
beside_holds (lacks want others) (fails fault) h k = cc
beside_holds _ _ h k = refl

pub need_holds : {A : Type 0} (sight : Sight) (p : Plan A) → AllWants wants_fact p → does_fail (need sight p) ≡ false
unfolding need AllWants
need_holds sight (gives a) h = refl
need_holds sight (wants want rest) h = after_holds (heard_of sight want) _ (heard_holds sight want h.0)
    (λ heard. need_holds sight (rest heard) (h.1 heard))
need_holds sight (tries question rest) h = cc
need_holds sight (pairs p q rest) h = after_holds (beside (need sight p) (need sight q)) _
    (beside_holds (need sight p) (need sight q) (need_holds sight p h.0) (need_holds sight q h.1))
    (λ two. need_holds sight (rest two) (h.2 two))
