-- What look-ups come to, as the code computes it: first of plans side by side, and then of threads.
use Rattle.std.proofs.Common.{◌≡◌, List, [], ◌∷◌, ◌++◌, Option, Some, None, refl, sym, ap, ◌∙◌, flat_map, map}
use Rattle.std.proofs.lemmas.List.{append-nil}
use Rattle.jdwp_commands.specs.declared.question.Question.TheVariants as questions
use Rattle.jdwp_values.specs.declared.id.ThreadId.{ThreadId}
use Rattle.machine_model.specs.Lookups.{name_plan, named_by, names_plan, threads_in, threads_plan}
use Rattle.machine_model.specs.Plans.{Found, Plan, Sight, after, beside, chained, each, found_from, has, joined}
use Rattle.machine_model.specs.Plans.{lacks, made_with, may_hear, must_hear, need}
use Rattle.machine_model.specs.State.{State}
use Rattle.machine_model.specs.declared.acts.Sent.{Sent}
use Rattle.machine_model.specs.declared.acts.Want.{Want}
use Rattle.machine_model.specs.declared.parts.Finding.TheVariants.{Threads as threads_found}
use Rattle.machine_model.proofs.PlanIds.{need_made}
use Rattle.look_ups.specs.Asking.{reply_in}
use Rattle.talk_look_ups.specs.Planning.{lacking_name, lacks_or, name_known, name_question, named_thread, sight_in}
use Rattle.talk_look_ups.specs.Planning.{unless_replied}

-- Plans side by side --------------------------------------------------------------------------------------------------

-- what is made of a value that may be lacking
pub made_lacks : {A B : Type 0} (sight : Sight) (f : A → B) (p : Plan A) (wants : List Want) (a : A)
    → need sight p ≡ lacks_or wants a → need sight (made_with f p) ≡ lacks_or wants (f a)
made_lacks sight f p wants a is =
    need_made sight f p ∙ ap (λ n. after n (λ a. has (f a))) is ∙ by_wants wants
  where
    by_wants : (wants : List Want) → after (lacks_or wants a) (λ a. has (f a)) ≡ lacks_or wants (f a)
    by_wants [] = refl
    by_wants (first ∷ others) = refl

-- Where each plan has a value or lacks something, all together have their values or lack all that any lacks, in order.
pub each_lacks : {A B : Type 0} (sight : Sight) (f : A → Plan B) (wanted : A → List Want) (value : A → B)
    → ((a : A) → need sight (f a) ≡ lacks_or (wanted a) (value a)) → (all : List A)
    → need sight (each f all) ≡ lacks_or (flat_map wanted all) (map value all)
unfolding need each
each_lacks sight f wanted value is [] = refl
each_lacks {A} {B} sight f wanted value is (a ∷ others) =
    ap (λ n. after (beside n (need sight (each f others))) (λ two. has (two.0 ∷ two.1))) (is a)
    ∙ ap (λ n. after (beside (lacks_or (wanted a) (value a)) n) (λ two. has (two.0 ∷ two.1)))
    (each_lacks sight f wanted value is others)
    ∙ by_wants (wanted a) (flat_map wanted others)
  where
    by_wants : (wants more : List Want)
        → after (beside (lacks_or wants (value a)) (lacks_or more (map value others))) (λ two. has (two.0 ∷ two.1))
        ≡ lacks_or (wants ++ more) (value a ∷ map value others)
    by_wants [] [] = refl
    by_wants [] (want ∷ more) = refl
    by_wants (want ∷ wants) [] = ap (λ rest. lacks want rest) (sym (append-nil wants))
    by_wants (want ∷ wants) (other ∷ more) = refl

joined_is : {A B : Type 0} (value : A → List B) (all : List A) → joined (map value all) ≡ flat_map value all
joined_is value [] = refl
joined_is value (a ∷ others) = ap (λ rest. value a ++ rest) (joined_is value others)

-- the same of plans that give lists, which are joined
pub joined_lacks : {A B C : Type 0} (sight : Sight) (f : A → Plan (List B)) (made : List B → C)
    (wanted : A → List Want) (value : A → List B)
    → ((a : A) → need sight (f a) ≡ lacks_or (wanted a) (value a)) → (all : List A)
    → need sight (made_with (λ lists. made (joined lists)) (each f all))
    ≡ lacks_or (flat_map wanted all) (made (flat_map value all))
joined_lacks sight f made wanted value is all =
    made_lacks sight (λ lists. made (joined lists)) (each f all) (flat_map wanted all) (map value all)
    (each_lacks sight f wanted value is all)
    ∙ ap (λ list. lacks_or (flat_map wanted all) (made list)) (joined_is value all)

-- Threads -------------------------------------------------------------------------------------------------------------

name_need : (sight : Sight) (thread : ThreadId)
    → need sight (name_plan thread) ≡ lacks_or (lacking_name sight.asked thread) (name_known sight.asked thread)
unfolding need
name_need sight thread = by_found (found_from 0 sight.asked (name_question thread))
  where
    by_found : (found : Option Found)
        → after (may_hear (name_question thread) found) (λ heard. has (named_by thread heard))
        ≡ lacks_or (unless_replied (reply_in found) (Want.May (name_question thread)))
        (named_thread thread (reply_in found))
    by_found None = refl
    by_found (Some found) = refl

-- the names of threads
pub names_need : (state : State) (asked : List Sent) (threads : List ThreadId)
    → need (sight_in state asked) (names_plan threads)
    ≡ lacks_or (flat_map (lacking_name asked) threads) (threads_found (flat_map (name_known asked) threads))
names_need state asked threads =
    joined_lacks (sight_in state asked) name_plan (λ named. threads_found named) (lacking_name asked)
    (name_known asked) (name_need (sight_in state asked)) threads

-- all threads, and then their names
pub threads_need : (state : State) (asked : List Sent)
    → need (sight_in state asked) threads_plan
    ≡ after (must_hear questions.AllThreads (found_from 0 asked questions.AllThreads))
    (λ heard. need (sight_in state asked) (names_plan (threads_in heard)))
unfolding need chained
threads_need state asked = refl
