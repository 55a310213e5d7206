-- A look-up by a world's replies is the look-up in that world.
use Rattle.std.proofs.Common.{◌≡◌, List, [], ◌∷◌, map, Option, Some, None, refl, sym, ap, ◌∙◌, ⊎_elim}
use Rattle.jdwp_commands.specs.declared.answer.Answer.TheVariants as answers
use Rattle.jdwp_commands.specs.declared.question.Question.TheVariants as questions
use Rattle.machine_model.specs.Facts.{fact_of}
use Rattle.machine_model.specs.Lookups.{name_plan, named_by, names_plan, plan, sight_of, threads_plan}
use Rattle.machine_model.specs.PlanLaws.{Agrees, AreOfWorld, Hears, IsOf, IsRefused, IsUnheard, threads_in_world}
use Rattle.machine_model.specs.Plans.{Fault, Need, Plan, Sight, answer_in, chained, each, gives, lacks, made_with}
use Rattle.machine_model.specs.Plans.{beside, found_from, heard_of, must_say, need, of_world, pairs, said_of, tries}
use Rattle.machine_model.specs.Plans.{try_hear, two_of, wants}
use Rattle.machine_model.specs.State.{State}
use Rattle.machine_steps.specs.Names.{Answer, NamedThread, Question, Replied, ThreadId, Want, an_answer, an_error}
use Rattle.machine_laws.proofs.PlanLaws.{Each, IsSo, IsUntried, Tries, after_so, beside_so, heard_so, tried_so}

-- By a world's replies ------------------------------------------------------------------------------------------------

said_alike : (replied there : Replied) → answer_in replied ≡ answer_in there → must_say there ≡ must_say replied
said_alike (an_answer answer) (an_answer other) is = ap Some (sym is)
said_alike (an_error code) (an_error other) is = refl
said_alike _ _ is = cc

-- what was heard the world says
hears_said : (world : Question → Replied) (sight : Sight) (want : Want) (heard : Option Answer) → IsOf world sight
    → Hears sight want heard → said_of world want ≡ Some heard
hears_said world sight (Want.Must question) None w h = absurd h
hears_said world sight (Want.Must question) (Some answer) w h =
    said_alike (an_answer answer) (world question) (w.replies question (an_answer answer) h)
hears_said world sight (Want.May question) heard w h = ap Some (sym (w.replies question h.0 h.1) ∙ h.2)
hears_said world sight (Want.Fact question) heard w h =
    ⊎_elim (λ known. ap Some (sym (w.facts question heard known)))
    (λ told. ap Some (ap (fact_of question) (sym (w.replies question told.1 told.2)) ∙ told.3)) h

-- what was refused the world refuses
refused_said : (world : Question → Replied) (sight : Sight) (fault : Fault) (want : Want) → IsOf world sight
    → IsRefused sight fault want → said_of world want ≡ None
refused_said world sight fault (Want.Must question) w h = said_alike (an_error fault.code) (world question)
    (w.replies question (an_error fault.code) (record { place = fault.place; stands = h }))
refused_said world sight fault _ w h = absurd h

none_beside : {A B : Type 0} (here : Option A) (there : Option B) → there ≡ None → two_of here there ≡ None
none_beside None there is = refl
none_beside (Some a) there is = rw is refl

-- what a plan comes to it comes to in the world
need_there : {A : Type 0} (world : Question → Replied) (sight : Sight) (p : Plan A) (V : A → Type 0) (E : Type 0)
    → IsOf world sight → ((a : A) → of_world world p ≡ Some a → V a) → (of_world world p ≡ None → E)
    → IsSo V (λ fault. E) (Each (λ want. Unit {0})) (need sight p)
unfolding need of_world
need_there world sight (gives a) V E w v e = v a refl
need_there world sight (wants want rest) V E w v e =
    after_so (Hears sight want) (λ fault. IsRefused sight fault want) (λ fault. E)
    (λ ones. (ones ≡ want ∷ []) × IsUnheard sight want) (Each (λ want. Unit {0})) V (heard_of sight want)
    (λ heard. need sight (rest heard)) (heard_so sight want)
    (λ heard h. let said = hears_said world sight want heard w h in
    need_there world sight (rest heard) V E w (λ a g. v a (rw said g)) (λ none. e (rw said none)))
    (λ fault h. e (rw (refused_said world sight fault want w h) refl)) (λ ones h other i. tt)
need_there world sight (tries question rest) V E w v e =
    after_so (Tries sight question) (λ fault. ⊥) (λ fault. E) (IsUntried sight question) (Each (λ want. Unit {0})) V
    (try_hear question (found_from 0 sight.asked question)) (λ heard. need sight (rest heard)) (tried_so sight question)
    (λ heard h. let said = sym (w.refusals question h.0 h.1) ∙ h.2 in
    need_there world sight (rest heard) V E w (λ a g. v a (rw said g)) (λ none. e (rw said none)))
    (λ fault no. absurd no) (λ ones h other i. tt)
need_there world sight (pairs p q rest) V E w v e =
    after_so _ (λ fault. two_of (of_world world p) (of_world world q) ≡ None) (λ fault. E) (Each (λ want. Unit {0}))
    (Each (λ want. Unit {0})) V (beside (need sight p) (need sight q)) (λ two. need sight (rest two))
    (beside_so _ _ (λ fault. two_of (of_world world p) (of_world world q) ≡ None) (λ want. Unit {0}) (need sight p)
    (need sight q)
    (need_there world sight p (λ a. of_world world p ≡ Some a) (two_of (of_world world p) (of_world world q) ≡ None) w
    (λ a g. g) (λ none. rw none refl))
    (need_there world sight q (λ a. of_world world q ≡ Some a) (two_of (of_world world p) (of_world world q) ≡ None) w
    (λ a g. g) (λ none. none_beside (of_world world p) (of_world world q) none)))
    (λ two h. need_there world sight (rest two) V E w (λ a g. v a (rw (h.0, h.1) g)) (λ none. e (rw (h.0, h.1) none)))
    (λ fault none. e (rw none refl)) (λ ones h. h)

agrees_of : {A : Type 0} (n : Need A) (there : Option A)
    → IsSo (λ a. there ≡ Some a) (λ fault. there ≡ None) (Each (λ want. Unit {0})) n → Agrees n there
agrees_of (lacks first others) there so = tt
agrees_of _ there so = so

-- Threads in a world --------------------------------------------------------------------------------------------------

-- the name of a thread in a world, or nothing where it is refused
abbrev name_there : (Question → Replied) → ThreadId → List NamedThread
name_there world thread = named_by thread (answer_in (world (questions.ThreadName thread)))

each_there : (world : Question → Replied) (threads : List ThreadId)
    → of_world world (each name_plan threads) ≡ Some (map (name_there world) threads)
unfolding of_world each
each_there world [] = refl
each_there world (thread ∷ threads) = rw (each_there world threads) refl

names_there : (world : Question → Replied) (threads : List ThreadId)
    → of_world world (names_plan threads) ≡ Some (threads_in_world world threads)
unfolding of_world each made_with
names_there world [] = refl
names_there world (thread ∷ threads) = rw (each_there world threads) refl

threads_there : (world : Question → Replied) (threads : List ThreadId)
    → world questions.AllThreads ≡ an_answer (answers.AllThreads threads)
    → of_world world threads_plan ≡ Some (threads_in_world world threads)
unfolding of_world chained
threads_there world threads is = rw is (names_there world threads)

pub worlds : (world : Question → Replied) (state : State) → AreOfWorld world state
worlds world state = record {
  agree = λ hand lookup w. agrees_of _ (of_world world (plan lookup state))
      (need_there world (sight_of state hand) (plan lookup state) _ _ w (λ a g. g) (λ none. none));
  threads = threads_there world;
}
