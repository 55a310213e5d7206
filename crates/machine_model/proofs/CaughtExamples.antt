-- Worked examples of plans that try, checked by computation (JDWP, Error Constants, INVALID_THREAD and
-- THREAD_NOT_SUSPENDED).
use Rattle.std.proofs.Common.{◌≡◌, ℕ, List, [], ◌∷◌, Option, None, Some, refl}
use Rattle.std.specs.Prelude.{Ok, Err, codes}
use Rattle.class_tables.specs.Facts.{nothing}
use Rattle.class_tables.specs.Lookups.{found_in}
use Rattle.jdwp_commands.specs.declared.answer.Answer.TheVariants as answers
use Rattle.jdwp_commands.specs.declared.question.Question.TheVariants as questions
use Rattle.jdwp_values.specs.declared.id.ClassId.{ClassId}
use Rattle.machine_model.specs.Caught.{caught}
use Rattle.machine_model.specs.Facts.{methods_in}
use Rattle.machine_model.specs.Frames.{count_in}
use Rattle.machine_model.specs.Names.{Answer, Question, Replied, Sent, Want, an_answer, an_error}
use Rattle.machine_model.specs.Plans.{Plan, Sight, asking, chained, fails, gives, has, lacks, made_with, need, no_thread}
use Rattle.machine_model.specs.Plans.{of_world, other_error, pairs, tried_of}
use Rattle.machine_model.proofs.StopExamples.{one}

-- What is heard -------------------------------------------------------------------------------------------------------

abbrev class : ClassId
class = record { 0 = 32 }

-- an answer, the error of a thread that isn't there, and the errors beside it
hears_answer : tried_of (questions.FrameCount one) (an_answer (answers.FrameCount 2)) ≡ Ok (answers.FrameCount 2)
hears_answer = refl

hears_no_thread : tried_of (questions.FrameCount one) (an_error 10) ≡ Err no_thread
hears_no_thread = refl

hears_others : (tried_of (questions.FrameCount one) (an_error 9) ≡ Err other_error)
    × (tried_of (questions.FrameCount one) (an_error 11) ≡ Err other_error)
    × (tried_of (questions.FrameCount one) (an_error 13) ≡ Err other_error)
    × (tried_of (questions.FrameCount one) (an_error 0) ≡ Err other_error)
hears_others = (refl, refl, refl, refl)

-- an absent fact of a class says nothing of a thread
hears_of_class : (tried_of (questions.Methods class) (an_error 10) ≡ Err other_error)
    × (tried_of (questions.VariableTable class (record { 0 = 9 })) (an_error 10) ≡ Err other_error)
    × (tried_of (questions.ObjectType (record { 0 = 7 })) (an_error 10) ≡ Err no_thread)
hears_of_class = (refl, refl, refl)

-- What a plan comes to ------------------------------------------------------------------------------------------------

abbrev counts : Question
counts = questions.FrameCount one

abbrev names : Question
names = questions.ThreadName one

-- how many frames there are, which the plan can't do without
abbrev count_plan : Plan ℕ
count_plan = asking count_in (Want.Must counts)

abbrev name_in : Option Answer → List ℕ
name_in (Some (answers.ThreadName name)) = name
name_in _ = []

abbrev name_plan : Plan (List ℕ)
name_plan = asking name_in (Want.Must names)

-- what was asked, with these replies
abbrev sees : List Sent → Sight
sees asked = record { classes = found_in nothing; asked = asked }

abbrev asked : Want → Option Replied → Sent
asked want reply = record { want = want; reply = reply }

-- what it can't do without it tries: it is asked as what may be refused
tries_first : need (sees (asked (Want.May counts) None ∷ [])) (caught count_plan) ≡ lacks (Want.May counts) []
unfolding need caught
tries_first = refl

has_count : need (sees (asked (Want.May counts) (Some (an_answer (answers.FrameCount 2))) ∷ [])) (caught count_plan)
    ≡ has (Ok 2)
unfolding need caught
has_count = refl

-- the error fails the plan, and of the caught plan it is the value
fails_alone : need (sees (asked (Want.Must counts) (Some (an_error 10)) ∷ [])) count_plan
    ≡ fails (record { place = 0; code = 10 })
unfolding need
fails_alone = refl

hands_on : (need (sees (asked (Want.Must counts) (Some (an_error 10)) ∷ [])) (caught count_plan) ≡ has (Err no_thread))
    × (need (sees (asked (Want.May counts) (Some (an_error 13)) ∷ [])) (caught count_plan) ≡ has (Err other_error))
unfolding need caught
hands_on = (refl, refl)

-- behind an error nothing more is asked
abbrev both_behind : Plan (List ℕ)
both_behind = chained count_plan (λ count. name_plan)

stops_there : need (sees (asked (Want.May counts) (Some (an_error 13)) ∷ [])) (caught both_behind) ≡ has (Err other_error)
unfolding need caught chained
stops_there = refl

goes_on : need (sees (asked (Want.May counts) (Some (an_answer (answers.FrameCount 2))) ∷ [])) (caught both_behind)
    ≡ lacks (Want.May names) []
unfolding need caught chained
goes_on = refl

-- Side by side an error fails both, and nothing more is asked; caught, it leaves the other as it is.
fails_both : need (sees (asked (Want.May counts) (Some (an_error 13)) ∷ [])) (pairs count_plan name_plan gives)
    ≡ fails (record { place = 0; code = 13 })
unfolding need
fails_both = refl

leaves_other : need (sees (asked (Want.May counts) (Some (an_error 13)) ∷ []))
    (pairs (caught count_plan) (caught name_plan) gives) ≡ lacks (Want.May names) []
unfolding need caught
leaves_other = refl

gives_both : need (sees (asked (Want.May counts) (Some (an_error 13))
    ∷ asked (Want.May names) (Some (an_answer (answers.ThreadName (codes "main")))) ∷ []))
    (pairs (caught count_plan) (caught name_plan) gives) ≡ has (Err other_error, Ok (codes "main"))
unfolding need caught
gives_both = refl

-- Two side by side, caught as one: what both lack is asked at once, and of two errors the first of the plan decides.
abbrev pair_plan : Plan (ℕ × List ℕ)
pair_plan = pairs count_plan name_plan gives

asks_both : need (sees []) (caught pair_plan) ≡ lacks (Want.May counts) (Want.May names ∷ [])
unfolding need caught
asks_both = refl

first_decides : need (sees (asked (Want.May names) (Some (an_error 10)) ∷ asked (Want.May counts) (Some (an_error 13)) ∷ []))
    (caught pair_plan) ≡ has (Err other_error)
unfolding need caught
first_decides = refl

second_alone : need (sees (asked (Want.May names) (Some (an_error 10))
    ∷ asked (Want.May counts) (Some (an_answer (answers.FrameCount 2))) ∷ [])) (caught pair_plan) ≡ has (Err no_thread)
unfolding need caught
second_alone = refl

-- What a plan does without it does without when caught: an absent fact is the empty one.
abbrev methods_plan : Plan ℕ
methods_plan = made_with (λ methods. 5) (asking methods_in (Want.Fact (questions.Methods class)))

absent_fact : need (sees (asked (Want.Fact (questions.Methods class)) (Some (an_error 10)) ∷ [])) (caught methods_plan)
    ≡ has (Ok 5)
unfolding need caught made_with
absent_fact = refl

-- In a world ----------------------------------------------------------------------------------------------------------

-- a world that refuses each question with this error
abbrev refuses : ℕ → Question → Replied
refuses code question = an_error code

in_worlds : (of_world (refuses 10) count_plan ≡ None) × (of_world (refuses 10) (caught count_plan) ≡ Some (Err no_thread))
    × (of_world (refuses 13) (caught count_plan) ≡ Some (Err other_error))
    × (of_world (λ question. an_answer (answers.FrameCount 2)) (caught count_plan) ≡ Some (Ok 2))
unfolding of_world caught
in_worlds = (refl, refl, refl, refl)
