-- Look-ups as plans: what is asked of the target, and how it goes on by what is heard. A plan is data, and knows
-- neither replies nor classes: it is read by the replies so far and the facts that were learnt, or asked of a world.
use Rattle.std.specs.Prelude.{ℕ, suc, ◌==◌, ◌∷◌, ◌++◌, Bool, true, false, cond, List, [], nat_le, Option, None, Some}
use Rattle.std.specs.Prelude.{option_and_then, Result as Tried, Ok, Err}
use Rattle.class_tables.specs.Lookups.{Lookups}
use Rattle.machine_model.specs.Facts.{fact_known, fact_of, is_of_class}
use Rattle.machine_model.specs.Keys.{same_question}
use Rattle.machine_model.specs.Names.{Answer, Question, Replied, Sent, Want, an_answer, an_error}

-- Plans --------------------------------------------------------------------------------------------------------------

-- the question of a want
abbrev pub question_of : Want → Question
question_of (Want.Must question) = question
question_of (Want.May question) = question
question_of (Want.Fact question) = question

-- Why a question that is tried has no answer: its thread isn't there, or something else is wrong (JDWP, Error
-- Constants, INVALID_THREAD).
pub data Refusal : Type 0 where
  no_thread : Refusal
  other_error : Refusal

abbrev pub refusal_by : Bool → Refusal
refusal_by true = no_thread
refusal_by false = other_error

-- What is heard of a question that is tried: the answer, or why there is none. An error to a question for a fact of a
-- class says nothing of a thread, whatever its code.
abbrev pub tried_of : Question → Replied → Tried Answer Refusal
tried_of question (an_answer answer) = Ok answer
tried_of question (an_error code) = Err (refusal_by (cond (is_of_class question) false (code == 10)))

-- A plan gives a value; or wants something and goes on by what it hears, the answer, or nothing for an error; or tries
-- a question, and goes on by its answer or by why there is none; or follows two plans side by side, and goes on by what
-- both give.
pub data Plan : Type 0 → Type 1 where
  gives : {A : Type 0} → A → Plan A
  wants : {A : Type 0} → Want → (Option Answer → Plan A) → Plan A
  tries : {A : Type 0} → Question → (Tried Answer Refusal → Plan A) → Plan A
  pairs : {A B C : Type 0} → Plan A → Plan B → (A × B → Plan C) → Plan C

-- what depends on a value
unfoldable pub chained : {A B : Type 0} → Plan A → (A → Plan B) → Plan B
chained (gives a) go = go a
chained (wants want rest) go = wants want (λ heard. chained (rest heard) go)
chained (tries question rest) go = tries question (λ heard. chained (rest heard) go)
chained (pairs p q rest) go = pairs p q (λ two. chained (rest two) go)

-- what is made of a value
unfoldable pub made_with : {A B : Type 0} → (A → B) → Plan A → Plan B
made_with f (gives a) = gives (f a)
made_with f (wants want rest) = wants want (λ heard. made_with f (rest heard))
made_with f (tries question rest) = tries question (λ heard. made_with f (rest heard))
made_with f (pairs p q rest) = pairs p q (λ two. made_with f (rest two))

-- one plan for each, side by side
unfoldable pub each : {A B : Type 0} → (A → Plan B) → List A → Plan (List B)
each f [] = gives []
each f (a ∷ others) = pairs (f a) (each f others) (λ two. gives (two.0 ∷ two.1))

-- two plans side by side, and what both give
abbrev pub both : {A B : Type 0} → Plan A → Plan B → Plan (A × B)
both p q = pairs p q gives

-- lists behind one another
abbrev pub joined : {A : Type 0} → List (List A) → List A
joined [] = []
joined (first ∷ others) = first ++ joined others

-- what is read off from one answer
abbrev pub asking : {A : Type 0} → (Option Answer → A) → Want → Plan A
asking read want = wants want (λ heard. gives (read heard))

-- By the replies so far ----------------------------------------------------------------------------------------------

-- What a plan is read by: the facts of classes that were learnt, and what was asked for the item in hand, in order of
-- sending.
pub record Sight : Type 0 where
  pub classes : Lookups
  pub asked : List Sent

-- an error, and the place of its question in the order of sending
pub record Fault : Type 0 where
  pub place : ℕ
  pub code : ℕ

-- What a plan comes to by the replies so far: it has a value; the target refused what it can't do without; or it lacks
-- the answers to these, of which any may be asked now.
pub data Need (A : Type 0) : Type 0 where
  has : A → Need A
  fails : Fault → Need A
  lacks : Want → List Want → Need A

-- of two errors the first in order of sending
abbrev pub earlier : Fault → Fault → Fault
earlier fault other = cond (nat_le fault.place other.place) fault other

-- what depends on a value
abbrev pub after : {A B : Type 0} → Need A → (A → Need B) → Need B
after (has a) go = go a
after (fails fault) go = fails fault
after (lacks want others) go = lacks want others

-- two side by side: an error beats what is lacking, and what either lacks may be asked at once
abbrev pub beside_value : {A B : Type 0} → A → Need B → Need (A × B)
beside_value a (has b) = has (a, b)
beside_value a (fails fault) = fails fault
beside_value a (lacks want others) = lacks want others

abbrev pub beside_fault : {A B : Type 0} → Fault → Need B → Need (A × B)
beside_fault fault (has b) = fails fault
beside_fault fault (fails other) = fails (earlier fault other)
beside_fault fault (lacks want others) = fails fault

abbrev pub beside_lack : {A B : Type 0} → Want → List Want → Need B → Need (A × B)
beside_lack want others (has b) = lacks want others
beside_lack want others (fails fault) = fails fault
beside_lack want others (lacks other more) = lacks want (others ++ other ∷ more)

abbrev pub beside : {A B : Type 0} → Need A → Need B → Need (A × B)
beside (has a) other = beside_value a other
beside (fails fault) other = beside_fault fault other
beside (lacks want others) other = beside_lack want others other

-- the reply to a question, and its place in the order of sending
pub record Found : Type 0 where
  pub place : ℕ
  pub replied : Replied

abbrev pub found_at : ℕ → Option Replied → Option Found
found_at place None = None
found_at place (Some replied) = Some (record { place = place; replied = replied })

-- it asks this
abbrev pub asks_for : Sent → Question → Bool
asks_for sent question = same_question (question_of sent.want) question

abbrev pub found_from : ℕ → List Sent → Question → Option Found
found_from place [] question = None
found_from place (sent ∷ asked) question =
    cond (asks_for sent question) (found_at place sent.reply) (found_from (suc place) asked question)

-- the answer in a reply
abbrev pub answer_in : Replied → Option Answer
answer_in (an_answer answer) = Some answer
answer_in (an_error code) = None

-- what was heard of a want: an error fails what can't do without the answer
abbrev pub must_by : ℕ → Replied → Need (Option Answer)
must_by place (an_answer answer) = has (Some answer)
must_by place (an_error code) = fails (record { place = place; code = code })

abbrev pub must_hear : Question → Option Found → Need (Option Answer)
must_hear question None = lacks (Want.Must question) []
must_hear question (Some found) = must_by found.place found.replied

abbrev pub may_hear : Question → Option Found → Need (Option Answer)
may_hear question None = lacks (Want.May question) []
may_hear question (Some found) = has (answer_in found.replied)

-- a fact that isn't known yet is the one that was replied
abbrev pub fact_replied : Question → Option Found → Need (Option Answer)
fact_replied question None = lacks (Want.Fact question) []
fact_replied question (Some found) = has (fact_of question (answer_in found.replied))

abbrev pub fact_heard : Question → Option (Option Answer) → Option Found → Need (Option Answer)
fact_heard question None found = fact_replied question found
fact_heard question (Some answer) found = has answer

abbrev pub heard_of : Sight → Want → Need (Option Answer)
heard_of sight (Want.Must question) = must_hear question (found_from 0 sight.asked question)
heard_of sight (Want.May question) = may_hear question (found_from 0 sight.asked question)
heard_of sight (Want.Fact question) =
    fact_heard question (fact_known sight.classes question) (found_from 0 sight.asked question)

-- a question that is tried is asked as one that a plan can do without
abbrev pub try_hear : Question → Option Found → Need (Tried Answer Refusal)
try_hear question None = lacks (Want.May question) []
try_hear question (Some found) = has (tried_of question found.replied)

-- what a plan comes to
unfoldable pub need : {A : Type 0} → Sight → Plan A → Need A
need sight (gives a) = has a
need sight (wants want rest) = after (heard_of sight want) (λ heard. need sight (rest heard))
need sight (tries question rest) =
    after (try_hear question (found_from 0 sight.asked question)) (λ heard. need sight (rest heard))
need sight (pairs p q rest) = after (beside (need sight p) (need sight q)) (λ two. need sight (rest two))

-- the value, or the code of the error that decides
pub data Result (A : Type 0) : Type 0 where
  gave : A → Result A
  refused : ℕ → Result A

abbrev pub is_done : {A : Type 0} → Need A → Bool
is_done (has a) = true
is_done (fails fault) = true
is_done (lacks want others) = false

-- what is lacking
abbrev pub lacking : {A : Type 0} → Need A → List Want
lacking (has a) = []
lacking (fails fault) = []
lacking (lacks want others) = want ∷ others

-- In a world ---------------------------------------------------------------------------------------------------------

-- what a world says to a want: none where it refuses what a plan can't do without
abbrev pub must_say : Replied → Option (Option Answer)
must_say (an_answer answer) = Some (Some answer)
must_say (an_error code) = None

abbrev pub said_of : (Question → Replied) → Want → Option (Option Answer)
said_of world (Want.Must question) = must_say (world question)
said_of world (Want.May question) = Some (answer_in (world question))
said_of world (Want.Fact question) = Some (fact_of question (answer_in (world question)))

-- two values, where both are there
abbrev pub two_of : {A B : Type 0} → Option A → Option B → Option (A × B)
two_of None b = None
two_of (Some a) None = None
two_of (Some a) (Some b) = Some (a, b)

-- The same plan asked of a world, which replies to each question: none where the world refuses what the plan can't do
-- without.
unfoldable pub of_world : {A : Type 0} → (Question → Replied) → Plan A → Option A
of_world world (gives a) = Some a
of_world world (wants want rest) = option_and_then (λ heard. of_world world (rest heard)) (said_of world want)
of_world world (tries question rest) = of_world world (rest (tried_of question (world question)))
of_world world (pairs p q rest) =
    option_and_then (λ two. of_world world (rest two)) (two_of (of_world world p) (of_world world q))
