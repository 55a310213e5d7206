-- What holds of every look-up, by whatever was replied and learnt. Each law stands behind the words that it uses.
use Rattle.std.specs.Prelude.{ℕ, zero, suc, ◌≡◌, ◌≤◌, ◌⊎◌, ◌∷◌, true, false, List, [], Contains, map}
use Rattle.std.specs.Prelude.{Option, None, Some}
use Rattle.jdwp_commands.specs.declared.answer.Answer.TheVariants as answers
use Rattle.jdwp_commands.specs.declared.question.Question.TheVariants as questions
use Rattle.machine_model.specs.Facts.{fact_known, fact_of}
use Rattle.machine_model.specs.Lookups.{found_for, named_by, plan, sight_of}
use Rattle.machine_model.specs.Names.{Answer, Finding, Lookup, Question, Replied, Sent, ThreadId, Want, all_threads}
use Rattle.machine_model.specs.Names.{an_answer, an_error, threads_found}
use Rattle.machine_model.specs.Plans.{Fault, Need, Plan, Sight, answer_in, asks_for, fails, gives, has, lacks}
use Rattle.machine_model.specs.Plans.{joined, of_world, pairs, tried_of, tries, wants}
use Rattle.machine_model.specs.State.{Hand, State}

-- How far a plan has come ---------------------------------------------------------------------------------------------

-- the first that asks this question stands at this place in the order of sending, and has this reply
abbrev pub RepliedAt : ℕ → List Sent → Question → Replied → Type 0
RepliedAt place [] question replied = ⊥
RepliedAt zero (sent ∷ asked) question replied = (asks_for sent question ≡ true) × (sent.reply ≡ Some replied)
RepliedAt (suc place) (sent ∷ asked) question replied =
    (asks_for sent question ≡ false) × RepliedAt place asked question replied

-- an error was replied to what the plan can't do without
abbrev pub IsRefused : Sight → Fault → Want → Type 0
IsRefused sight fault (Want.Must question) = RepliedAt fault.place sight.asked question (an_error fault.code)
IsRefused sight fault _ = ⊥

-- a question has no reply
abbrev pub HasNoReply : List Sent → Question → Type 0
HasNoReply asked question = (place : ℕ) (replied : Replied) → RepliedAt place asked question replied → ⊥

-- what is wanted has no reply, and is no fact that is known
abbrev pub IsUnheard : Sight → Want → Type 0
IsUnheard sight (Want.Must question) = HasNoReply sight.asked question
IsUnheard sight (Want.May question) = HasNoReply sight.asked question
IsUnheard sight (Want.Fact question) =
    (fact_known sight.classes question ≡ None) × HasNoReply sight.asked question

-- the reply to a question
pub record IsReply (asked : List Sent) (question : Question) (replied : Replied) : Type 0 where
  pub place : ℕ
  pub stands : RepliedAt place asked question replied

-- what was heard of a want: the answer, or nothing for an error where the plan can do without it; a fact that isn't
-- known yet is the one that was replied
abbrev pub Hears : Sight → Want → Option Answer → Type 0
Hears sight (Want.Must question) None = ⊥
Hears sight (Want.Must question) (Some answer) = IsReply sight.asked question (an_answer answer)
Hears sight (Want.May question) heard =
    (replied : Replied) × IsReply sight.asked question replied × (answer_in replied ≡ heard)
Hears sight (Want.Fact question) heard =
    (fact_known sight.classes question ≡ Some heard) ⊎ ((fact_known sight.classes question ≡ None)
    × (replied : Replied) × IsReply sight.asked question replied × (fact_of question (answer_in replied) ≡ heard))

-- the value that the plan gives by all that was heard
abbrev pub Gives : {A : Type 0} → Sight → Plan A → A → Type 0
Gives sight (gives a) value = a ≡ value
Gives sight (wants want rest) value = (heard : Option Answer) × Hears sight want heard × Gives sight (rest heard) value
Gives sight (tries question rest) value =
    (replied : Replied) × IsReply sight.asked question replied × Gives sight (rest (tried_of question replied)) value
Gives sight (pairs p q rest) value =
    (two : _) × Gives sight p two.0 × Gives sight q two.1 × Gives sight (rest two) value

-- The plan has come to a want of this kind: what stands before it was heard.
abbrev pub Reaches : {A : Type 0} → Sight → (Want → Type 0) → Plan A → Type 0
Reaches sight Kind (gives a) = ⊥
Reaches sight Kind (wants want rest) =
    Kind want ⊎ ((heard : Option Answer) × Hears sight want heard × Reaches sight Kind (rest heard))
Reaches sight Kind (tries question rest) = Kind (Want.May question)
    ⊎ ((replied : Replied) × IsReply sight.asked question replied × Reaches sight Kind (rest (tried_of question replied)))
Reaches sight Kind (pairs p q rest) = (Reaches sight Kind p ⊎ Reaches sight Kind q)
    ⊎ ((two : _) × Gives sight p two.0 × Gives sight q two.1 × Reaches sight Kind (rest two))

-- Errors --------------------------------------------------------------------------------------------------------------

-- the plan has come to an error to what it can't do without
abbrev pub HasMet : {A : Type 0} → Sight → Plan A → Fault → Type 0
HasMet sight p fault = Reaches sight (IsRefused sight fault) p

-- it is the first, in order of sending, of the errors that the plan has met
pub record IsFirstError {A : Type 0} (sight : Sight) (p : Plan A) (fault : Fault) : Type 0 where
  pub met : HasMet sight p fault
  pub first : (other : Fault) → HasMet sight p other → fault.place ≤ other.place

-- what fails does so by the first error that it has met; what has a value, or lacks something, has met none
abbrev pub FailsFirst : {A : Type 0} → Sight → Plan A → Need A → Type 0
FailsFirst sight p (has value) = (fault : Fault) → HasMet sight p fault → ⊥
FailsFirst sight p (fails fault) = IsFirstError sight p fault
FailsFirst sight p (lacks first others) = (fault : Fault) → HasMet sight p fault → ⊥

-- A look-up that has met an error to what it can't do without fails, and lacks nothing more. The first of such errors
-- in order of sending decides, whichever came first.
abbrev pub Errors : Type 0
Errors = (state : State) (hand : Hand) (lookup : Lookup)
    → FailsFirst (sight_of state hand) (plan lookup state) (found_for lookup state hand)

-- Wants ---------------------------------------------------------------------------------------------------------------

-- it is this want, of which nothing was heard
abbrev pub IsMissing : Sight → Want → Want → Type 0
IsMissing sight want other = (want ≡ other) × IsUnheard sight other

-- the plan has come to this want, and nothing was heard of it
abbrev pub IsOpen : {A : Type 0} → Sight → Plan A → Want → Type 0
IsOpen sight p want = Reaches sight (IsMissing sight want) p

-- these are just what is open
pub record AreOpen {A : Type 0} (sight : Sight) (p : Plan A) (lacking : List Want) : Type 0 where
  pub each : (want : Want) → Contains lacking want → IsOpen sight p want
  pub all : (want : Want) → IsOpen sight p want → Contains lacking want

-- what lacks something lacks just what is open; what has a value has that which the plan gives by all that was heard
abbrev pub LacksOpen : {A : Type 0} → Sight → Plan A → Need A → Type 0
LacksOpen sight p (has value) = Gives sight p value × ((want : Want) → IsOpen sight p want → ⊥)
LacksOpen sight p (fails fault) = Unit {0}
LacksOpen sight p (lacks first others) = AreOpen sight p (first ∷ others)

-- A look-up lacks just what it has come to and has not heard of. One that lacks nothing has failed, or has the value
-- that its plan gives by all that was heard.
abbrev pub Wants : Type 0
Wants = (state : State) (hand : Hand) (lookup : Lookup)
    → LacksOpen (sight_of state hand) (plan lookup state) (found_for lookup state hand)

-- Worlds --------------------------------------------------------------------------------------------------------------

-- What was replied is what a world replies, the same answer or an error to the same question; where the question is
-- tried, the error says of the thread what the world's says; and what is known of classes is so in the world.
pub record IsOf (world : Question → Replied) (sight : Sight) : Type 0 where
  pub replies : (question : Question) (replied : Replied) → IsReply sight.asked question replied
      → answer_in replied ≡ answer_in (world question)
  pub refusals : (question : Question) (replied : Replied) → IsReply sight.asked question replied
      → tried_of question replied ≡ tried_of question (world question)
  pub facts : (question : Question) (fact : Option Answer) → fact_known sight.classes question ≡ Some fact
      → fact ≡ fact_of question (answer_in (world question))

-- what it comes to is what it gives in the world: its value, or none where it fails
abbrev pub Agrees : {A : Type 0} → Need A → Option A → Type 0
Agrees (has value) there = there ≡ Some value
Agrees (fails fault) there = there ≡ None
Agrees (lacks want others) there = Unit {0}

-- the threads that a world lists, each with the name that it has there; those whose name is refused are left out
abbrev pub threads_in_world : (Question → Replied) → List ThreadId → Finding
threads_in_world world threads =
    threads_found (joined (map (λ thread. named_by thread (answer_in (world (questions.ThreadName thread)))) threads))

-- look-ups in a world, and the threads there
pub record AreOfWorld (world : Question → Replied) (state : State) : Type 0 where
  pub agree : (hand : Hand) (lookup : Lookup) → IsOf world (sight_of state hand)
      → Agrees (found_for lookup state hand) (of_world world (plan lookup state))
  pub threads : (listed : List ThreadId) → world questions.AllThreads ≡ an_answer (answers.AllThreads listed)
      → of_world world (plan all_threads state) ≡ Some (threads_in_world world listed)

-- A look-up that is done by a world's replies has the value that it has in that world, in whatever order they were
-- asked for and came; one that has failed has none there. `threads` has the threads of the world with their names.
abbrev pub Worlds : Type 0
Worlds = (world : Question → Replied) (state : State) → AreOfWorld world state
