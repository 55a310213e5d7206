-- What may be asked in any order, worked by computation: the names of three threads.
use Rattle.std.proofs.Common.{◌≡◌, ℕ, zero, suc, true, false, List, [], ◌∷◌, ◌++◌, Option, Some, None, refl, ap, arith}
use Rattle.std.proofs.Common.{map}
use Rattle.std.specs.List.{AllByRecursion as All, Contains}
use Rattle.jdwp_commands.specs.declared.answer.Answer.TheVariants as answers
use Rattle.jdwp_commands.specs.declared.question.Question.TheVariants as questions
use Rattle.machine_model.specs.Due.{due, lacked_by, load_of, newly_lacked, wanted}
use Rattle.machine_model.specs.Names.{Answer, Attached, Part, Sent, Threads, Want, a_question, a_request}
use Rattle.machine_model.specs.Names.{all_threads, an_answer}
use Rattle.machine_model.specs.Plans.{chained, each, made_with, need}
use Rattle.machine_model.specs.Replying.{answered}
use Rattle.machine_model.specs.Runs.{Allows, MayQueue, Message, Run, heard, to_ask}
use Rattle.machine_model.specs.State.{Hand, Machine, State, in_hand, nothing_known}
use Rattle.machine_model.proofs.Examples.{asks, attached, drive, request, said_on}
use Rattle.wish_sets.specs.Wished.{wished}
use Rattle.wish_sets.specs.Wishes.{next_change}

abbrev name_of : ℕ → Want
name_of id = Want.May (questions.ThreadName (record { 0 = id }))

abbrev asks_name : ℕ → Message
asks_name id = asks (questions.ThreadName (record { 0 = id }))

-- the target has three threads
abbrev those : Answer
those = answers.AllThreads (map (λ (id : ℕ). record { 0 = id }) (21 ∷ 22 ∷ 23 ∷ []))

abbrev their_names : List Want
their_names = name_of 21 ∷ name_of 22 ∷ name_of 23 ∷ []

-- A session -----------------------------------------------------------------------------------------------------------

-- a `threads` is in hand, and all threads were listed
abbrev listed : Machine
listed = answered (drive 6 (heard attached (request 2 Threads))) (a_question questions.AllThreads) (an_answer those)

abbrev last : List Want
last = name_of 23 ∷ name_of 21 ∷ []

abbrev put : Option Hand → Machine
put None = listed
put (Some hand) = to_ask listed hand last

-- by itself it asks for the names in the order of the threads
own_order : said_on 5 listed ≡ asks_name 21 ∷ asks_name 22 ∷ asks_name 23 ∷ []
unfolding due wanted load_of newly_lacked next_change wished need chained made_with each
own_order = refl

-- once others are put in front they go first, and then the one that is left
other_order : said_on 5 (put listed.hand) ≡ asks_name 23 ∷ asks_name 21 ∷ asks_name 22 ∷ []
unfolding due wanted load_of newly_lacked next_change wished need chained made_with each
other_order = refl

-- What may be asked ---------------------------------------------------------------------------------------------------

abbrev known : State
known = record nothing_known {
  phase = Attached;
  greeting_sent = true;
  greeting_heard = true;
  sizes = Some (record { field = 8; method = 8; object = 8; class = 8; frame = 8 });
}

-- the item in hand, which has asked this
abbrev with_asked : List Sent → Hand
with_asked asked = record (in_hand (a_request (request 2 Threads)) (Part.Looks all_threads ∷ [])) {
  asked = record { want = Want.Must questions.AllThreads; reply = Some (an_answer those) } ∷ asked;
}

abbrev having : Hand → Machine
having hand = record { state = known; waiting = []; hand = Some hand; late = []; closing = false }

-- its part in front lacks the three names
lacks_names : lacked_by known (with_asked []) (Part.Looks all_threads ∷ []) ≡ their_names
unfolding need chained made_with each
lacks_names = refl

are_last : All (λ want. Contains their_names want) last
are_last = ((2, omega arith, refl), ((0, omega arith, refl), tt))

-- the last and the first may be asked, in this order
may_be_asked : MayQueue (having (with_asked [])) (with_asked []) last
unfolding need chained made_with each
may_be_asked = record { held = refl; near = refl; unread = refl; still = refl; lacking = are_last; apart = refl }

-- so a run that came here may ask for the last
asks_last : {messages : List Message} → Run messages (having (with_asked []))
    → Run (messages ++ asks_name 23 ∷ []) (due false (to_ask (having (with_asked [])) (with_asked []) last)).next
unfolding due load_of
asks_last r = Run.moves (Run.queues r may_be_asked) (Allows.acts refl)

-- What may not be asked -----------------------------------------------------------------------------------------------

-- one question twice
not_twice : ¬ (MayQueue (having (with_asked [])) (with_asked []) (name_of 21 ∷ name_of 21 ∷ []))
not_twice may = let no : false ≡ true = may.apart in cc

-- one that isn't lacking
abbrev id_in : Want → ℕ
id_in (Want.May (questions.ThreadName thread)) = thread.0
id_in _ = 0

not_among : ¬ (Contains their_names (name_of 24))
not_among (zero, less, is) = let no : 21 ≡ 24 = ap id_in is in absurd (omega (arith, no))
not_among (suc zero, less, is) = let no : 22 ≡ 24 = ap id_in is in absurd (omega (arith, no))
not_among (suc (suc zero), less, is) = let no : 23 ≡ 24 = ap id_in is in absurd (omega (arith, no))
not_among (suc (suc (suc place)), less, is) = absurd (omega (arith, less))

not_another : ¬ (MayQueue (having (with_asked [])) (with_asked []) (name_of 24 ∷ []))
unfolding need chained made_with each
not_another may = not_among may.lacking.0

-- one that was asked, whose reply isn't there
abbrev one_asked : Hand
one_asked = with_asked (record { want = name_of 23; reply = None } ∷ [])

not_again : ¬ (MayQueue (having one_asked) one_asked (name_of 23 ∷ []))
not_again may = let no : false ≡ true = may.apart in cc

-- but the others may be asked beside it, in any order
are_left : All (λ want. Contains their_names want) (name_of 22 ∷ name_of 21 ∷ [])
are_left = ((1, omega arith, refl), ((0, omega arith, refl), tt))

may_go_on : MayQueue (having one_asked) one_asked (name_of 22 ∷ name_of 21 ∷ [])
unfolding need chained made_with each
may_go_on = record { held = refl; near = refl; unread = refl; still = refl; lacking = are_left; apart = refl }
