-- What may be asked in any order, worked by computation: the names of three threads, by a reading that stands where
-- they are lacking.
use Rattle.std.proofs.Common.{ℕ, ◌+◌, true, false, List, [], ◌∷◌, ◌++◌, Some, None, refl, arith, map}
use Rattle.dap_messages.specs.declared.requests.Command.TheVariants.{Threads}
use Rattle.jdwp_commands.specs.declared.answer.Answer.TheVariants as answers
use Rattle.jdwp_commands.specs.declared.question.Question.TheVariants as questions
use Rattle.jdwp_values.specs.declared.sizes.IdSizes.{IdSizes}
use Rattle.legal_logs.specs.Asking.{IsHeld, MaySay}
use Rattle.legal_logs.specs.Readings.{IsAdded, Reading}
use Rattle.machine_model.specs.declared.acts.Sent.{Sent}
use Rattle.machine_model.specs.declared.parts.Lookup.TheVariants.{Threads as all_threads}
use Rattle.machine_model.specs.Plans.{chained, each, made_with, need}
use Rattle.machine_model.specs.Replying.{sizes_of, sizes_read, wire}
use Rattle.machine_model.specs.Runs.{MayQueue, Message}
use Rattle.machine_model.specs.State.{Hand, Machine, State, in_hand, nothing_known}
use Rattle.session_model.specs.Causes.{IsOn}
use Rattle.session_model.specs.Names.{a_question, a_request, an_answer, Answer, Attached, Entry, Limits, Out, Part}
use Rattle.session_model.specs.Names.{Request, Target, Want}
use Rattle.session_model.specs.Saying.{Speaks, nth_command, one_sent}
use Rattle.session_model.specs.States.{SessionState, StreamState, no_bytes}

abbrev limits : Limits
limits = record { turns = 9; quiet = 3; waiting = 2 }

abbrev lists : Request
lists = record { seq = 2; name = []; command = Threads }

abbrev name_of : ℕ → Want
name_of id = Want.May (questions.ThreadName (record { 0 = id }))

abbrev asks_name : ℕ → Message
asks_name id = Message.sends (a_question (questions.ThreadName (record { 0 = id })))

-- the target has three threads
abbrev those : Answer
those = answers.AllThreads (map (λ (id : ℕ). record { 0 = id }) (21 ∷ 22 ∷ 23 ∷ []))

-- the target's ids take as many bytes as it said
abbrev known : IdSizes → State
known used = record nothing_known {
  phase = Attached;
  greeting_sent = true;
  greeting_heard = true;
  sizes = Some (sizes_of used);
}

-- a `threads` is in hand, all threads were listed, and this was asked since
abbrev with_asked : List Sent → Hand
with_asked asked = record (in_hand (a_request lists) (Part.Looks all_threads ∷ [])) {
  asked = record { want = Want.Must questions.AllThreads; reply = Some (an_answer those) } ∷ asked;
}

abbrev having : IdSizes → Hand → Machine
having used hand = record { state = known used; waiting = []; hand = Some hand; late = []; closing = false }

-- five commands were sent, and each has its reply
abbrev five_sent : StreamState
five_sent = record no_bytes { commands = record { sent = []; next = 5 } }

abbrev standing : IdSizes → SessionState
standing used = record { machine = having used (with_asked []); streams = five_sent; quiets = 0 }

abbrev asks_last : Sent
asks_last = record { want = name_of 23; reply = None }

abbrev question_bytes : IdSizes → ℕ → ℕ → List ℕ
question_bytes used n id = nth_command n used (wire (a_question (questions.ThreadName (record { 0 = id }))))

-- where the name of the last thread was asked for
abbrev one_asked : IdSizes → SessionState
one_asked used = record {
  machine = having used (with_asked (asks_last ∷ []));
  streams = one_sent five_sent (a_question (questions.ThreadName (record { 0 = 23 })));
  quiets = 0;
}

may_ask_last : (used : IdSizes)
    → MayQueue (having used (with_asked [])) (with_asked []) (name_of 23 ∷ [])
unfolding need chained made_with each
may_ask_last used = record {
  held = refl;
  near = refl;
  unread = refl;
  still = refl;
  lacking = ((2, omega arith, refl), tt);
  apart = refl;
}

may_ask_first : (used : IdSizes)
    → MayQueue (having used (with_asked (asks_last ∷ []))) (with_asked (asks_last ∷ [])) (name_of 21 ∷ [])
unfolding need chained made_with each
may_ask_first used = record {
  held = refl;
  near = refl;
  unread = refl;
  still = refl;
  lacking = ((0, omega arith, refl), tt);
  apart = refl;
}

last_goes : (used : IdSizes) → MaySay (standing used).machine (asks_name 23) (one_asked used).machine
last_goes used =
    MaySay.asks (record { hand = with_asked []; lacking = may_ask_last used; room = refl; asked = refl })

abbrev both_asked : IdSizes → Machine
both_asked used = having used (with_asked (asks_last ∷ record { want = name_of 21; reply = None } ∷ []))

first_goes : (used : IdSizes) → MaySay (one_asked used).machine (asks_name 21) (both_asked used)
first_goes used =
    MaySay.asks
    (record { hand = with_asked (asks_last ∷ []); lacking = may_ask_first used; room = refl; asked = refl })

none_wait : (used : IdSizes) → IsOn limits (standing used)
none_wait used = record { no_flood = omega arith }

none_waits : (used : IdSizes) → IsOn limits (one_asked used)
none_waits used = record { no_flood = omega arith }

-- The last name is asked for first, and the first behind it, in one entry. By itself the machine asks for the first
-- name first.
another_order : {log : List Entry} {messages : List Message} {turns : ℕ} (used : IdSizes)
    → Reading limits log messages turns (standing used) → (s : SessionState)
    × Reading limits (log ++ Out Target (question_bytes used 5 23 ++ question_bytes used 6 21) ∷ [])
    ((messages ++ asks_name 23 ∷ []) ++ asks_name 21 ∷ []) turns s
another_order {log} used r = (
  _,
  Reading.speaks
      (Reading.speaks r (none_wait used) (last_goes used) (Speaks.sends refl sizes_read) IsAdded.apart)
      (none_waits used) (first_goes used) (Speaks.sends refl sizes_read)
      (IsAdded.joined log (question_bytes used 5 23)),
)

-- one at a time will do: with one pending the bridge may wait
one_at_a_time : (used : IdSizes) → IsHeld (one_asked used)
one_at_a_time used = IsHeld.by_command refl
