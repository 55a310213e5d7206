-- A tap that asks for all threads beside a debugger that does the same, worked out by computation; and where its limits
-- stand.
use Rattle.std.proofs.Common.{◌≡◌, ℕ, true, false, List, [], ◌∷◌, ◌++◌, refl, arith, replicate}
use Rattle.jdwp_commands.specs.Commands.{spell_command}
use Rattle.jdwp_commands.specs.declared.question.Question.TheVariants as questions
use Rattle.jdwp_packets.specs.Packets.{handshake}
use Rattle.jdwp_packets.specs.Receiving.{received}
use Rattle.jdwp_values.specs.Sizes.{IsSize}
use Rattle.tap_model.specs.Names.{Ask, Client, DebuggerCommand, Done, IdSizes, Left, Never, of_question, Sizes}
use Rattle.tap_model.specs.Names.{Target, TargetGone, Unfit}
use Rattle.tap_model.specs.Questions.{unanswered}
use Rattle.tap_model.specs.States.{SentCommands, TapState, after, bytes_of, greets, id_taken, start, with_sizes}
use Rattle.tap_model.specs.Steps.{Step, can_ask, commands, eights, lets_go, passed_on, question_command}
use Rattle.tap_model.specs.Steps.{sizes_command, step}
use Rattle.tap_model.specs.Tapping.{shut_ending}

abbrev asks : List Ask
asks = record { question = questions.AllThreads } ∷ []

-- the target is greeted at once
greets_target : step asks (start asks) ≡ Step.says (greets Target)
greets_target = refl

abbrev waiting : TapState
waiting = after (greets Target) (start asks)

waits_then : step asks waiting ≡ Step.waits
waits_then = refl

-- the debugger greets, and asks for all threads under an id of its own
abbrev all_threads : DebuggerCommand
all_threads = record { id = 7; set = 1; command = 4; body = [] }

abbrev of_debugger : List ℕ
of_debugger = handshake ++ 0 ∷ 0 ∷ 0 ∷ 11 ∷ 0 ∷ 0 ∷ 0 ∷ 7 ∷ 0 ∷ 1 ∷ 4 ∷ []

abbrev came : TapState
came = record waiting { debugger = received waiting.debugger of_debugger }

abbrev kept : TapState
kept = record came {
  debugger = record { greeted = true; stream = record { at = 25; pending = [] } };
  commands = all_threads ∷ [];
}

hears_it : step asks came ≡ Step.hears (commands all_threads) kept
hears_it = refl

-- it waits for the target
waits_again : step asks kept ≡ Step.waits
waits_again = refl

-- the target greets: the debugger is greeted, the sizes of ids are asked for, and the command is passed on
abbrev greeted : TapState
greeted = record kept { target = received kept.target handshake }

greets_debugger : step asks greeted ≡ Step.says (greets Client)
greets_debugger = refl

abbrev joined : TapState
joined = after (greets Client) greeted

asks_sizes : step asks joined ≡ Step.says (sizes_command joined.sent)
asks_sizes = refl

sizes_bytes : bytes_of (sizes_command joined.sent) ≡ 0 ∷ 0 ∷ 0 ∷ 11 ∷ 0 ∷ 0 ∷ 0 ∷ 1 ∷ 0 ∷ 1 ∷ 7 ∷ []
sizes_bytes = refl

abbrev asked : TapState
asked = after (sizes_command joined.sent) joined

passes_on : step asks asked ≡ Step.says (passed_on asked.sent all_threads)
passes_on = refl

passed_bytes : bytes_of (passed_on asked.sent all_threads) ≡ 0 ∷ 0 ∷ 0 ∷ 11 ∷ 0 ∷ 0 ∷ 0 ∷ 2 ∷ 0 ∷ 1 ∷ 4 ∷ []
passed_bytes = refl

abbrev passed : TapState
passed = after (passed_on asked.sent all_threads) asked

waits_for_sizes : step asks passed ≡ Step.waits
waits_for_sizes = refl

-- once the sizes are known the question is asked
abbrev sized : TapState
sized = with_sizes asks eights passed

question_bytes : bytes_of (question_command sized.sent eights 0 questions.AllThreads)
    ≡ 0 ∷ 0 ∷ 0 ∷ 11 ∷ 0 ∷ 0 ∷ 0 ∷ 3 ∷ 0 ∷ 1 ∷ 4 ∷ []
unfolding spell_command
question_bytes = refl

asks_it : step asks sized ≡ Step.says (question_command sized.sent eights 0 questions.AllThreads)
asks_it = refl

-- The ends of the streams ---------------------------------------------------------------------------------------------

leaves_early : shut_ending Client (start asks) ≡ Left
leaves_early = refl

leaves_whole : shut_ending Client passed ≡ Done
leaves_whole = refl

leaves_inside : shut_ending Client came ≡ Left
leaves_inside = refl

target_gone : shut_ending Target passed ≡ TargetGone
target_gone = refl

target_left : shut_ending Target (record passed { left_by = true }) ≡ Done
target_left = refl

let_go : lets_go 1 6 ≡ true
let_go = refl

let_go_by_exit : lets_go 1 10 ≡ true
let_go_by_exit = refl

not_let_go : lets_go 1 9 ≡ false
not_let_go = refl

-- Limits --------------------------------------------------------------------------------------------------------------

-- the sixteenth question is asked, and no other
abbrev questions_pending : ℕ → SentCommands
questions_pending n = record { pending = replicate n (9, of_question 0); next = 20 }

sixteenth : can_ask (questions_pending 15) ≡ true
sixteenth = refl

no_seventeenth : can_ask (questions_pending 16) ≡ false
no_seventeenth = refl

-- the next id is that of a command without a reply
taken : can_ask (record { pending = (21, Sizes) ∷ []; next = 20 }) ≡ false
taken = refl

-- behind the last id comes the first
first_again : id_taken (record { pending = (1, Sizes) ∷ []; next = 4294967295 }) ≡ true
first_again = refl

-- an id of 2^32 fits no four bytes
abbrev thread_name : Ask
thread_name = record { question = questions.ThreadName (record { 0 = 4294967296 }) }

abbrev four_is_size : IsSize 4
four_is_size = (omega arith, omega arith)

abbrev fours : IdSizes
fours = record {
  field = 4;
  method = 4;
  object = 4;
  class = 4;
  frame = 4;
  field_is_size = four_is_size;
  method_is_size = four_is_size;
  object_is_size = four_is_size;
  class_is_size = four_is_size;
  frame_is_size = four_is_size;
}

fits_eight : unanswered eights thread_name ≡ Never
fits_eight = refl

fits_no_four : unanswered fours thread_name ≡ Unfit
fits_no_four = refl
