-- The target's replies: which are taken, what they tell, and how it ends.
use Rattle.std.specs.Prelude.{ℕ, ◌≡◌, ◌<◌, ◌==◌, ◌∷◌, ◌++◌, ◌||◌, Bool, true, false, not, cond, List, []}
use Rattle.std.specs.Prelude.{Option, None, Some, option_map, fold, pos}
use Rattle.std.specs.List.{flat_map}
use Rattle.class_tables.specs.Facts.{Known, has_fields, has_lines, has_methods, has_source, has_variables, is_below}
use Rattle.class_tables.specs.Facts.{with_fact}
use Rattle.class_tables.specs.Lookups.{found_in}
use Rattle.jdwp_commands.specs.Answers.{IsAnswerTo}
use Rattle.jdwp_commands.specs.declared.answer.Answer.TheVariants as answers
use Rattle.jdwp_commands.specs.declared.asked.Asked.{Asked}
use Rattle.jdwp_commands.specs.declared.asked.Asked.TheVariants as commands
use Rattle.jdwp_commands.specs.declared.effect.Effect.{Effect as WireEffect}
use Rattle.jdwp_commands.specs.declared.effect.Effect.TheVariants as effects
use Rattle.jdwp_commands.specs.declared.question.Question.TheVariants as questions
use Rattle.jdwp_values.specs.Sizes.{is_no_size}
use Rattle.jdwp_values.specs.declared.sizes.IdSizes.{IdSizes}
use Rattle.machine_model.specs.Classes.{classes_in, with_listed}
use Rattle.machine_model.specs.Facts.{above_in, fact_known, fields_in, lines_in, methods_in, source_in, variables_in}
use Rattle.machine_model.specs.Names.{Answer, Clear, Deed, Dispose, Does, Doing, Effect, Exit, Phase, Question}
use Rattle.machine_model.specs.Names.{Replied, Resume, Sent, Set, Suspend, TargetCommand, Want, a_question, an_answer}
use Rattle.machine_model.specs.Names.{Writes, an_effect, an_error, target_end}
use Rattle.machine_model.specs.Plans.{answer_in, asks_for, question_of}
use Rattle.machine_model.specs.Requests.{clear_of, request_in, set_of, wishes_after}
use Rattle.machine_model.specs.Rows.{gone_parts, has_response}
use Rattle.machine_model.specs.State.{Hand, Machine, SizesRead, State, is_gone, is_none, is_some, lost}
use Rattle.machine_model.specs.Writing.{written_by}
use Rattle.wish_sets.specs.declared.wish.Wish.{Wish}
use Rattle.wish_sets.specs.declared.wish.Wish.TheVariants as wish

-- Commands as they are sent (JDWP, Detailed Command Information) ------------------------------------------------------

abbrev pub wire_deed : Deed → WireEffect
wire_deed Suspend = effects.Suspend
wire_deed (Resume suspension) = effects.Resume
wire_deed Dispose = effects.Dispose
wire_deed Exit = effects.Exit (pos 0)
wire_deed (Writes write) = written_by write

abbrev pub wire_effect : Effect → WireEffect
wire_effect (Does deed) = wire_deed deed
wire_effect (Set wish) = set_of wish
wire_effect (Clear wish request) = clear_of wish request

abbrev pub wire : TargetCommand → Asked
wire (a_question question) = commands.Question question
wire (an_effect effect) = commands.Effect (wire_effect effect)

-- Replies that are taken ----------------------------------------------------------------------------------------------

-- the questions whose refusal ends a session
abbrev pub is_essential_question : Question → Bool
is_essential_question questions.IdSizes = true
is_essential_question questions.AllClasses = true
is_essential_question _ = false

-- the effects whose refusal does
abbrev pub is_essential_deed : Deed → Bool
is_essential_deed Suspend = true
is_essential_deed (Resume suspension) = true
is_essential_deed Dispose = false
is_essential_deed Exit = false
is_essential_deed (Writes write) = false

abbrev pub is_essential_effect : Effect → Bool
is_essential_effect (Clear wish request) = true
is_essential_effect (Set wish) = false
is_essential_effect (Does deed) = is_essential_deed deed

-- the commands whose refusal ends a session, since nothing can stand in for their answer
abbrev pub is_essential : TargetCommand → Bool
is_essential (a_question question) = is_essential_question question
is_essential (an_effect effect) = is_essential_effect effect

-- an error other than that of a dead target ends the session where the command is essential
abbrev pub is_tolerated : TargetCommand → ℕ → Bool
is_tolerated command code = cond (is_essential command) (code == 112) true

-- the sizes of ids that the target said
abbrev pub sizes_of : IdSizes → SizesRead
sizes_of sizes = record {
  field = sizes.field;
  method = sizes.method;
  object = sizes.object;
  class = sizes.class;
  frame = sizes.frame;
}

-- these sizes serve: the target's, once they are known; before that any do
pub data SizesFor : Option SizesRead → IdSizes → Type 0 where
  any_sizes : {sizes : IdSizes} → SizesFor None sizes
  sizes_read : {sizes : IdSizes} → SizesFor (Some (sizes_of sizes)) sizes

-- an answer that says sizes says such as ids have, from 1 to 8 (JDWP, VirtualMachine command set, IDSizes)
abbrev pub has_good_sizes : Answer → Bool
has_good_sizes (answers.IdSizes field method object class frame) =
    cond (is_no_size field) false (cond (is_no_size method) false (cond (is_no_size object) false
    (cond (is_no_size class) false (not (is_no_size frame)))))
has_good_sizes _ = true

-- What the target may reply to a command: an answer to it that has a spelling with these sizes of ids, or an error that
-- is tolerated (JDWP, JDWP Packets, reply packet).
pub data IsReply (sizes : Option SizesRead) (command : TargetCommand) : Replied → Type 0 where
  with_answer : {answer : Answer} (used : IdSizes) → SizesFor sizes used → IsAnswerTo used (wire command) answer
      → has_good_sizes answer ≡ true → IsReply sizes command (an_answer answer)
  with_error : {code : ℕ} → 0 < code → is_tolerated command code ≡ true → IsReply sizes command (an_error code)

-- What replies tell ---------------------------------------------------------------------------------------------------

-- the sizes of ids in a reply
abbrev pub sizes_in : Replied → Option SizesRead
sizes_in (an_answer (answers.IdSizes field method object class frame)) =
    Some (record { field = field; method = method; object = object; class = class; frame = frame })
sizes_in _ = None

-- the facts of classes that an answer tells; where the target refuses it, the fact is absent
abbrev pub with_heard : Question → Option Answer → Known → Known
with_heard questions.AllClasses heard known = fold with_listed known (classes_in heard)
with_heard (questions.SourceFile class) heard known = with_fact (has_source class (source_in heard)) known
with_heard (questions.Methods class) heard known = with_fact (has_methods class (methods_in heard)) known
with_heard (questions.Fields class) heard known = with_fact (has_fields class (fields_in heard)) known
with_heard (questions.Superclass class) heard known = with_fact (is_below class (above_in heard)) known
with_heard (questions.LineTable class method) heard known = with_fact (has_lines class method (lines_in heard)) known
with_heard (questions.VariableTable class method) heard known =
    with_fact (has_variables class method (variables_in heard)) known
with_heard _ heard known = known

-- the fact that is asked for is known
abbrev pub knows_fact : Question → Known → Bool
knows_fact question known = is_some (fact_known (found_in known) question)

-- a fact is learnt once: its first reply counts
abbrev pub learnt : Question → Option Answer → Known → Known
learnt question heard known = cond (knows_fact question known) known (with_heard question heard known)

-- once they are listed, all classes aren't to be listed any more
abbrev pub still_unlisted : Question → Bool → Bool
still_unlisted questions.AllClasses unlisted = false
still_unlisted _ unlisted = unlisted

-- what is known once a question is replied to
abbrev pub told_by : Question → Replied → State → State
told_by questions.IdSizes replied state = record state { sizes = sizes_in replied }
told_by question replied state = record state {
  classes = learnt question (answer_in replied) state.classes;
  unlisted = still_unlisted question state.unlisted;
}

-- a watch is set (JDWP, EventRequest command set, Set, ClassMatch)
abbrev pub watches : Wish → Option ℕ → Bool
watches (wish.Watch path) (Some request) = true
watches _ request = false

-- all classes are to be listed once a watch is set, since a class may have been prepared before it
abbrev pub unlisted_by : Effect → Replied → Bool → Bool
unlisted_by (Set wish) replied unlisted = watches wish (request_in replied) || unlisted
unlisted_by (Clear wish request) replied unlisted = unlisted
unlisted_by (Does deed) replied unlisted = unlisted

-- what is known once an effect is replied to
abbrev pub done_by : Effect → Replied → State → State
done_by effect replied state = record state {
  wishes = wishes_after effect replied state.wishes;
  unlisted = unlisted_by effect replied state.unlisted;
}

abbrev pub replied_to : TargetCommand → Replied → State → State
replied_to (a_question question) replied state = told_by question replied state
replied_to (an_effect effect) replied state = done_by effect replied state

-- The item in hand ----------------------------------------------------------------------------------------------------

-- the question was asked here, and its reply isn't there
abbrev pub waits_for : Sent → Question → Bool
waits_for sent question = cond (is_none sent.reply) (asks_for sent question) false

abbrev pub is_waiting : Question → List Sent → Bool
is_waiting question [] = false
is_waiting question (sent ∷ asked) = waits_for sent question || is_waiting question asked

-- the reply is put to the first of these that has none
abbrev pub filled : Question → Replied → List Sent → List Sent
filled question replied [] = []
filled question replied (sent ∷ asked) =
    cond (waits_for sent question) (record sent { reply = Some replied } ∷ asked) (sent ∷ filled question replied asked)

-- an error to what a look-up can't do without
abbrev pub fails_by : Want → Replied → Bool
fails_by (Want.Must question) (an_error code) = true
fails_by want replied = false

-- the reply fails the first of these that waits for it
abbrev pub is_failed : Question → Replied → List Sent → Bool
is_failed question replied [] = false
is_failed question replied (sent ∷ asked) =
    cond (waits_for sent question) (fails_by sent.want replied) (is_failed question replied asked)

-- what failed asks nothing more
abbrev pub unless_failed : Bool → List Want → List Want
unless_failed true queue = []
unless_failed false queue = queue

-- the item in hand once a command is replied to
abbrev pub hand_replied : TargetCommand → Replied → Hand → Hand
hand_replied (a_question question) replied hand = record hand {
  asked = filled question replied hand.asked;
  queue = unless_failed (is_failed question replied hand.asked) hand.queue;
}
hand_replied (an_effect effect) replied hand =
    record hand { effect = Some (record { effect = effect; reply = Some replied }) }

-- The target's end ----------------------------------------------------------------------------------------------------

-- the error of a target that has ended (JDWP, Error Constants, VM_DEAD)
abbrev pub is_dead : Replied → Bool
is_dead (an_answer answer) = false
is_dead (an_error code) = code == 112

-- the effects that end a target, of which any reply will do
abbrev pub is_leaving : TargetCommand → Bool
is_leaving (an_effect (Does Dispose)) = true
is_leaving (an_effect (Does Exit)) = true
is_leaving command = false

-- the reply shows that the target has ended, and that not because it was left
abbrev pub is_end : TargetCommand → Replied → Bool
is_end command replied = cond (is_leaving command) false (is_dead replied)

-- a command that has no reply
abbrev pub unanswered : Sent → List TargetCommand
unanswered sent = cond (is_none sent.reply) (a_question (question_of sent.want) ∷ []) []

abbrev pub unanswered_effect : Option Doing → List TargetCommand
unanswered_effect None = []
unanswered_effect (Some doing) = cond (is_none doing.reply) (an_effect doing.effect ∷ []) []

-- those of the item in hand
abbrev pub pending_in : Option Hand → List TargetCommand
pending_in None = []
pending_in (Some hand) = flat_map unanswered hand.asked ++ unanswered_effect hand.effect

-- all commands that have no reply
abbrev pub pending_of : Machine → List TargetCommand
pending_of m = m.late ++ pending_in m.hand

-- an item that waits for its target is given up
abbrev pub given_up : Hand → Hand
given_up hand = record {
  item = hand.item;
  parts = gone_parts (has_response hand.parts) hand.item;
  queue = [];
  asked = [];
  effect = None;
}

-- the target ends: the item in hand is given up, what is pending stays pending, and the end waits for its turn
abbrev pub ended_with : List TargetCommand → Machine → Machine
ended_with late m = record m {
  state = lost m.state;
  hand = option_map given_up m.hand;
  waiting = m.waiting ++ target_end ∷ [];
  late = m.late ++ late;
}

-- a target that is gone doesn't end again
abbrev pub ended : Bool → Machine → Machine
ended true m = m
ended false m = ended_with (pending_in m.hand) m

-- a reply is kept
abbrev pub replied_machine : Machine → TargetCommand → Replied → Machine
replied_machine m command replied = record m {
  state = replied_to command replied m.state;
  hand = option_map (hand_replied command replied) m.hand;
}

-- a reply that shows the target's end tells nothing else
abbrev pub answered_by : Bool → Machine → TargetCommand → Replied → Machine
answered_by true m command replied = ended_with (pending_in (option_map (hand_replied command replied) m.hand)) m
answered_by false m command replied = replied_machine m command replied

abbrev pub shows_end : Phase → TargetCommand → Replied → Bool
shows_end phase command replied = cond (is_gone phase) false (is_end command replied)

-- a command of the item in hand is replied to
abbrev pub answered : Machine → TargetCommand → Replied → Machine
answered m command replied = answered_by (shows_end m.state.phase command replied) m command replied
