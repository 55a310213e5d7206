-- The words of worked examples: what a machine says as it goes on by itself, and what it is told.
use Rattle.std.proofs.Common.{ℕ, zero, suc, Bool, true, false, List, [], ◌∷◌, Option, Some, None}
use Rattle.dap_messages.specs.declared.told.Event.TheVariants as events
use Rattle.dap_messages.specs.declared.told.Outcome.TheVariants as outcomes
use Rattle.dap_messages.specs.declared.told.Shape.TheVariants as shapes
use Rattle.dap_messages.specs.declared.told.StopReason.{StopReason}
use Rattle.jdwp_commands.specs.declared.answer.Answer.TheVariants as answers
use Rattle.jdwp_commands.specs.declared.question.Question.TheVariants as questions
use Rattle.jdwp_events.specs.declared.event.Event.{Event as ATargetEvent}
use Rattle.jdwp_events.specs.declared.kind.Policy.TheVariants.{All}
use Rattle.machine_model.specs.Due.{due}
use Rattle.machine_model.specs.Names.{Attach, Command, Initialize, Question, Request, ThreadId, an_answer, an_event}
use Rattle.machine_model.specs.declared.parts.Deed.{Deed}
use Rattle.machine_model.specs.declared.acts.Effect.{Effect}
use Rattle.machine_model.specs.declared.acts.Effect.TheVariants.{Does, Set}
use Rattle.machine_model.specs.declared.items.Item.TheVariants.{Composite as a_composite}
use Rattle.machine_model.specs.declared.acts.TargetCommand.TheVariants.{Question as a_question, Effect as an_effect}
use Rattle.machine_model.specs.Replying.{answered}
use Rattle.machine_model.specs.Runs.{Message, greeting_heard, heard, said, with_item}
use Rattle.machine_model.specs.State.{Machine, fresh}
use Rattle.machine_model.specs.Telling.{response_to}
use Rattle.wish_sets.specs.declared.wish.Wish.{Wish}
use Rattle.wish_sets.specs.declared.wish.Wish.TheVariants as wishes

-- the machine goes so many steps, or until something must come
abbrev pub drive : ℕ → Machine → Machine
drive zero m = m
drive (suc n) m = drive n (due false m).next

abbrev pub said_first : Option Message → List Message → List Message
said_first None messages = messages
said_first (Some message) messages = message ∷ messages

-- what it says on the way
abbrev pub said_on : ℕ → Machine → List Message
said_on zero m = []
said_on (suc n) m = said_first (said (due false m).act) (said_on n (due false m).next)

abbrev pub request : ℕ → Command → Request
request seq command = record { seq = seq; name = seq ∷ []; command = command }

abbrev pub asks : Question → Message
asks question = Message.sends (a_question question)

abbrev pub changes : Effect → Message
changes effect = Message.sends (an_effect effect)

abbrev pub does : Deed → Message
does deed = changes (Does deed)

abbrev pub responds : Request → outcomes.the_data → Message
responds asked outcome = Message.tells (response_to asked outcome)

abbrev pub succeeds : Request → Message
succeeds asked = responds asked (outcomes.Success shapes.Nothing)

abbrev pub tells_stop : StopReason → ℕ → Message
tells_stop reason thread = Message.tells (an_event (events.Stopped (record { reason = reason; thread = thread })))

-- these events came in one composite that suspends all
abbrev pub happens : List ATargetEvent → Machine → Machine
happens happened m = with_item m (a_composite 90 (record { policy = All; events = happened }))

-- an event request was set
abbrev pub set_as : ℕ → Wish → Machine → Machine
set_as id wish m = answered m (an_effect (Set wish)) (an_answer (answers.Set id))

abbrev pub one : ThreadId
one = record { 0 = 1 }

-- A client whose lines begin so was attached to a target with a folder of sources.
abbrev pub asks_options : Bool → Request
asks_options from_one = request 1 (Initialize (record {
  adapter_id = [];
  lines_start_at1 = from_one;
  columns_start_at1 = true;
  supports_variable_type = false;
}))

abbrev pub attaches : Request
attaches = request 2 (Attach (record { source_roots = (115 ∷ []) ∷ [] }))

abbrev greeted : Bool → Machine
greeted from_one =
    greeting_heard (drive 6 (heard (drive 6 (heard fresh (asks_options from_one))) attaches))

abbrev sized : Bool → Machine
sized from_one = answered (drive 6 (greeted from_one)) (a_question questions.IdSizes)
    (an_answer (answers.IdSizes 8 8 8 8 8))

abbrev pub attached_with : Bool → Machine
attached_with from_one =
    drive 8 (set_as 2 wishes.ThreadDeath (drive 6 (set_as 1 wishes.ThreadStart (drive 6 (sized from_one)))))
