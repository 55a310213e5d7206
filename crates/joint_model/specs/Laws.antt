-- What holds of every look-up over a target's world, and of every joint. The laws stand behind what they speak of.
use Rattle.std.specs.Prelude.{ℕ, ◌≡◌, ◌<◌, ◌+◌, ◌||◌, Bool, true, false, List, [], ◌∷◌, Option, Some}
use Rattle.std.specs.List.{AllByRecursion}
use Rattle.class_tables.specs.Lookups.{found_in}
use Rattle.jdwp_commands.specs.declared.answer.Answer.TheVariants as answers
use Rattle.jdwp_commands.specs.declared.asked.Asked.{Asked}
use Rattle.jdwp_commands.specs.declared.asked.Asked.TheVariants as commands
use Rattle.jdwp_commands.specs.declared.question.Question.TheVariants as questions
use Rattle.joint_model.specs.Joints.{Joint, Packet, a_reply, some_events}
use Rattle.joint_model.specs.Names.{Attached, Decides, Does, Judges, Lookup, Part, Resume, Suspend, Suspension}
use Rattle.joint_model.specs.Names.{TargetCommand, a_question, all_threads, an_effect}
use Rattle.joint_model.specs.Obeying.{Emits, MayRefuse, Replies, Runs, Serves}
use Rattle.machine_model.specs.Facts.{fact_known, fact_of, is_of_class}
use Rattle.machine_model.specs.Knowing.{held_in}
use Rattle.machine_model.specs.Leaving.{sends_farewell}
use Rattle.machine_model.specs.Lookups.{found_for, plan, sight_of}
use Rattle.machine_model.specs.Names.{Answer, Composite, Question, Replied, ThreadId, an_answer, an_error}
use Rattle.machine_model.specs.Pending.{bit, count, has_such}
use Rattle.machine_model.specs.PlanLaws.{Agrees, IsReply, threads_in_world}
use Rattle.machine_model.specs.Plans.{Need, Sight, answer_in, fails, has, lacks, of_world}
use Rattle.machine_model.specs.Replying.{IsReply as IsTaken, pending_of, wire}
use Rattle.machine_model.specs.Rest.{IsAtRest}
use Rattle.machine_model.specs.Runs.{Allows, Message, Run}
use Rattle.machine_model.specs.State.{Hand, Machine, SizesRead, State, is_none}
use Rattle.suspend_ledger.specs.Suspensions.{composite as composite_came, resumed, suspended, suspensions_by}
use Rattle.suspend_ledger.specs.Suspensions.{with_happening}
use Rattle.world_model.specs.declared.world.World.{World}
use Rattle.world_model.specs.Kept.{program_of, puts_values, values_of}
use Rattle.world_model.specs.Replies.{reply_of}

-- Look-ups ------------------------------------------------------------------------------------------------------------

-- what was replied is what a target may reply that has this world; and what is known of classes is so in it
pub record IsOfTarget (w : World) (sight : Sight) : Type 0 where
  pub replies : (question : Question) (replied : Replied) → IsReply sight.asked question replied
      → Replies w question replied
  pub facts : (question : Question) (fact : Option Answer) → fact_known sight.classes question ≡ Some fact
      → fact ≡ fact_of question (answer_in (reply_of w question))

-- a question that the world refuses so, unless its target chose another number
pub record IsRefusedAs (w : World) (code : ℕ) : Type 0 where
  pub question : Question
  pub usual : ℕ
  pub is_refused : reply_of w question ≡ an_error usual
  pub may_refuse : MayRefuse (is_of_class question) usual code

-- what fails does so by an error that the target may reply
abbrev pub FailsAsThere : {A : Type 0} → World → Need A → Type 0
FailsAsThere w (has value) = Unit {0}
FailsAsThere w (fails fault) = IsRefusedAs w fault.code
FailsAsThere w (lacks want others) = Unit {0}

-- look-ups in a target's world, and the threads there
pub record AreOfTarget (w : World) (state : State) : Type 0 where
  pub agree : (hand : Hand) (lookup : Lookup) → IsOfTarget w (sight_of state hand)
      → Agrees (found_for lookup state hand) (of_world (reply_of w) (plan lookup state))
  pub fail : (hand : Hand) (lookup : Lookup) → IsOfTarget w (sight_of state hand)
      → FailsAsThere w (found_for lookup state hand)
  pub threads : (listed : List ThreadId) → reply_of w questions.AllThreads ≡ an_answer (answers.AllThreads listed)
      → of_world (reply_of w) (plan all_threads state) ≡ Some (threads_in_world (reply_of w) listed)

-- A look-up that is done by a target's replies has what it has in the target's world, in whatever order they came, and
-- whatever numbers the target chose for its errors. One that has failed has nothing there, and fails with a number that
-- the target may choose for a question that it refuses.
abbrev pub LookUps : Type 0
LookUps = (w : World) (state : State) → AreOfTarget w state

-- Errors --------------------------------------------------------------------------------------------------------------

-- An error that a target may reply to a command is one that a session takes, and that doesn't end it: what it can't do
-- without isn't refused, unless the target has ended.
abbrev pub ErrorsAreTaken : Type 0
ErrorsAreTaken = (w now : World) (sizes : Option SizesRead) (command : TargetCommand) (code : ℕ)
    → Serves w (wire command) (an_error code) now → IsTaken sizes command (an_error code)

-- Suspensions ---------------------------------------------------------------------------------------------------------

-- what a message makes of the suspensions of the whole target that are held (JDWP, Event command set, Composite; JDWP,
-- VirtualMachine command set, Suspend and Resume)
abbrev pub held_by : ℕ → Message → ℕ
held_by held (Message.comes at composite) = with_happening (composite_came composite.policy) held
held_by held (Message.reads at body composite) = with_happening (composite_came composite.policy) held
held_by held (Message.answers (an_effect (Does Suspend)) replied) = with_happening suspended held
held_by held (Message.sends (an_effect (Does (Resume suspension)))) = with_happening resumed held
held_by held _ = held

abbrev pub held_from : ℕ → List Message → ℕ
held_from held [] = held
held_from held (message ∷ messages) = held_from (held_by held message) messages

-- the suspensions that are held by the messages: the composites that suspended all threads and the Suspends that were
-- replied to, less the Resumes that were sent
abbrev pub held : List Message → ℕ
held messages = held_from 0 messages

-- No Resume is sent but for a suspension that is held.
abbrev pub ResumesHeld : Type 0
ResumesHeld = (messages : List Message) (m next : Machine) (suspension : Suspension) → Run messages m
    → Allows m (Message.sends (an_effect (Does (Resume suspension)))) next → 0 < held messages

-- a sum over a list
abbrev pub total : {A : Type 0} → (A → ℕ) → List A → ℕ
total of [] = 0
total of (one ∷ others) = of one + total of others

abbrev pub resumes_in : TargetCommand → ℕ
resumes_in (an_effect (Does (Resume suspension))) = 1
resumes_in _ = 0

abbrev pub suspends_by : Composite → ℕ
suspends_by composite = suspensions_by composite.policy

abbrev pub suspends_in : Packet → ℕ
suspends_in (a_reply (an_effect (Does Suspend)) replied) = 1
suspends_in (a_reply command replied) = 0
suspends_in (some_events composite) = suspends_by composite

-- the suspensions that the messages don't tell yet: of Resumes that the target hasn't served, of packets in flight,
-- and of composites that are kept unread
abbrev pub untold : List TargetCommand → List Packet → List Composite → ℕ
untold commands packets kept = total resumes_in commands + (total suspends_in packets + total suspends_by kept)

-- While the target lives and wasn't left, it is suspended as often as the messages say, and as is still untold.
abbrev pub Balances : Type 0
Balances = (messages : List Message) (m : Machine) (w : World) (commands : List TargetCommand) (packets : List Packet)
    (kept : List Composite) → Joint messages m w commands packets kept → w.dead ≡ false
    → has_such sends_farewell messages ≡ false → w.count ≡ held messages + untold commands packets kept

-- A target that stands still ------------------------------------------------------------------------------------------

-- Classes, objects, threads, frames and values are as they were. So each question has the same reply, as long as the
-- target lives and is suspended.
pub record StaysSo (w now : World) : Type 0 where
  pub program : program_of now ≡ program_of w
  pub values : values_of now ≡ values_of w
  pub replies : now.dead ≡ false → 0 < now.count → (question : Question) → reply_of now question ≡ reply_of w question

-- a command that puts a value somewhere (JDWP, Detailed Command Information, commands SetValues)
abbrev pub puts : Asked → Bool
puts (commands.Question question) = false
puts (commands.Effect effect) = puts_values effect

-- All threads are suspended. The program doesn't run; and whatever is told or served changes nothing, but for a value
-- that the debugger puts.
pub record IsStill (w : World) : Type 0 where
  pub suspended : 0 < w.count
  pub no_run : (now : World) → Runs w now → ⊥
  pub told : (composite : Composite) (now : World) → Emits w composite now → StaysSo w now
  pub served : (asked : Asked) (replied : Replied) (now : World) → Serves w asked replied now → puts asked ≡ false
      → StaysSo w now

abbrev pub is_suspend : TargetCommand → Bool
is_suspend (an_effect (Does Suspend)) = true
is_suspend _ = false

-- A suspension of the whole target is held: for the stop in hand, as the entry, or for the composite in hand.
abbrev pub IsHeld : Machine → Type 0
IsHeld m = 0 < held_in m.state m.hand

-- While a suspension is held, and no Suspend is without a reply, a target that lives and wasn't left stands still.
abbrev pub StandsStill : Type 0
StandsStill = (messages : List Message) (m : Machine) (w : World) (commands : List TargetCommand)
    (packets : List Packet) (kept : List Composite) → Joint messages m w commands packets kept → w.dead ≡ false
    → has_such sends_farewell messages ≡ false → IsHeld m → count is_suspend (pending_of m) ≡ 0 → IsStill w

-- In a stop one is held.
abbrev pub StopsAreHeld : Type 0
StopsAreHeld = (m : Machine) → m.state.stopped ≡ true → IsHeld m

-- At rest, once the session is attached, and with nothing unserved, in flight or unread, a target that lives and wasn't
-- left is suspended once for a stop in hand and once as the entry that is held, and no more.
abbrev pub CountsAtRest : Type 0
CountsAtRest = (messages : List Message) (m : Machine) (w : World) → Joint messages m w [] [] [] → w.dead ≡ false
    → has_such sends_farewell messages ≡ false → IsAtRest m → m.state.phase ≡ Attached
    → w.count ≡ bit m.state.stopped + bit m.state.entry

-- What is in flight ---------------------------------------------------------------------------------------------------

-- the replies in flight to commands that pass a test
abbrev pub replies_to : (TargetCommand → Bool) → Packet → ℕ
replies_to test (a_reply command replied) = bit (test command)
replies_to test (some_events composite) = 0

-- Of commands of any kind as many are pending as the target hasn't served, and as have a reply in flight.
abbrev pub PendingOnTheWay : Type 0
PendingOnTheWay = (messages : List Message) (m : Machine) (w : World) (commands : List TargetCommand)
    (packets : List Packet) (kept : List Composite) (test : TargetCommand → Bool)
    → Joint messages m w commands packets kept
    → count test (pending_of m) ≡ count test commands + total (replies_to test) packets

-- a reply to a question is one that the target may give as its world stands
abbrev pub IsStillSo : World → Packet → Type 0
IsStillSo w (a_reply (a_question question) replied) = Replies w question replied
IsStillSo w (a_reply (an_effect effect) replied) = Unit {0}
IsStillSo w (some_events composite) = Unit {0}

-- While a suspension is held, each reply to a question that is in flight is still so when it comes.
abbrev pub RepliesStay : Type 0
RepliesStay = (messages : List Message) (m : Machine) (w : World) (commands : List TargetCommand)
    (packets : List Packet) (kept : List Composite) → Joint messages m w commands packets kept → w.dead ≡ false
    → has_such sends_farewell messages ≡ false → IsHeld m → count is_suspend (pending_of m) ≡ 0
    → AllByRecursion (IsStillSo w) packets

-- A look-up while the target stands still -----------------------------------------------------------------------------

-- a look-up, or the judging of a composite or the decision on it, which may become one
abbrev pub is_look : Part → Bool
is_look (Part.Looks lookup) = true
is_look (Part.Unfolds Judges) = true
is_look (Part.Unfolds (Decides logged stops)) = true
is_look _ = false

-- a look-up is still to be done
abbrev pub has_look : List Part → Bool
has_look [] = false
has_look (part ∷ parts) = is_look part || has_look parts

-- No value was written for the item so far: nothing was sent for it but questions, or a look-up is still to be done,
-- and before it at most event requests were set and cleared.
abbrev pub wrote_nothing : Hand → Bool
wrote_nothing hand = is_none hand.effect || has_look hand.parts

-- what is known of classes is so in the world
pub record AreFactsOf (w : World) (state : State) : Type 0 where
  pub facts : (question : Question) (fact : Option Answer) → fact_known (found_in state.classes) question ≡ Some fact
      → fact ≡ fact_of question (answer_in (reply_of w question))

-- While a suspension is held, and where what is known of classes is so in the world, a look-up that is done for an item
-- for which nothing was written has what it has in the target's world as that stands; and one that has failed has
-- nothing there.
abbrev pub ShowsTheWorld : Type 0
ShowsTheWorld = (messages : List Message) (m : Machine) (w : World) (commands : List TargetCommand)
    (packets : List Packet) (kept : List Composite) (hand : Hand) (lookup : Lookup)
    → Joint messages m w commands packets kept → w.dead ≡ false → has_such sends_farewell messages ≡ false
    → IsHeld m → count is_suspend (pending_of m) ≡ 0 → m.hand ≡ Some hand → wrote_nothing hand ≡ true
    → AreFactsOf w m.state
    → Agrees (found_for lookup m.state hand) (of_world (reply_of w) (plan lookup m.state))
