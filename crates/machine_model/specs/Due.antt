-- What is due: an act, and the machine that follows. One gate decides, in the order in which it is tested.
use Rattle.std.specs.Prelude.{ℕ, ◌∷◌, ◌++◌, ◌||◌, Bool, true, false, not, cond, List, [], length, nat_le}
use Rattle.std.specs.Prelude.{Option, None, Some, option_map}
use Rattle.jdwp_commands.specs.declared.question.Question.TheVariants as questions
use Rattle.machine_model.specs.Keys.{same_question}
use Rattle.machine_model.specs.Lookups.{finished, found_for}
use Rattle.machine_model.specs.Names.{Act, Deed, Dispose, Does, Effect, Exit, Finding, Guard, Handshake, IdSizes, Item}
use Rattle.machine_model.specs.Names.{Lookup, Outcome, Part, Question, Resume, Sent, Suspend, Suspension, Want}
use Rattle.machine_model.specs.Names.{a_composite, a_raw, a_request, an_event, of_composite, of_entry, of_stop}
use Rattle.machine_model.specs.Names.{Thrown, Writes, target_end}
use Rattle.machine_model.specs.Plans.{Need, fails, gave, has, lacking, lacks, question_of, refused}
use Rattle.machine_model.specs.Replying.{is_waiting, pending_of}
use Rattle.machine_model.specs.Requests.{effect_due}
use Rattle.machine_model.specs.Rows.{chosen, noted, parts_of, taken}
use Rattle.machine_model.specs.State.{Hand, Machine, SizesRead, State, has_raw, has_waiting, in_hand, is_flying}
use Rattle.machine_model.specs.State.{is_gone, is_empty, is_raw, is_some, knowing, left, numbers_over}
use Rattle.machine_model.specs.Telling.{after_event, event_told, numbered_by, outcome_told, response_to}
use Rattle.stop_refs.specs.Numbers.{InHand}

-- an act and the machine behind it
pub record Due : Type 0 where
  pub act : Act
  pub next : Machine

abbrev pub due_as : Act → Machine → Due
due_as act next = record { act = act; next = next }

-- Guards --------------------------------------------------------------------------------------------------------------

-- what a guard does
pub data Way : Type 0 where
  passes : Way
  greets : Way
  holds : Way
  asks : Want → Way

-- the handshake goes out first, and then that of the target is waited for (JDWP, JDWP Start Up)
abbrev pub greeted_by : Bool → Bool → Way
greeted_by false heard = greets
greeted_by true false = holds
greeted_by true true = passes

abbrev pub sized_by : Option SizesRead → Way
sized_by None = asks (Want.Must questions.IdSizes)
sized_by (Some sizes) = passes

-- the table of guards
abbrev pub way : Guard → State → Way
way Handshake state = greeted_by state.greeting_sent state.greeting_heard
way IdSizes state = sized_by state.sizes

-- What is to be asked -------------------------------------------------------------------------------------------------

abbrev pub asked_by : Way → List Want
asked_by passes = []
asked_by greets = []
asked_by holds = []
asked_by (asks want) = want ∷ []

-- what the part in front lacks
abbrev pub lacked_by : State → Hand → List Part → List Want
lacked_by state hand [] = []
lacked_by state hand (Part.Looks lookup ∷ rest) = lacking (found_for lookup state hand)
lacked_by state hand (Part.Awaits guard ∷ rest) = asked_by (way guard state)
lacked_by state hand (_ ∷ rest) = []

abbrev pub is_listed : Question → List Want → Bool
is_listed question [] = false
is_listed question (want ∷ wants) = same_question (question_of want) question || is_listed question wants

-- a want stands behind those that are to be asked, unless its question is among them or pending
abbrev pub with_want : List Sent → List Want → Want → List Want
with_want asked queue want =
    cond (is_waiting (question_of want) asked || is_listed (question_of want) queue) queue (queue ++ want ∷ [])

abbrev pub with_wants : List Sent → List Want → List Want → List Want
with_wants asked queue [] = queue
with_wants asked queue (want ∷ wants) = with_wants asked (with_want asked queue want) wants

-- all that the part in front lacks and that isn't pending, each question once
unfoldable pub newly_lacked : State → Hand → List Want
newly_lacked state hand = with_wants hand.asked [] (lacked_by state hand hand.parts)

-- The parts -----------------------------------------------------------------------------------------------------------

-- an effect was sent for the item in hand, of which these parts are left
abbrev pub sent : Machine → Hand → List Part → Effect → Machine
sent m hand parts effect = record m {
  hand = Some (record hand { parts = parts; effect = Some (record { effect = effect; reply = None }) });
}

-- What the sending of a deed changes: with the Suspend of a pause a stop begins, and with its Resume it is over; with that
-- of the entry the entry is held no longer (JDWP, VirtualMachine command set, Suspend and Resume).
abbrev pub still_stopped : Suspension → Bool → Bool
still_stopped of_composite stopped = stopped
still_stopped of_entry stopped = stopped
still_stopped of_stop stopped = false

abbrev pub stopped_by : Deed → Bool → Bool
stopped_by Suspend stopped = true
stopped_by (Resume suspension) stopped = still_stopped suspension stopped
stopped_by Dispose stopped = stopped
stopped_by Exit stopped = stopped
stopped_by (Writes write) stopped = stopped

abbrev pub still_held : Suspension → Bool → Bool
still_held of_composite entry = entry
still_held of_entry entry = false
still_held of_stop entry = entry

abbrev pub entry_by : Deed → Bool → Bool
entry_by Suspend entry = entry
entry_by (Resume suspension) entry = still_held suspension entry
entry_by Dispose entry = entry
entry_by Exit entry = entry
entry_by (Writes write) entry = entry

abbrev pub still_numbered : Suspension → Bool → InHand → InHand
still_numbered of_composite stopped numbers = numbers
still_numbered of_entry stopped numbers = numbers
still_numbered of_stop stopped numbers = numbers_over stopped numbers

abbrev pub numbers_by : Deed → Bool → InHand → InHand
numbers_by Suspend stopped numbers = numbers
numbers_by (Resume suspension) stopped numbers = still_numbered suspension stopped numbers
numbers_by Dispose stopped numbers = numbers
numbers_by Exit stopped numbers = numbers
numbers_by (Writes write) stopped numbers = numbers

-- what was thrown in a stop is known until it is over
abbrev pub still_thrown : Suspension → List Thrown → List Thrown
still_thrown of_composite thrown = thrown
still_thrown of_entry thrown = thrown
still_thrown of_stop thrown = []

abbrev pub thrown_by : Deed → List Thrown → List Thrown
thrown_by Suspend thrown = thrown
thrown_by (Resume suspension) thrown = still_thrown suspension thrown
thrown_by Dispose thrown = thrown
thrown_by Exit thrown = thrown
thrown_by (Writes write) thrown = thrown

abbrev pub after_deed : Deed → State → State
after_deed deed state = record state {
  stopped = stopped_by deed state.stopped;
  numbers = numbers_by deed state.stopped state.numbers;
  thrown = thrown_by deed state.thrown;
  entry = entry_by deed state.entry;
}

-- the response to the item in hand, where it is a request; else the part is passed over
abbrev pub responded : Item → Outcome → Machine → Hand → List Part → Due
responded (a_request request) outcome m hand rest =
    due_as (Act.Tells (response_to request (outcome_told outcome m.state)))
    (left (knowing m (numbered_by outcome m.state)) hand rest)
responded (a_composite at composite) outcome m hand rest = due_as Act.Goes (left m hand rest)
responded (a_raw at body) outcome m hand rest = due_as Act.Goes (left m hand rest)
responded target_end outcome m hand rest = due_as Act.Goes (left m hand rest)

-- a look-up that is done becomes the parts of its result
abbrev pub looked : Lookup → Need Finding → Machine → Hand → List Part → Due
looked lookup (has finding) m hand rest =
    due_as Act.Goes (left m hand (finished lookup (gave finding) m.state ++ rest))
looked lookup (fails fault) m hand rest =
    due_as Act.Goes (left m hand (finished lookup (refused fault.code) m.state ++ rest))
looked lookup (lacks want others) m hand rest = due_as Act.Waits m

abbrev pub guarded : Way → Machine → Hand → List Part → Due
guarded passes m hand rest = due_as Act.Goes (left m hand rest)
guarded greets m hand rest = due_as Act.Greets (knowing m (record m.state { greeting_sent = true }))
guarded holds m hand rest = due_as Act.Waits m
guarded (asks want) m hand rest = due_as Act.Waits m

-- the change of event requests that is due goes, until none is
abbrev pub updated : Option Effect → Machine → Hand → List Part → Due
updated (Some effect) m hand rest = due_as (Act.Sends effect) (sent m hand (Part.Updates ∷ rest) effect)
updated None m hand rest = due_as Act.Goes (left m hand rest)

-- the next part of the item in hand
abbrev pub part_due : Machine → Hand → Part → List Part → Due
part_due m hand (Part.Responds outcome) rest = responded hand.item outcome m hand rest
part_due m hand (Part.Tells event) rest =
    due_as (Act.Tells (an_event (event_told event (after_event event m.state))))
    (left (knowing m (after_event event m.state)) hand rest)
part_due m hand (Part.Sends deed) rest =
    due_as (Act.Sends (Does deed)) (sent (knowing m (after_deed deed m.state)) hand rest (Does deed))
part_due m hand (Part.Looks lookup) rest = looked lookup (found_for lookup m.state hand) m hand rest
part_due m hand (Part.Awaits guard) rest = guarded (way guard m.state) m hand rest
part_due m hand Part.Updates rest = updated (effect_due m.state.wishes) m hand rest
part_due m hand (Part.Notes note) rest = due_as Act.Goes (left (knowing m (noted note m.state)) hand rest)
part_due m hand (Part.Unfolds choice) rest = due_as Act.Goes (left m hand (chosen choice m.state hand ++ rest))
part_due m hand (Part.Ends finish) rest = due_as (Act.Over finish) m

abbrev pub hand_due : Machine → Hand → List Part → Due
hand_due m hand [] = due_as Act.Goes (record m { hand = None })
hand_due m hand (part ∷ rest) = part_due m hand part rest

-- Items ---------------------------------------------------------------------------------------------------------------

-- an item, and the others
pub record Picked : Type 0 where
  pub item : Item
  pub rest : List Item

abbrev pub passed_by : Item → Option Picked → Option Picked
passed_by item None = None
passed_by item (Some picked) = Some (record { item = picked.item; rest = item ∷ picked.rest })

-- the first item that isn't raw; in a target that is gone the first one
abbrev pub pick : Bool → List Item → Option Picked
pick gone [] = None
pick gone (item ∷ items) =
    cond (cond gone false (is_raw item)) (passed_by item (pick gone items)) (Some
    (record { item = item; rest = items }))

-- an item is begun
abbrev pub begun : Machine → Item → List Item → Machine
begun m item rest = record m {
  state = taken item m.state;
  waiting = rest;
  hand = Some (in_hand item (parts_of m.state item));
}

abbrev pub next_item : Machine → Option Picked → Due
next_item m None = due_as Act.Waits m
next_item m (Some picked) = due_as Act.Goes (begun m picked.item picked.rest)

abbrev pub wanted_in : Machine → Option Hand → Due
wanted_in m None = next_item m (pick (is_gone m.state.phase) m.waiting)
wanted_in m (Some hand) = hand_due m hand hand.parts

-- what is wanted next, by the item in hand
unfoldable pub wanted : Machine → Due
wanted m = wanted_in m m.hand

-- The gate ------------------------------------------------------------------------------------------------------------

-- What hinders what is wanted: an effect in flight, or a composite that is to be read; something to be asked; something
-- that is lacking and isn't to be asked yet; questions without a reply; or nothing.
pub data Load : Type 0 where
  busy : Load
  queued : Load
  lacking_more : Load
  waiting : Load
  clear : Load

abbrev pub hand_load : State → Option Hand → Load
hand_load state None = clear
hand_load state (Some hand) =
    cond (is_flying hand.effect) busy
    (cond (not (is_empty hand.queue)) queued
    (cond (not (is_empty (newly_lacked state hand))) lacking_more (cond (has_waiting hand.asked) waiting clear)))

-- a composite waits to be read, and can be
abbrev pub can_read : Machine → Bool
can_read m = cond (is_gone m.state.phase) false (cond (is_some m.state.sizes) (has_raw m.waiting) false)

-- nothing hinders a target that is gone
unfoldable pub load_of : Machine → Load
load_of m = cond (is_gone m.state.phase) clear (cond (can_read m) busy (hand_load m.state m.hand))

-- so many commands may be pending at a time
abbrev pub window : ℕ
window = 16

-- no question may go: the window is full, or the next id is still pending
abbrev pub is_full : Bool → Machine → Bool
is_full id_pending m = id_pending || nat_le window (length (pending_of m))

-- an act is let through: nothing goes to a target that is gone
abbrev pub lets : Bool → Act → Bool
lets gone Act.Waits = false
lets gone Act.Goes = true
lets gone (Act.Tells told) = true
lets gone Act.Greets = not gone
lets gone (Act.Sends effect) = not gone
lets gone (Act.Asks question) = false
lets gone (Act.Over finish) = true

abbrev pub gated : Bool → Machine → Due → Due
gated true m wanted_now = wanted_now
gated false m wanted_now = due_as Act.Waits m

-- without the first
abbrev pub behind_first : {A : Type 0} → List A → List A
behind_first [] = []
behind_first (a ∷ others) = others

-- the question was sent for the item in hand
abbrev pub asked_hand : Want → Hand → Hand
asked_hand want hand = record hand {
  queue = behind_first hand.queue;
  asked = hand.asked ++ record { want = want; reply = None } ∷ [];
}

abbrev pub asked_now : Machine → Want → Machine
asked_now m want = record m { hand = option_map (asked_hand want) m.hand }

abbrev pub asked_first : Bool → Machine → List Want → Due
asked_first full m [] = due_as Act.Waits m
asked_first true m (want ∷ wants) = due_as Act.Waits m
asked_first false m (want ∷ wants) = due_as (Act.Asks (question_of want)) (asked_now m want)

abbrev pub asked_next : Bool → Machine → Option Hand → Due
asked_next full m None = due_as Act.Waits m
asked_next full m (Some hand) = asked_first full m hand.queue

-- what is lacking is to be asked now
abbrev pub queueing : Machine → Hand → Machine
queueing m hand = record m { hand = Some (record hand { queue = newly_lacked m.state hand }) }

abbrev pub queued_next : Machine → Option Hand → Due
queued_next m None = due_as Act.Waits m
queued_next m (Some hand) = due_as Act.Goes (queueing m hand)

abbrev pub due_by : Bool → Load → Machine → Due
due_by full busy m = due_as Act.Waits m
due_by full queued m = asked_next full m m.hand
due_by full lacking_more m = queued_next m m.hand
due_by full waiting m = due_as Act.Waits m
due_by full clear m = gated (lets (is_gone m.state.phase) (wanted m).act) m (wanted m)

-- What is due, where the next id is still pending or not. In this order: a composite that can be read is read, and the
-- reply to an effect comes, before anything else; what is to be asked goes while there is room; what is lacking is to
-- be asked; then the replies to questions come; then what is wanted goes.
unfoldable pub due : Bool → Machine → Due
due id_pending m = due_by (is_full id_pending m) (load_of m) m
