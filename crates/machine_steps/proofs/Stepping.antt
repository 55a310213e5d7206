-- One induction over runs: what each move keeps holds of every run.
use Rattle.std.proofs.Common.{◌≡◌, ℕ, Bool, true, false, cond, List, [], ◌∷◌, ◌++◌, Option, Some, None, refl, ap, subst}
use Rattle.std.proofs.Common.{option_map, sym}
use Rattle.std.proofs.lemmas.List.Elements.{All-contains, All-from_recursion}
use Rattle.std.specs.List.{AllByRecursion as All, Contains}
use Rattle.machine_model.specs.Due.{Due, Load, Picked, Way, after_deed, asked_first, asked_next, asked_now, begun}
use Rattle.machine_model.specs.Due.{can_read, clear, due, due_by, gated, guarded, hand_due, is_full, lacked_by}
use Rattle.machine_model.specs.Due.{lacking_more, lets, load_of, looked, next_item, part_due, pick, queued, queued_next, queueing}
use Rattle.machine_model.specs.Due.{responded, sent, updated, wanted, wanted_in, way}
use Rattle.machine_model.specs.Due.Way.{passes, greets as greets_way}
use Rattle.machine_model.specs.Lookups.{finished, found_for}
use Rattle.machine_model.specs.Outcomes.{result_of}
use Rattle.machine_model.specs.Plans.{Need, is_done, lacks, question_of}
use Rattle.machine_model.specs.Replying.{IsReply, answered_by, ended, ended_with, hand_replied, is_end, is_waiting}
use Rattle.machine_model.specs.Replying.{pending_in, replied_machine, shows_end}
use Rattle.machine_model.specs.Requests.{effect_due}
use Rattle.machine_model.specs.Rest.{request_in}
use Rattle.machine_model.specs.Rows.{chosen, noted}
use Rattle.machine_model.specs.Runs.{Allows, MayQueue, Message, Run, Takes, greeting_heard, heard, said, to_ask}
use Rattle.machine_model.specs.Runs.{with_item}
use Rattle.machine_model.specs.State.{Hand, Machine, fresh, has_raw, is_gone, is_some, knowing, left}
use Rattle.machine_model.specs.Telling.{after_event, event_told, numbered_by, outcome_told, response_to}
use Rattle.machine_steps.specs.Names.{Act, Composite, Deed, Does, Effect, Event, Finding, Guard, Item, Lookup, Note}
use Rattle.machine_steps.specs.Names.{Choice, Outcome, Part, Question, Replied, Request, TargetCommand, Want}
use Rattle.machine_steps.specs.Names.{a_composite, a_question, a_raw, a_request, an_effect, an_event}
use Rattle.std.proofs.lemmas.Bool.{not-true}

-- Moves --------------------------------------------------------------------------------------------------------------

-- the item in hand, and its next part
pub record IsAt (m : Machine) (hand : Hand) (part : Part) (rest : List Part) : Type 0 where
  pub in_hand : m.hand ≡ Some hand
  pub parts : hand.parts ≡ part ∷ rest

-- why a part is passed over
pub data Skips (m : Machine) (hand : Hand) : Part → Type 0 where
  by_guard : {guard : Guard} → way guard m.state ≡ passes → Skips m hand (Part.Awaits guard)
  by_wishes : effect_due m.state.wishes ≡ None → Skips m hand Part.Updates
  no_request : {outcome : Outcome} → request_in hand.item ≡ [] → Skips m hand (Part.Responds outcome)

-- why the target has ended, and the commands of the item in hand that are left without a reply
pub data Loses (m : Machine) : Message → List TargetCommand → Type 0 where
  by_end : Loses m Message.ends (pending_in m.hand)
  by_question : {question : Question} {replied : Replied} {hand : Hand} → m.hand ≡ Some hand
      → is_waiting question hand.asked ≡ true → IsReply m.state.sizes (a_question question) replied
      → is_end (a_question question) replied ≡ true
      → Loses m (Message.answers (a_question question) replied)
      (pending_in (option_map (hand_replied (a_question question) replied) m.hand))
  by_effect : {effect : Effect} {replied : Replied} {hand : Hand} → m.hand ≡ Some hand
      → hand.effect ≡ Some (record { effect = effect; reply = None })
      → IsReply m.state.sizes (an_effect effect) replied → is_end (an_effect effect) replied ≡ true
      → Loses m (Message.answers (an_effect effect) replied)
      (pending_in (option_map (hand_replied (an_effect effect) replied) m.hand))

-- All that a machine may change by, and the message of it: one move a step, with what was in front of the hand. It is
-- silent, or has one message.
pub data Moves (m : Machine) : Option Message → Machine → Type 0 where
  begins : (picked : Picked) → load_of m ≡ clear → m.hand ≡ None
      → pick (is_gone m.state.phase) m.waiting ≡ Some picked → Moves m None (begun m picked.item picked.rest)
  drops : {hand : Hand} → load_of m ≡ clear → m.hand ≡ Some hand → hand.parts ≡ []
      → Moves m None (record m { hand = None })
  responds : {hand : Hand} {rest : List Part} {request : Request} {outcome : Outcome} → load_of m ≡ clear
      → IsAt m hand (Part.Responds outcome) rest → hand.item ≡ a_request request
      → Moves m (Some (Message.tells (response_to request (outcome_told outcome m.state))))
      (left (knowing m (numbered_by outcome m.state)) hand rest)
  finds : {hand : Hand} {rest : List Part} {lookup : Lookup} (found : Need Finding) → load_of m ≡ clear
      → IsAt m hand (Part.Looks lookup) rest → found_for lookup m.state hand ≡ found → is_done found ≡ true
      → Moves m None (left m hand (finished lookup (result_of found) m.state ++ rest))
  passes_over : {hand : Hand} {part : Part} {rest : List Part} → load_of m ≡ clear → IsAt m hand part rest
      → Skips m hand part → Moves m None (left m hand rest)
  tells : {hand : Hand} {rest : List Part} {event : Event} → load_of m ≡ clear
      → IsAt m hand (Part.Tells event) rest
      → Moves m (Some (Message.tells (an_event (event_told event (after_event event m.state)))))
      (left (knowing m (after_event event m.state)) hand rest)
  sends : {hand : Hand} {rest : List Part} {deed : Deed} → load_of m ≡ clear
      → IsAt m hand (Part.Sends deed) rest → is_gone m.state.phase ≡ false
      → Moves m (Some (Message.sends (an_effect (Does deed)))) (sent (knowing m (after_deed deed m.state)) hand rest (Does deed))
  updates : {hand : Hand} {effect : Effect} {rest : List Part} → load_of m ≡ clear → IsAt m hand Part.Updates rest
      → effect_due m.state.wishes ≡ Some effect → is_gone m.state.phase ≡ false
      → Moves m (Some (Message.sends (an_effect effect))) (sent m hand (Part.Updates ∷ rest) effect)
  greets : {hand : Hand} {guard : Guard} {rest : List Part} → load_of m ≡ clear
      → IsAt m hand (Part.Awaits guard) rest → way guard m.state ≡ greets_way → is_gone m.state.phase ≡ false
      → Moves m (Some Message.greets) (knowing m (record m.state { greeting_sent = true }))
  notes : {hand : Hand} {note : Note} {rest : List Part} → load_of m ≡ clear → IsAt m hand (Part.Notes note) rest
      → Moves m None (left (knowing m (noted note m.state)) hand rest)
  unfolds : {hand : Hand} {choice : Choice} {rest : List Part} → load_of m ≡ clear
      → IsAt m hand (Part.Unfolds choice) rest → Moves m None (left m hand (chosen choice m.state hand ++ rest))
  queues : {hand : Hand} → load_of m ≡ lacking_more → m.hand ≡ Some hand → Moves m None (queueing m hand)
  asks : {hand : Hand} {want : Want} {wants : List Want} → load_of m ≡ queued → is_full false m ≡ false
      → m.hand ≡ Some hand → hand.queue ≡ want ∷ wants
      → Moves m (Some (Message.sends (a_question (question_of want)))) (asked_now m want)
  hears : {request : Request} → can_read m ≡ false → m.closing ≡ false
      → Moves m (Some (Message.hears request)) (heard m request)
  greeted : can_read m ≡ false → m.state.greeting_heard ≡ false → Moves m (Some Message.greeted) (greeting_heard m)
  answers : {question : Question} {replied : Replied} {hand : Hand} → m.hand ≡ Some hand
      → is_waiting question hand.asked ≡ true → IsReply m.state.sizes (a_question question) replied
      → shows_end m.state.phase (a_question question) replied ≡ false
      → Moves m (Some (Message.answers (a_question question) replied)) (replied_machine m (a_question question) replied)
  replies : {effect : Effect} {replied : Replied} {hand : Hand} → m.hand ≡ Some hand
      → hand.effect ≡ Some (record { effect = effect; reply = None })
      → IsReply m.state.sizes (an_effect effect) replied
      → shows_end m.state.phase (an_effect effect) replied ≡ false
      → Moves m (Some (Message.answers (an_effect effect) replied)) (replied_machine m (an_effect effect) replied)
  late : {command : TargetCommand} {replied : Replied} (before after : List TargetCommand)
      → m.late ≡ before ++ command ∷ after → IsReply m.state.sizes command replied
      → Moves m (Some (Message.answers command replied)) (record m { late = before ++ after })
  ends : is_gone m.state.phase ≡ true → Moves m (Some Message.ends) m
  loses : {message : Message} (late : List TargetCommand) → is_gone m.state.phase ≡ false → Loses m message late
      → Moves m (Some message) (ended_with late m)
  comes : {at : ℕ} {composite : Composite} → can_read m ≡ false → is_some m.state.sizes ≡ true
      → Takes m.state composite
      → Moves m (Some (Message.comes at composite)) (with_item m (a_composite at composite))
  keeps : {at : ℕ} {body : List ℕ} → is_some m.state.sizes ≡ false
      → Moves m (Some (Message.keeps at body)) (with_item m (a_raw at body))
  reads : {at : ℕ} {body : List ℕ} {composite : Composite} (before after : List Item) → can_read m ≡ true
      → m.waiting ≡ before ++ a_raw at body ∷ after → has_raw before ≡ false → Takes m.state composite
      → Moves m (Some (Message.reads at body composite))
      (record m { waiting = before ++ a_composite at composite ∷ after })

abbrev pub with_said : List Message → Option Message → List Message
with_said messages None = messages
with_said messages (Some message) = messages ++ message ∷ []

-- this item is in hand
abbrev pub holds_hand : Machine → Hand → Machine
holds_hand m hand = record m { hand = Some hand }

-- An invariant of runs. One that doesn't look at what is to be asked is the same where that is put anew.
pub record Keeps (Holds : List Message → Machine → Type 0) : Type 0 where
  pub starts : Holds [] fresh
  pub moves : (messages : List Message) (m next : Machine) (said : Option Message) → Holds messages m
      → Moves m said next → Holds (with_said messages said) next
  pub queues : (messages : List Message) (m : Machine) (hand : Hand) (queue : List Want) → MayQueue m hand queue
      → Holds messages (holds_hand m hand) → Holds messages (to_ask m hand queue)

-- The parts ----------------------------------------------------------------------------------------------------------

-- an act that is let through is a move
abbrev Walked : Machine → Act → Machine → Type 0
Walked m Act.Waits next = Unit {0}
Walked m Act.Goes next = Moves m None next
Walked m (Act.Tells told) next = Moves m (Some (Message.tells told)) next
Walked m Act.Greets next = Moves m (Some Message.greets) next
Walked m (Act.Sends effect) next = Moves m (Some (Message.sends (an_effect effect))) next
Walked m (Act.Asks question) next = Moves m (Some (Message.sends (a_question question))) next
Walked m (Act.Over finish) next = Unit {0}

abbrev Walks : Machine → Due → Type 0
Walks m to = load_of m ≡ clear → lets (is_gone m.state.phase) to.act ≡ true → Walked m to.act to.next

walks_responded : (m : Machine) (hand : Hand) (rest : List Part) (outcome : Outcome) (item : Item) → hand.item ≡ item
    → IsAt m hand (Part.Responds outcome) rest → Walks m (responded item outcome m hand rest)
walks_responded m hand rest outcome (a_request request) is at = λ free gate. Moves.responds free at is
walks_responded m hand rest outcome _ is at =
    λ free gate. Moves.passes_over free at (Skips.no_request (ap request_in is))

walks_looked : (m : Machine) (hand : Hand) (rest : List Part) (lookup : Lookup) (found : Need Finding)
    → IsAt m hand (Part.Looks lookup) rest → found_for lookup m.state hand ≡ found
    → Walks m (looked lookup found m hand rest)
walks_looked m hand rest lookup (lacks want others) at is = λ free gate. tt
walks_looked m hand rest lookup found at is = λ free gate. Moves.finds found free at is refl

walks_guarded : (m : Machine) (hand : Hand) (rest : List Part) (guard : Guard) (found : Way)
    → IsAt m hand (Part.Awaits guard) rest → way guard m.state ≡ found → Walks m (guarded found m hand rest)
walks_guarded m hand rest guard passes at is = λ free gate. Moves.passes_over free at (Skips.by_guard is)
walks_guarded m hand rest guard greets_way at is =
    λ free gate. Moves.greets free at is (not-true (is_gone m.state.phase) gate)
walks_guarded m hand rest guard _ at is = λ free gate. tt

walks_updated : (m : Machine) (hand : Hand) (rest : List Part) (found : Option Effect)
    → IsAt m hand Part.Updates rest → effect_due m.state.wishes ≡ found → Walks m (updated found m hand rest)
walks_updated m hand rest (Some effect) at is =
    λ free gate. Moves.updates free at is (not-true (is_gone m.state.phase) gate)
walks_updated m hand rest None at is = λ free gate. Moves.passes_over free at (Skips.by_wishes is)

walks_part : (m : Machine) (hand : Hand) (rest : List Part) (part : Part) → IsAt m hand part rest
    → Walks m (part_due m hand part rest)
walks_part m hand rest (Part.Responds outcome) at = walks_responded m hand rest outcome hand.item refl at
walks_part m hand rest (Part.Tells event) at = λ free gate. Moves.tells free at
walks_part m hand rest (Part.Sends deed) at = λ free gate. Moves.sends free at (not-true (is_gone m.state.phase) gate)
walks_part m hand rest (Part.Looks lookup) at =
    walks_looked m hand rest lookup (found_for lookup m.state hand) at refl
walks_part m hand rest (Part.Awaits guard) at = walks_guarded m hand rest guard (way guard m.state) at refl
walks_part m hand rest Part.Updates at = walks_updated m hand rest (effect_due m.state.wishes) at refl
walks_part m hand rest (Part.Notes note) at = λ free gate. Moves.notes free at
walks_part m hand rest (Part.Unfolds choice) at = λ free gate. Moves.unfolds free at
walks_part m hand rest (Part.Ends finish) at = λ free gate. tt

walks_hand : (m : Machine) (hand : Hand) (parts : List Part) → m.hand ≡ Some hand → hand.parts ≡ parts
    → Walks m (hand_due m hand parts)
walks_hand m hand [] is are = λ free gate. Moves.drops free is are
walks_hand m hand (part ∷ rest) is are = walks_part m hand rest part (record { in_hand = is; parts = are })

walks_next : (m : Machine) (picked : Option Picked) → m.hand ≡ None → pick (is_gone m.state.phase) m.waiting ≡ picked
    → Walks m (next_item m picked)
walks_next m None is are = λ free gate. tt
walks_next m (Some picked) is are = λ free gate. Moves.begins picked free is are

walks_in : (m : Machine) (hand : Option Hand) → m.hand ≡ hand → Walks m (wanted_in m hand)
walks_in m None is = walks_next m (pick (is_gone m.state.phase) m.waiting) is refl
walks_in m (Some hand) is = walks_hand m hand hand.parts is refl

walks : (m : Machine) → Walks m (wanted m)
unfolding wanted
walks m = walks_in m m.hand refl

-- The gate ------------------------------------------------------------------------------------------------------------

walks_asked : (full : Bool) (m : Machine) (hand : Hand) (wants : List Want) → is_full false m ≡ full
    → load_of m ≡ queued → m.hand ≡ Some hand → hand.queue ≡ wants
    → Walked m (asked_first full m wants).act (asked_first full m wants).next
walks_asked full m hand [] fill is held are = tt
walks_asked true m hand (want ∷ wants) fill is held are = tt
walks_asked false m hand (want ∷ wants) fill is held are = Moves.asks is fill held are

walks_queued : (full : Bool) (m : Machine) (hand : Option Hand) → is_full false m ≡ full → load_of m ≡ queued
    → m.hand ≡ hand → Walked m (asked_next full m hand).act (asked_next full m hand).next
walks_queued full m None fill is held = tt
walks_queued full m (Some hand) fill is held = walks_asked full m hand hand.queue fill is held refl

walks_lacking : (m : Machine) (hand : Option Hand) → load_of m ≡ lacking_more → m.hand ≡ hand
    → Walked m (queued_next m hand).act (queued_next m hand).next
walks_lacking m None is held = tt
walks_lacking m (Some hand) is held = Moves.queues is held

walks_gated : (gate : Bool) (m : Machine) (to : Due) → (gate ≡ true → Walked m to.act to.next)
    → Walked m (gated gate m to).act (gated gate m to).next
walks_gated true m to walked = walked refl
walks_gated false m to walked = tt

walks_by : (m : Machine) (load : Load) → load_of m ≡ load
    → Walked m (due_by (is_full false m) load m).act (due_by (is_full false m) load m).next
walks_by m queued is = walks_queued (is_full false m) m m.hand refl is refl
walks_by m lacking_more is = walks_lacking m m.hand is refl
walks_by m clear is =
    walks_gated (lets (is_gone m.state.phase) (wanted m).act) m (wanted m) (λ gate. walks m is gate)
walks_by m _ is = tt

pub walks_due : (m : Machine) → Walked m (due false m).act (due false m).next
unfolding due
walks_due m = walks_by m (load_of m) refl

-- The induction ------------------------------------------------------------------------------------------------------

acted : {m next : Machine} {message : Message} (act : Act) → said act ≡ Some message → Walked m act next
    → Moves m (Some message) next
acted Act.Waits is w = cc
acted Act.Goes is w = cc
acted (Act.Over finish) is w = cc
acted {m} {next} _ is w = subst (λ (s : Option Message). Moves m s next) is w

pub gone_on : {m : Machine} → (due false m).act ≡ Act.Goes → Moves m None (due false m).next
gone_on {m} is = subst (λ (act : Act). Walked m act (due false m).next) is (walks_due m)

lost : {m : Machine} (gone : Bool) → is_gone m.state.phase ≡ gone → Moves m (Some Message.ends) (ended gone m)
lost true is = Moves.ends is
lost {m} false is = Moves.loses (pending_in m.hand) is Loses.by_end

split_loss : (gone last : Bool) → cond gone false last ≡ true → (gone ≡ false) × (last ≡ true)
split_loss true last is = cc
split_loss false last is = (refl, is)

replied_now : {m : Machine} (command : TargetCommand) (replied : Replied) (shows : Bool)
    → shows_end m.state.phase command replied ≡ shows
    → (is_end command replied ≡ true
    → Loses m (Message.answers command replied) (pending_in (option_map (hand_replied command replied) m.hand)))
    → (shows_end m.state.phase command replied ≡ false
    → Moves m (Some (Message.answers command replied)) (replied_machine m command replied))
    → Moves m (Some (Message.answers command replied)) (answered_by shows m command replied)
replied_now {m} command replied true is ends_it stays =
    let (near, last) = split_loss (is_gone m.state.phase) (is_end command replied) is in
    Moves.loses (pending_in (option_map (hand_replied command replied) m.hand)) near (ends_it last)
replied_now command replied false is ends_it stays = stays is

-- what is allowed is a move
pub moved : {m next : Machine} {message : Message} → Allows m message next → Moves m (Some message) next
moved {m} (Allows.acts is) = acted (due false m).act is (walks_due m)
moved (Allows.hears read is) = Moves.hears read is
moved (Allows.greeted read is) = Moves.greeted read is
moved {m} (Allows.answers {question} {replied} hand read is waits reply) =
    replied_now (a_question question) replied (shows_end m.state.phase (a_question question) replied) refl
    (λ last. Loses.by_question is waits reply last) (λ stays. Moves.answers is waits reply stays)
moved {m} (Allows.replies {effect} {replied} hand read is flying reply) =
    replied_now (an_effect effect) replied (shows_end m.state.phase (an_effect effect) replied) refl
    (λ last. Loses.by_effect is flying reply last) (λ stays. Moves.replies is flying reply stays)
moved (Allows.late before after read is reply) = Moves.late before after is reply
moved {m} (Allows.ends read) = lost (is_gone m.state.phase) refl
moved (Allows.comes read sized taken) = Moves.comes read sized taken
moved (Allows.keeps is) = Moves.keeps is
moved (Allows.reads before after read is none taken) = Moves.reads before after read is none taken

-- An invariant of runs that each move keeps, where it may use that they are runs.
pub record KeepsIn (Holds : List Message → Machine → Type 0) : Type 0 where
  pub starts : Holds [] fresh
  pub moves : (messages : List Message) (m next : Machine) (said : Option Message) → Run messages m → Holds messages m
      → Moves m said next → Run (with_said messages said) next → Holds (with_said messages said) next
  pub queues : (messages : List Message) (m : Machine) (hand : Hand) (queue : List Want) → Run messages m
      → MayQueue m hand queue → Holds messages (holds_hand m hand) → Holds messages (to_ask m hand queue)

-- what holds of a machine holds of it with the item that it has in hand
pub of_hand : (Holds : Machine → Type 0) (m : Machine) {hand : Hand} → m.hand ≡ Some hand → Holds m
    → Holds (holds_hand m hand)
of_hand Holds m is h = subst (λ (held : Option Hand). Holds (record m { hand = held })) is h

pub by_runs : {Holds : List Message → Machine → Type 0} → KeepsIn Holds → {messages : List Message} {m : Machine}
    → Run messages m → Holds messages m
by_runs k Run.starts = k.starts
by_runs k (Run.goes {messages} {m} r is) =
    k.moves messages m (due false m).next None r (by_runs k r) (gone_on is) (Run.goes r is)
by_runs {Holds} k (Run.queues {messages} {m} {hand} {queue} r may) =
    k.queues messages m hand queue r may (of_hand (Holds messages) m may.held (by_runs k r))
by_runs k (Run.moves {messages} {m} {next} {message} r allows) =
    k.moves messages m next (Some message) r (by_runs k r) (moved allows) (Run.moves r allows)

-- An invariant that each move keeps holds in each run.
pub by_moves : {Holds : List Message → Machine → Type 0} → Keeps Holds → {messages : List Message} {m : Machine}
    → Run messages m → Holds messages m
by_moves k r = by_runs (record {
  starts = k.starts;
  moves = λ messages m next said before h moved after. k.moves messages m next said h moved;
  queues = λ messages m hand queue before may h. k.queues messages m hand queue may h;
}) r

-- What is to be asked ------------------------------------------------------------------------------------------------

-- what holds of all that the part in front lacks holds of what is to be asked
pub all_to_ask : (P : Want → Type 0) {m : Machine} {hand : Hand} {queue : List Want} → MayQueue m hand queue
    → All P (lacked_by m.state hand hand.parts) → All P queue
all_to_ask P {m} {hand} {queue} may all = each queue may.lacking
  where
    lacked : List Want
    lacked = lacked_by m.state hand hand.parts

    each : (queue : List Want) → All (λ want. Contains lacked want) queue → All P queue
    each [] among = tt
    each (want ∷ queue) among = (
      All-contains P lacked want (All-from_recursion P lacked all) among.0,
      each queue among.1,
    )

-- where nothing is lacking nothing is to be asked
pub none_to_ask : {m : Machine} {hand : Hand} {queue : List Want} → MayQueue m hand queue
    → lacked_by m.state hand hand.parts ≡ [] → queue ≡ []
none_to_ask {m} {hand} {queue} may none = by_queue queue (all_to_ask (λ want. ⊥) may
    (subst (λ (wants : List Want). All (λ want. ⊥) wants) (sym none) tt))
  where
    by_queue : (queue : List Want) → All (λ want. ⊥) queue → queue ≡ []
    by_queue [] never = refl
    by_queue (want ∷ queue) never = absurd never.0
