-- What is pending is on its way, and while a suspension is held each reply in flight is still so when it comes.
use Rattle.std.proofs.Common.{◌≡◌, ◌<◌, ℕ, ◌+◌, Bool, true, false, ◌||◌, List, [], ◌∷◌, ◌++◌, Some}
use Rattle.std.proofs.Common.{Option, None, refl, sym, ap, subst, ◌∙◌, arith}
use Rattle.std.specs.List.{AllByRecursion, flat_map}
use Rattle.joint_model.specs.Joints.{Joint, Packet, a_reply, is_aside, some_events}
use Rattle.joint_model.specs.Laws.{IsHeld, IsStillSo, is_suspend, replies_to, total}
use Rattle.joint_model.specs.Names.{Act, Does, Suspend, TargetCommand}
use Rattle.joint_model.specs.Names.{a_question, an_effect}
use Rattle.joint_model.specs.Obeying.{Replies, Serves}
use Rattle.jdwp_commands.specs.declared.question.Question.{Question}
use Rattle.machine_model.specs.Due.{due}
use Rattle.machine_model.specs.Knowing.{held_in}
use Rattle.machine_model.specs.Leaving.{sends_farewell}
use Rattle.machine_model.specs.Names.{Composite, Replied}
use Rattle.machine_model.specs.Pending.{ArePending, bit, count, has_change, has_such}
use Rattle.machine_model.specs.Pending.{is_change, replied_by, sent_by}
use Rattle.machine_model.specs.Replying.{pending_in, pending_of, wire}
use Rattle.machine_model.specs.Runs.{Allows, Message}
use Rattle.machine_model.specs.State.{Hand, Machine}
use Rattle.machine_steps.proofs.PendingLaws.{all_open, pending_is}
use Rattle.machine_steps.proofs.Stepping.{Moves, moved, walks_due}
use Rattle.machine_steps.proofs.Tables.{free}
use Rattle.machine_steps.proofs.TurnLaws.{Turns, is_beside, turned}
use Rattle.world_model.specs.declared.world.World.{World}
use Rattle.world_model.specs.Replies.{reply_of}
use Rattle.world_model.proofs.HoldLaws.{all_push}
use Rattle.joint_model.proofs.BalanceLaws.{emitted_count, not_left, run_of}
use Rattle.joint_model.proofs.HeldLaws.{Begins, begins, total_last}
use Rattle.joint_model.proofs.ServedLaws.{served_lives}
use Rattle.joint_model.proofs.StillLaws.{stands_still}

-- Counts --------------------------------------------------------------------------------------------------------------

pub count_append : (test : TargetCommand → Bool) (some others : List TargetCommand)
    → count test (some ++ others) ≡ count test some + count test others
count_append test [] others = omega arith
count_append test (command ∷ some) others = let more = count_append test some others in omega arith

count_flat : (test : TargetCommand → Bool) (of : Message → List TargetCommand) (messages : List Message)
    → count test (flat_map of messages) ≡ total (λ (message : Message). count test (of message)) messages
count_flat test of [] = refl
count_flat test of (message ∷ messages) =
    let one = count_append test (of message) (flat_map of messages) in
    let more = count_flat test of messages in omega arith

abbrev sent_in : (TargetCommand → Bool) → Message → ℕ
sent_in test message = count test (sent_by message)

abbrev replied_in : (TargetCommand → Bool) → Message → ℕ
replied_in test message = count test (replied_by message)

aside_none : (test : TargetCommand → Bool) (message : Message) → is_aside message ≡ true
    → (sent_in test message ≡ 0) × (replied_in test message ≡ 0)
aside_none test (Message.hears request) is = (refl, refl)
aside_none test (Message.tells told) is = (refl, refl)
aside_none test Message.greets is = (refl, refl)
aside_none test Message.greeted is = (refl, refl)
aside_none test _ is = absurd cc

on_way : (test : TargetCommand → Bool) {messages : List Message} {m : Machine} {w : World}
    {commands : List TargetCommand} {packets : List Packet} {kept : List Composite}
    → Joint messages m w commands packets kept
    → total (sent_in test) messages
    ≡ count test commands + (total (replies_to test) packets + total (replied_in test) messages)
on_way test (Joint.starts sound alive free none) = refl
on_way test (Joint.goes j is) = on_way test j
on_way test (Joint.queues j may) = on_way test j
on_way test (Joint.says {messages} {message = message} j allows aside) =
    let before = on_way test j in let none = aside_none test message aside in
    let no_sent = none.0 in let no_reply = none.1 in
    let sent = total_last (sent_in test) messages message in
    let replied = total_last (replied_in test) messages message in omega arith
on_way test (Joint.sends {messages} {command = command} j allows) =
    let before = on_way test j in
    let sent = total_last (sent_in test) messages (Message.sends command) in
    let replied = total_last (replied_in test) messages (Message.sends command) in omega arith
on_way test (Joint.gets {messages} {command = command} {replied} j allows) =
    let before = on_way test j in
    let sent = total_last (sent_in test) messages (Message.answers command replied) in
    let said = total_last (replied_in test) messages (Message.answers command replied) in omega arith
on_way test (Joint.takes {messages} {composite = composite} {at} j allows) =
    let before = on_way test j in
    let sent = total_last (sent_in test) messages (Message.comes at composite) in
    let replied = total_last (replied_in test) messages (Message.comes at composite) in omega arith
on_way test (Joint.keeps {messages} {at = at} {body} j is allows) =
    let before = on_way test j in
    let sent = total_last (sent_in test) messages (Message.keeps at body) in
    let replied = total_last (replied_in test) messages (Message.keeps at body) in omega arith
on_way test (Joint.reads {messages} {composite = composite} {at} {body} j is allows) =
    let before = on_way test j in
    let sent = total_last (sent_in test) messages (Message.reads at body composite) in
    let replied = total_last (replied_in test) messages (Message.reads at body composite) in omega arith
on_way test (Joint.loses {messages} j allows) =
    let before = on_way test j in
    let sent = total_last (sent_in test) messages Message.ends in
    let replied = total_last (replied_in test) messages Message.ends in omega arith
on_way test (Joint.serves {packets = packets} {replied = replied} command before after j serves) =
    let earlier = on_way test j in
    let was = count_append test before (command ∷ after) in
    let now = count_append test before after in
    let more = total_last (replies_to test) packets (a_reply command replied) in omega arith
on_way test (Joint.runs j runs) = on_way test j
on_way test (Joint.emits {packets = packets} {composite = composite} j emits) =
    let before = on_way test j in
    let more = total_last (replies_to test) packets (some_events composite) in omega arith
on_way test (Joint.dies j) = on_way test j

pub pending_on_way : (messages : List Message) (m : Machine) (w : World) (commands : List TargetCommand)
    (packets : List Packet) (kept : List Composite) (test : TargetCommand → Bool)
    → Joint messages m w commands packets kept
    → count test (pending_of m) ≡ count test commands + total (replies_to test) packets
pending_on_way messages m w commands packets kept test j =
    let way = on_way test j in
    let counted = (pending_is messages m (run_of j)).counted test in
    let sent = count_flat test sent_by messages in
    let replied = count_flat test replied_by messages in omega arith

-- Silent moves --------------------------------------------------------------------------------------------------------

pub silent_move : {m : Machine} → (due false m).act ≡ Act.Goes → Moves m None (due false m).next
silent_move {m} is = rw is at (walks_due m)

-- A command that changes the target goes alone ------------------------------------------------------------------------

abbrev pub is_question : TargetCommand → Bool
is_question (a_question question) = true
is_question (an_effect effect) = false

pub no_change : (pending : List TargetCommand) → has_change pending ≡ false → count is_change pending ≡ 0
no_change [] is = refl
no_change (command ∷ pending) is =
    let two = neither (is_change command) (has_change pending) is in
    let one = ap bit two.0 in let more = no_change pending two.1 in omega arith
  where
    neither : (one others : Bool) → (one || others) ≡ false → (one ≡ false) × (others ≡ false)
    neither true others is = absurd cc
    neither false others is = (refl, is)

pub change_alone : {messages : List Message} {pending : List TargetCommand} → ArePending messages pending
    → 0 < count is_change pending → count is_question pending ≡ 0
change_alone ArePending.none some = refl
change_alone (ArePending.aside message is h) some = change_alone h some
change_alone (ArePending.greets is h) some = change_alone h some
change_alone (ArePending.asks {pending = pending} question shakes only h) some =
    let none = no_change pending only in
    let more = count_append is_change pending (a_question question ∷ []) in absurd (omega arith)
change_alone (ArePending.changes effect shakes h) some = refl
change_alone (ArePending.answers command replied before after h) some =
    let was = count_append is_change before (command ∷ after) in
    let now = count_append is_change before after in
    let asked = count_append is_question before (command ∷ after) in
    let left = count_append is_question before after in
    let more : 0 < count is_change (before ++ command ∷ after) = omega arith in
    let none = change_alone h more in omega arith

changes_too : (pending : List TargetCommand) → 0 < count is_suspend pending → 0 < count is_change pending
changes_too [] some = some
changes_too (command ∷ pending) some = by_command command some (changes_too pending)
  where
    by_command : (command : TargetCommand) → 0 < count is_suspend (command ∷ pending)
        → (0 < count is_suspend pending → 0 < count is_change pending) → 0 < count is_change (command ∷ pending)
    by_command (a_question question) some more =
        let rest : 0 < count is_suspend pending = omega arith in let now = more rest in omega arith
    by_command (an_effect effect) some more = omega arith

-- What is in flight ---------------------------------------------------------------------------------------------------

none_asked : (w : World) (packets : List Packet) → total (replies_to is_question) packets ≡ 0
    → AllByRecursion (IsStillSo w) packets
none_asked w [] is = tt
none_asked w (a_reply (a_question question) replied ∷ packets) is = absurd (omega arith)
none_asked w (a_reply (an_effect effect) replied ∷ packets) is =
    let rest : total (replies_to is_question) packets ≡ 0 = omega arith in (tt, none_asked w packets rest)
none_asked w (some_events composite ∷ packets) is =
    let rest : total (replies_to is_question) packets ≡ 0 = omega arith in (tt, none_asked w packets rest)

-- no question is pending, so none has a reply in flight
no_flight : {messages : List Message} {m : Machine} {w : World} {commands : List TargetCommand}
    {packets : List Packet} {kept : List Composite} (now : World) → Joint messages m w commands packets kept
    → count is_question (pending_of m) ≡ 0 → AllByRecursion (IsStillSo now) packets
no_flight {messages} {m} {w} {commands} {packets} {kept} now j none =
    let way = pending_on_way messages m w commands packets kept is_question j in
    none_asked now packets (omega arith)

abbrev Stays : Machine → World → List Packet → Type 0
Stays m w packets = IsHeld m → count is_suspend (pending_of m) ≡ 0 → AllByRecursion (IsStillSo w) packets

by_begins : {messages : List Message} {m : Machine} {w : World} {commands : List TargetCommand}
    {packets : List Packet} {kept : List Composite} → Joint messages m w commands packets kept
    → count is_suspend (pending_of m) ≡ 0 → Stays m w packets → Begins m → AllByRecursion (IsStillSo w) packets
by_begins j few stays (Begins.stood some) = stays some few
by_begins {w = w} j few stays (Begins.silent none nil) = no_flight w j (ap (count is_question) nil)

before_turn : {messages : List Message} {m : Machine} {w : World} {commands now : List TargetCommand}
    {packets : List Packet} {kept : List Composite} {both sent : Bool} {said : Option Message}
    → Joint messages m w commands packets kept → Turns (pending_of m) both sent said now → count is_suspend now ≡ 0
    → ((said ≡ Some (Message.sends (an_effect (Does Suspend))) → ⊥) → Begins m) → Stays m w packets
    → AllByRecursion (IsStillSo w) packets
before_turn j (Turns.stays beside same) few b stays =
    by_begins j (ap (count is_suspend) (sym same) ∙ few) stays
    (b (λ is. let other : true ≡ false = sym beside ∙ ap is_beside is in cc))
before_turn j (Turns.greets unsent same) few b stays =
    by_begins j (ap (count is_suspend) (sym same) ∙ few) stays (b (λ is. cc))
before_turn {m = m} j (Turns.asks question shakes room only same) few b stays =
    let more = count_append is_suspend (pending_of m) (a_question question ∷ []) in
    let now = ap (count is_suspend) same in
    by_begins j (omega arith) stays (b (λ is. cc))
before_turn {w = w} j (Turns.changes effect shakes nil same) few b stays =
    no_flight w j (ap (count is_question) nil)
before_turn {messages} {m} {w} {packets = packets} j (Turns.answers command replied before after was same) few b stays =
    by_command (is_suspend command) refl
  where
    by_command : (suspends : Bool) → is_suspend command ≡ suspends → AllByRecursion (IsStillSo w) packets
    by_command true is =
        let here = ap (count is_suspend) was in
        let parts = count_append is_suspend before (command ∷ after) in
        let one : bit (is_suspend command) ≡ 1 = ap bit is in
        let some : 0 < count is_suspend (pending_of m) = omega arith in
        no_flight w j (change_alone (all_open (run_of j)).pending (changes_too (pending_of m) some))
    by_command false is =
        let here = ap (count is_suspend) was in
        let now = ap (count is_suspend) same in
        let parts = count_append is_suspend before (command ∷ after) in
        let others = count_append is_suspend before after in
        let one : bit (is_suspend command) ≡ 0 = ap bit is in
        by_begins j (omega arith) stays (b (λ is. cc))

pub before_message : {messages : List Message} {m next : Machine} {w : World} {commands : List TargetCommand}
    {packets : List Packet} {kept : List Composite} {message : Message} → Joint messages m w commands packets kept
    → Allows m message next → IsHeld next → count is_suspend (pending_of next) ≡ 0 → Stays m w packets
    → AllByRecursion (IsStillSo w) packets
before_message {m = m} {next} {message = message} j allows some few stays =
    let r = run_of j in
    before_turn j (turned m next (Some message) (all_open r).holds (moved allows)) few (begins r (moved allows) some)
    stays

before_goes : {messages : List Message} {m : Machine} {w : World} {commands : List TargetCommand}
    {packets : List Packet} {kept : List Composite} → Joint messages m w commands packets kept
    → (due false m).act ≡ Act.Goes → IsHeld (due false m).next
    → count is_suspend (pending_of (due false m).next) ≡ 0 → Stays m w packets → AllByRecursion (IsStillSo w) packets
before_goes {m = m} j is some few stays =
    let r = run_of j in
    before_turn j (turned m (due false m).next None (all_open r).holds (silent_move is)) few
    (begins r (silent_move is) some) stays

pub same_reply : {w now : World} {question : Question} {replied : Replied} → reply_of now question ≡ reply_of w question
    → Replies w question replied → Replies now question replied
same_reply same (Replies.says is) = Replies.says (same ∙ is)
same_reply same (Replies.refuses is may) = Replies.refuses (same ∙ is) may

still_so : (w now : World) (packets : List Packet)
    → ((question : Question) → reply_of now question ≡ reply_of w question)
    → AllByRecursion (IsStillSo w) packets → AllByRecursion (IsStillSo now) packets
still_so w now [] same are = tt
still_so w now (a_reply (a_question question) replied ∷ packets) same are =
    (same_reply (same question) are.0, still_so w now packets same are.1)
still_so w now (a_reply (an_effect effect) replied ∷ packets) same are = (tt, still_so w now packets same are.1)
still_so w now (some_events composite ∷ packets) same are = (tt, still_so w now packets same are.1)

-- a question is served as the world stands; an effect goes alone
served_so : {messages : List Message} {m : Machine} {w now : World} {packets : List Packet} {kept : List Composite}
    {replied : Replied} (command : TargetCommand) (before after : List TargetCommand)
    → Joint messages m w (before ++ command ∷ after) packets kept → Serves w (wire command) replied now
    → AllByRecursion (IsStillSo w) packets
    → AllByRecursion (IsStillSo now) (packets ++ a_reply command replied ∷ [])
served_so {w = w} {packets = packets} {replied = replied} (a_question question) before after j (Serves.replies is) are =
    all_push (IsStillSo w) packets (a_reply (a_question question) replied) are is
served_so {messages} {m} {w} {now} {packets} {kept} {replied} (an_effect effect) before after j serves are =
    let way = pending_on_way messages m w (before ++ an_effect effect ∷ after) packets kept is_change j in
    let parts = count_append is_change before (an_effect effect ∷ after) in
    let some : 0 < count is_change (pending_of m) = omega arith in
    all_push (IsStillSo now) packets (a_reply (an_effect effect) replied)
    (no_flight now j (change_alone (all_open (run_of j)).pending some)) tt

pub replies_so : {messages : List Message} {m : Machine} {w : World} {commands : List TargetCommand}
    {packets : List Packet} {kept : List Composite} → Joint messages m w commands packets kept → w.dead ≡ false
    → has_such sends_farewell messages ≡ false → IsHeld m → count is_suspend (pending_of m) ≡ 0
    → AllByRecursion (IsStillSo w) packets
replies_so (Joint.starts sound alive free none) lives near here few = tt
replies_so (Joint.goes j is) lives near here few = before_goes j is here few (replies_so j lives near)
replies_so (Joint.queues {m = m} j may) lives near here few = replies_so j lives near
    (subst (λ (held : Option Hand). 0 < held_in m.state held) (sym may.held) here)
    (subst (λ (held : Option Hand). count is_suspend (m.late ++ pending_in held) ≡ 0) (sym may.held) few)
replies_so (Joint.says {messages} {message = message} j allows aside) lives near here few =
    before_message j allows here few (replies_so j lives (not_left messages message near).0)
replies_so (Joint.sends {messages} {command = command} j allows) lives near here few =
    before_message j allows here few (replies_so j lives (not_left messages (Message.sends command) near).0)
replies_so (Joint.gets {messages} {command = command} {replied} j allows) lives near here few =
    (before_message j allows here few
    (replies_so j lives (not_left messages (Message.answers command replied) near).0)).1
replies_so (Joint.takes {messages} {composite = composite} {at} j allows) lives near here few =
    (before_message j allows here few (replies_so j lives (not_left messages (Message.comes at composite) near).0)).1
replies_so (Joint.keeps {messages} {at = at} {body} j is allows) lives near here few =
    (before_message j allows here few (replies_so j lives (not_left messages (Message.keeps at body) near).0)).1
replies_so (Joint.reads {messages} {composite = composite} {at} {body} j is allows) lives near here few =
    before_message j allows here few (replies_so j lives (not_left messages (Message.reads at body composite) near).0)
replies_so (Joint.loses {messages} j allows) lives near here few =
    before_message j allows here few (replies_so j lives (not_left messages Message.ends near).0)
replies_so (Joint.serves command before after j serves) lives near here few =
    served_so command before after j serves (replies_so j (served_lives serves lives) near here few)
replies_so (Joint.runs {messages} {m} {w} {now} {commands} {packets} {kept} j runs) lives near here few =
    absurd ((stands_still messages m w commands packets kept j runs.alive near here few).no_run now runs)
replies_so (Joint.emits {messages} {m} {w} {now} {commands} {packets} {kept} {composite} j emits) lives near here few =
    let counted = emitted_count emits lives in
    let still = stands_still messages m w commands packets kept j counted.0 near here few in
    let held = still.suspended in
    let more = counted.1 in
    let some : 0 < now.count = omega arith in
    all_push (IsStillSo now) packets (some_events composite)
    (still_so w now packets ((still.told composite now emits).replies lives some)
    (replies_so j counted.0 near here few)) tt
replies_so (Joint.dies j) lives near here few = absurd cc

pub replies_stay : (messages : List Message) (m : Machine) (w : World) (commands : List TargetCommand)
    (packets : List Packet) (kept : List Composite) → Joint messages m w commands packets kept → w.dead ≡ false
    → has_such sends_farewell messages ≡ false → IsHeld m → count is_suspend (pending_of m) ≡ 0
    → AllByRecursion (IsStillSo w) packets
replies_stay messages m w commands packets kept j lives near here few = replies_so j lives near here few
