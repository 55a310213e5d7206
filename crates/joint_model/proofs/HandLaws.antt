-- While a suspension is held, the replies of an item for which nothing was written are still so in the target's world,
-- and a look-up by them shows it.
use Rattle.std.proofs.Common.{◌≡◌, ◌||◌, ℕ, zero, suc, Bool, true, false, cond, List, [], ◌∷◌, ◌++◌, Option, Some}
use Rattle.std.proofs.Common.{None, refl, sym, ap, subst, ◌∙◌, arith, ◌<◌, not}
use Rattle.std.proofs.lemmas.Bool.{not-true}
use Rattle.std.specs.List.{AllByRecursion, flat_map}
use Rattle.joint_model.specs.Joints.{Joint, Packet, a_reply, is_aside}
use Rattle.joint_model.specs.Laws.{AreFactsOf, IsHeld, IsStillSo, has_look, is_suspend, puts, wrote_nothing}
use Rattle.joint_model.specs.Names.{Does, Effect, Suspend, TargetCommand, a_question, an_effect}
use Rattle.joint_model.specs.Obeying.{Replies, Serves}
use Rattle.jdwp_commands.specs.declared.question.Question.{Question}
use Rattle.machine_model.specs.Due.{due}
use Rattle.machine_model.specs.Knowing.{held_in}
use Rattle.machine_model.specs.Leaving.{sends_farewell}
use Rattle.machine_model.specs.Lookups.{found_for, plan}
use Rattle.machine_model.specs.Names.{Composite, Replied, an_event}
use Rattle.machine_model.specs.Pending.{bit, count, has_such}
use Rattle.machine_model.specs.PlanLaws.{Agrees, RepliedAt}
use Rattle.machine_model.specs.Plans.{asks_for, of_world, question_of}
use Rattle.machine_model.specs.Replying.{filled, pending_in, pending_of, unanswered, unanswered_effect, waits_for}
use Rattle.machine_model.specs.Replying.{wire}
use Rattle.machine_model.specs.Runs.{Allows, Message, Run}
use Rattle.machine_model.specs.State.{Hand, Machine, is_gone, is_none}
use Rattle.machine_model.specs.Telling.{after_event, event_told, outcome_told, response_to}
use Rattle.machine_model.specs.declared.acts.Doing.{Doing}
use Rattle.machine_model.specs.declared.acts.Sent.{Sent}
use Rattle.machine_model.specs.declared.parts.Lookup.{Lookup}
use Rattle.machine_model.specs.declared.parts.Part.{Part}
use Rattle.machine_model.proofs.KeyLaws.{is_one}
use Rattle.machine_steps.proofs.PendingLaws.{all_open}
use Rattle.machine_steps.proofs.Stepping.{Moves, moved}
use Rattle.machine_steps.proofs.TurnLaws.{Turns, none_late, same_hand, turned}
use Rattle.world_model.specs.declared.world.World.{World}
use Rattle.world_model.specs.Replies.{reply_of}
use Rattle.world_model.proofs.HoldLaws.{all_push}
use Rattle.joint_model.proofs.BalanceLaws.{emitted_count, not_left, run_of}
use Rattle.joint_model.proofs.FlightLaws.{before_message, count_append, pending_on_way, replies_so}
use Rattle.joint_model.proofs.FlightLaws.{same_reply, silent_move}
use Rattle.joint_model.proofs.HeldLaws.{Begins, begins, near_held}
use Rattle.joint_model.proofs.LookedFirst.{deed_last, did, due_plain, hand_last, is_deed, sent_closed, wrote_chosen}
use Rattle.joint_model.proofs.LookedFirst.{wrote_front, wrote_here}
use Rattle.joint_model.proofs.LookUpLaws.{look_ups}
use Rattle.joint_model.proofs.ServedLaws.{served_lives}
use Rattle.joint_model.proofs.StillLaws.{stands_still}

-- Replies in hand -----------------------------------------------------------------------------------------------------

abbrev IsReplySo : World → Question → Option Replied → Type 0
IsReplySo w question None = Unit {0}
IsReplySo w question (Some replied) = Replies w question replied

abbrev IsSentSo : World → Sent → Type 0
IsSentSo w sent = IsReplySo w (question_of sent.want) sent.reply

-- an item for which nothing was written has replies that are so
abbrev HandSo : World → Option Hand → Type 0
HandSo w None = Unit {0}
HandSo w (Some hand) = wrote_nothing hand ≡ true → AllByRecursion (IsSentSo w) hand.asked

held_so : (w : World) {hand : Hand} {held : Option Hand} → held ≡ Some hand → HandSo w held → HandSo w (Some hand)
held_so w is h = subst (λ (held : Option Hand). HandSo w held) is h

waits_one : (sent : Sent) (question : Question) → waits_for sent question ≡ true → question_of sent.want ≡ question
waits_one sent question is = is_one (question_of sent.want) question (by_reply (is_none sent.reply) is)
  where
    by_reply : (none : Bool) → cond none (asks_for sent question) false ≡ true → asks_for sent question ≡ true
    by_reply true is = is
    by_reply false is = absurd cc

filled_so : (w : World) (question : Question) (replied : Replied) (asked : List Sent) → Replies w question replied
    → AllByRecursion (IsSentSo w) asked → AllByRecursion (IsSentSo w) (filled question replied asked)
filled_so w question replied [] so are = tt
filled_so w question replied (sent ∷ asked) so are =
    by_wait (waits_for sent question) refl (filled_so w question replied asked so are.1)
  where
    by_wait : (waits : Bool) → waits_for sent question ≡ waits
        → AllByRecursion (IsSentSo w) (filled question replied asked)
        → AllByRecursion (IsSentSo w)
        (cond waits (record sent { reply = Some replied } ∷ asked) (sent ∷ filled question replied asked))
    by_wait true is rest =
        (subst (λ (q : Question). Replies w q replied) (sym (waits_one sent question is)) so, are.1)
    by_wait false is rest = (are.0, rest)

-- One step ------------------------------------------------------------------------------------------------------------

few_back : {pending now : List TargetCommand} {both sent : Bool} {said : Option Message}
    → Turns pending both sent said now → count is_suspend now ≡ 0
    → ((command : TargetCommand) (replied : Replied) → said ≡ Some (Message.answers command replied)
    → is_suspend command ≡ false) → count is_suspend pending ≡ 0
few_back (Turns.stays beside same) few other = ap (count is_suspend) (sym same) ∙ few
few_back (Turns.greets unsent same) few other = ap (count is_suspend) (sym same) ∙ few
few_back {pending} (Turns.asks question shakes room only same) few other =
    let more = count_append is_suspend pending (a_question question ∷ []) in
    let now = ap (count is_suspend) same in omega arith
few_back (Turns.changes effect shakes nil same) few other = ap (count is_suspend) nil
few_back (Turns.answers command replied before after was same) few other =
    let here = ap (count is_suspend) was in
    let now = ap (count is_suspend) same in
    let parts = count_append is_suspend before (command ∷ after) in
    let others = count_append is_suspend before after in
    let one : bit (is_suspend command) ≡ 0 = ap bit (other command replied refl) in omega arith

no_middle : (before after : List TargetCommand) (command : TargetCommand) → before ++ command ∷ after ≡ [] → ⊥
no_middle [] after command is = cc
no_middle (one ∷ before) after command is = cc

abbrev Told : World → Option Message → Type 0
Told w said = (question : Question) (replied : Replied)
    → said ≡ Some (Message.answers (a_question question) replied) → Replies w question replied

abbrev Before : World → Machine → Type 0
Before w m = IsHeld m → count is_suspend (pending_of m) ≡ 0 → HandSo w m.hand

-- it sends no Suspend, and brings no reply to one
record IsApart (said : Option Message) : Type 0 where
  sends : said ≡ Some (Message.sends (an_effect (Does Suspend))) → ⊥
  brings : (command : TargetCommand) (replied : Replied) → said ≡ Some (Message.answers command replied)
      → is_suspend command ≡ false

-- then what was so before it was so with the suspension that is held behind it
was_so : {messages : List Message} (w : World) {m next : Machine} {said : Option Message} → Run messages m
    → Moves m said next → IsHeld next → count is_suspend (pending_of next) ≡ 0 → Before w m → IsApart said
    → HandSo w m.hand
was_so w {m} {next} {said} r moves some few ih apart = by_begins (begins r moves some apart.sends)
  where
    by_begins : Begins m → HandSo w m.hand
    by_begins (Begins.stood here) =
        ih here (few_back (turned m next said (all_open r).holds moves) few apart.brings)
    by_begins (Begins.silent none nil) = subst (λ (held : Option Hand). HandSo w held) (sym none) tt

abbrev is_apart : Message → Bool
is_apart (Message.sends command) = not (is_suspend command)
is_apart (Message.answers command replied) = not (is_suspend command)
is_apart _ = true

message_apart : (message : Message) → is_apart message ≡ true → IsApart (Some message)
message_apart message is = record {
  sends = λ one. let same : message ≡ Message.sends (an_effect (Does Suspend)) = cc in
      let no : true ≡ false = sym is ∙ ap is_apart same in cc;
  brings = λ command replied one. let same : message ≡ Message.answers command replied = cc in
      not-true (is_suspend command) (sym (ap is_apart same) ∙ is);
}

silent_apart : IsApart None
silent_apart = record { sends = λ is. cc; brings = λ command replied is. absurd cc }

suspends_not : (effect : Effect) → is_deed effect ≡ false → is_suspend (an_effect effect) ≡ false
suspends_not effect is = grind (arith, is)

always : (some : Bool) → (some || true) ≡ true
always true = refl
always false = refl

or_later : (none later : Bool) → later ≡ true → (none || later) ≡ true
or_later true later is = refl
or_later false later is = is

step_so : {messages : List Message} (w : World) (m next : Machine) (said : Option Message) → Run messages m
    → Moves m said next → is_gone next.state.phase ≡ false → IsHeld next → count is_suspend (pending_of next) ≡ 0
    → Told w said → Before w m → HandSo w next.hand
step_so w m next said r (Moves.begins picked free none is) near some few told ih = λ wrote. tt
step_so w m next said r (Moves.drops free is none) near some few told ih = tt
step_so w m next said r (Moves.responds {request = request} {outcome} free at is) near some few told ih = λ wrote.
    held_so w at.in_hand (was_so w r (Moves.responds free at is) some few ih (message_apart (Message.tells
    (response_to request (outcome_told outcome m.state))) refl)) (wrote_front at wrote)
step_so w m next said r (Moves.finds {hand = hand} found free at needs done) near some few told ih = λ wrote.
    held_so w at.in_hand (was_so w r (Moves.finds found free at needs done) some few ih silent_apart)
    (wrote_here at (always (is_none hand.effect)))
step_so w m next said r (Moves.passes_over free at why) near some few told ih = λ wrote.
    held_so w at.in_hand (was_so w r (Moves.passes_over free at why) some few ih silent_apart) (wrote_front at wrote)
step_so w m next said r (Moves.tells {event = event} free at) near some few told ih = λ wrote.
    held_so w at.in_hand (was_so w r (Moves.tells free at) some few ih (message_apart (Message.tells
    (an_event (event_told event (after_event event m.state)))) refl)) (wrote_front at wrote)
step_so w m next said r (Moves.sends free at alive) near some few told ih = λ wrote.
    let no : true ≡ false = sym wrote ∙ sent_closed r at in absurd cc
step_so w m next said r (Moves.updates {hand} {effect} {rest} free at is alive) near some few told ih = λ wrote.
    held_so w at.in_hand (was_so w r (Moves.updates free at is alive) some few ih
    (message_apart (Message.sends (an_effect effect))
    (ap not (suspends_not effect (due_plain m.state.wishes effect is)))))
    (wrote_front at (or_later (is_none hand.effect) (has_look rest) wrote))
step_so w m next said r (Moves.greets free at is alive) near some few told ih =
    was_so w r (Moves.greets free at is alive) some few ih (message_apart Message.greets refl)
step_so w m next said r (Moves.notes free at) near some few told ih = λ wrote.
    held_so w at.in_hand (was_so w r (Moves.notes free at) some few ih silent_apart) (wrote_front at wrote)
step_so w m next said r (Moves.unfolds free at) near some few told ih = λ wrote.
    held_so w at.in_hand (was_so w r (Moves.unfolds free at) some few ih silent_apart) (wrote_chosen at wrote)
step_so w m next said r (Moves.queues free is) near some few told ih =
    held_so w is (was_so w r (Moves.queues free is) some few ih silent_apart)
step_so w m next said r (Moves.asks {hand} {want} free room is are) near some few told ih =
    let before = was_so w r (Moves.asks free room is are) some few ih
    (message_apart (Message.sends (a_question (question_of want))) refl) in
    rw is (λ wrote. all_push (IsSentSo w) hand.asked (record { want = want; reply = None })
    (held_so w is before wrote) tt)
step_so w m next said r (Moves.answers {question} {replied} {hand} is waits reply stays) near some few told ih =
    let before = was_so w r (Moves.answers is waits reply stays) some few ih
    (message_apart (Message.answers (a_question question) replied) refl) in
    rw is (λ wrote. filled_so w question replied hand.asked (told question replied refl) (held_so w is before wrote))
step_so w m next said r (Moves.replies {effect} {replied} {hand} is flies reply stays) near some few told ih =
    rw is (λ wrote. by_deed (is_deed effect) refl wrote)
  where
    before : is_deed effect ≡ false → HandSo w m.hand
    before plain = was_so w r (Moves.replies is flies reply stays) some few ih
        (message_apart (Message.answers (an_effect effect) replied) (ap not (suspends_not effect plain)))

    by_deed : (deed : Bool) → is_deed effect ≡ deed → has_look hand.parts ≡ true
        → AllByRecursion (IsSentSo w) hand.asked
    by_deed true deed look =
        let no : true ≡ false = sym look ∙ hand_last is (deed_last r) (ap did flies ∙ deed) in absurd cc
    by_deed false plain look =
        held_so w is (before plain) (or_later (is_none hand.effect) (has_look hand.parts) look)
step_so w m next said r (Moves.late {command} before after is reply) near some few told ih =
    absurd (no_middle before after command (sym is ∙ none_late m (all_open r).holds.late near))
step_so w m next said r (Moves.ends gone) near some few told ih =
    let no : true ≡ false = sym gone ∙ near in absurd cc
step_so w m next said r (Moves.loses late alive why) near some few told ih = absurd cc
step_so w m next said r (Moves.hears {request} read is) near some few told ih =
    was_so w r (Moves.hears {request = request} read is) some few ih (message_apart (Message.hears request) refl)
step_so w m next said r (Moves.greeted read is) near some few told ih =
    was_so w r (Moves.greeted read is) some few ih (message_apart Message.greeted refl)
step_so w m next said r (Moves.comes {at} {composite} read sized taken) near some few told ih =
    was_so w r (Moves.comes {at = at} read sized taken) some few ih (message_apart (Message.comes at composite) refl)
step_so w m next said r (Moves.keeps {at} {body} is) near some few told ih =
    was_so w r (Moves.keeps {at = at} {body = body} is) some few ih (message_apart (Message.keeps at body) refl)
step_so w m next said r (Moves.reads {at} {body} {composite} before after read is none taken) near some few told ih =
    was_so w r (Moves.reads before after read is none taken) some few ih
    (message_apart (Message.reads at body composite) refl)

-- Every joint ---------------------------------------------------------------------------------------------------------

reply_so : (w now : World) (question : Question) (reply : Option Replied) → reply_of now question ≡ reply_of w question
    → IsReplySo w question reply → IsReplySo now question reply
reply_so w now question None same so = tt
reply_so w now question (Some replied) same so = same_reply same so

sents_so : (w now : World) (asked : List Sent) → ((question : Question) → reply_of now question ≡ reply_of w question)
    → AllByRecursion (IsSentSo w) asked → AllByRecursion (IsSentSo now) asked
sents_so w now [] same are = tt
sents_so w now (sent ∷ asked) same are = (
  reply_so w now (question_of sent.want) sent.reply (same (question_of sent.want)) are.0,
  sents_so w now asked same are.1,
)

hand_so : (w now : World) (hand : Option Hand) → ((question : Question) → reply_of now question ≡ reply_of w question)
    → HandSo w hand → HandSo now hand
hand_so w now None same h = tt
hand_so w now (Some hand) same h = λ wrote. sents_so w now hand.asked same (h wrote)

replied_head : (w : World) (command : TargetCommand) (replied : Replied) → IsStillSo w (a_reply command replied)
    → (question : Question) (other : Replied) → command ≡ a_question question → replied ≡ other
    → Replies w question other
replied_head w (a_question asked) replied so question other is same =
    let questions : asked ≡ question = cc in
    subst (λ (q : Question). Replies w q other) questions (subst (λ (r : Replied). Replies w asked r) same so)
replied_head w (an_effect effect) replied so question other is same = absurd cc

abbrev is_done : TargetCommand → Bool
is_done (a_question question) = false
is_done (an_effect effect) = is_deed effect

none_asked : (asked : List Sent) → count is_done (flat_map unanswered asked) ≡ 0
none_asked [] = refl
none_asked (sent ∷ asked) = by_reply (is_none sent.reply) (none_asked asked)
  where
    by_reply : (none : Bool) → count is_done (flat_map unanswered asked) ≡ 0
        → count is_done (cond none (a_question (question_of sent.want) ∷ []) [] ++ flat_map unanswered asked) ≡ 0
    by_reply true none = omega arith
    by_reply false none = none

none_done : (effect : Option Doing) → did effect ≡ false → count is_done (unanswered_effect effect) ≡ 0
none_done None is = refl
none_done (Some doing) is = by_reply (is_none doing.reply)
  where
    by_reply : (none : Bool) → count is_done (cond none (an_effect doing.effect ∷ []) []) ≡ 0
    by_reply true = let one = ap bit is in omega arith
    by_reply false = refl

-- where nothing was written for the item in hand, no deed is pending
undone : {messages : List Message} {m : Machine} {hand : Hand} → Run messages m → is_gone m.state.phase ≡ false
    → m.hand ≡ Some hand → wrote_nothing hand ≡ true → count is_done (pending_of m) ≡ 0
undone {m = m} {hand} r near is wrote =
    let late = none_late m (all_open r).holds.late near in
    let all : pending_of m ≡ flat_map unanswered hand.asked ++ unanswered_effect hand.effect =
    sym (same_hand m hand is) ∙ ap (λ (more : List TargetCommand). more ++ pending_in (Some hand)) late in
    let asked = none_asked hand.asked in
    let joined = count_append is_done (flat_map unanswered hand.asked) (unanswered_effect hand.effect) in
    let none = none_done hand.effect (by_did hand.effect hand.parts (hand_last is (deed_last r)) wrote) in
    let counted = ap (count is_done) all in omega arith
  where
    by_did : (effect : Option Doing) (parts : List Part) → (did effect ≡ true → has_look parts ≡ false)
        → (is_none effect || has_look parts) ≡ true → did effect ≡ false
    by_did None parts last wrote = refl
    by_did (Some doing) parts last wrote = by_deed (is_deed doing.effect) last
      where
        by_deed : (deed : Bool) → (deed ≡ true → has_look parts ≡ false) → deed ≡ false
        by_deed true last = let no : true ≡ false = sym wrote ∙ last refl in absurd cc
        by_deed false last = refl

plain_puts : (effect : Effect) → is_deed effect ≡ false → puts (wire (an_effect effect)) ≡ false
plain_puts effect is = grind (arith, is)

-- An effect that is served is no deed of an item for which nothing was written; and one that sets or clears an event
-- request changes no reply.
effect_so : {messages : List Message} {m : Machine} {w now : World} {packets : List Packet} {kept : List Composite}
    {replied : Replied} (effect : Effect) (before after : List TargetCommand)
    → Joint messages m w (before ++ an_effect effect ∷ after) packets kept
    → Serves w (wire (an_effect effect)) replied now → now.dead ≡ false → has_such sends_farewell messages ≡ false
    → IsHeld m → count is_suspend (pending_of m) ≡ 0 → HandSo w m.hand → HandSo now m.hand
effect_so {messages} {m} {w} {now} {packets} {kept} {replied} effect before after j serves lives near some few so =
    by_hand m.hand refl so
  where
    by_deed : (hand : Hand) → m.hand ≡ Some hand → wrote_nothing hand ≡ true → (deed : Bool) → is_deed effect ≡ deed
        → deed ≡ false
    by_deed hand is wrote true deed =
        let way = pending_on_way messages m w (before ++ an_effect effect ∷ after) packets kept is_done j in
        let parts = count_append is_done before (an_effect effect ∷ after) in
        let one : bit (is_done (an_effect effect)) ≡ 1 = ap bit deed in
        let none = undone (run_of j) (near_held (run_of j) some) is wrote in absurd (omega arith)
    by_deed hand is wrote false plain = refl

    by_hand : (held : Option Hand) → m.hand ≡ held → HandSo w held → HandSo now held
    by_hand None is so = tt
    by_hand (Some hand) is so = λ wrote.
        let plain = by_deed hand is wrote (is_deed effect) refl in
        let alive = served_lives serves lives in
        let there = stands_still messages m w (before ++ an_effect effect ∷ after) packets kept j alive near some few in
        let here = stands_still messages m now (before ++ after) (packets ++ a_reply (an_effect effect) replied ∷ [])
        kept (Joint.serves (an_effect effect) before after j serves) lives near some few in
        let same = there.served (wire (an_effect effect)) replied now serves (plain_puts effect plain) in
        sents_so w now hand.asked (same.replies lives here.suspended) (so wrote)

aside_told : (w : World) (message : Message) → is_aside message ≡ true → Told w (Some message)
aside_told w message aside = λ question replied is.
    let same : message ≡ Message.answers (a_question question) replied = cc in
    let no : true ≡ false = sym aside ∙ ap is_aside same in absurd cc

said_so : {messages : List Message} {m next : Machine} {commands : List TargetCommand} {packets : List Packet}
    {kept : List Composite} {message : Message} (w : World) → Joint messages m w commands packets kept
    → Allows m message next → IsHeld next → count is_suspend (pending_of next) ≡ 0 → Told w (Some message)
    → Before w m → HandSo w next.hand
said_so {m = m} {next} {message = message} w j allows some few told ih =
    step_so w m next (Some message) (run_of j) (moved allows) (near_held (Run.moves (run_of j) allows) some) some few
    told ih

hands_so : {messages : List Message} {m : Machine} {w : World} {commands : List TargetCommand}
    {packets : List Packet} {kept : List Composite} → Joint messages m w commands packets kept → w.dead ≡ false
    → has_such sends_farewell messages ≡ false → Before w m
hands_so (Joint.starts sound alive free none) lives near = λ some few. tt
hands_so (Joint.goes {m = m} {w} j is) lives near = λ some few.
    step_so w m (due false m).next None (run_of j) (silent_move is) (near_held (Run.goes (run_of j) is) some) some few
    (λ question replied is. absurd cc) (hands_so j lives near)
hands_so (Joint.queues {m = m} {w} j may) lives near = λ some few.
    subst (λ (held : Option Hand). HandSo w held) may.held (hands_so j lives near
    (subst (λ (held : Option Hand). 0 < held_in m.state held) (sym may.held) some)
    (subst (λ (held : Option Hand). count is_suspend (m.late ++ pending_in held) ≡ 0) (sym may.held) few))
hands_so (Joint.says {messages} {m} {next} {w} {message = message} j allows aside) lives near = λ some few.
    said_so w j allows some few (aside_told w message aside) (hands_so j lives (not_left messages message near).0)
hands_so (Joint.sends {messages} {m} {next} {w} {command = command} j allows) lives near = λ some few.
    said_so w j allows some few (λ question replied is. absurd cc)
    (hands_so j lives (not_left messages (Message.sends command) near).0)
hands_so (Joint.gets {messages} {m} {next} {w} {command = command} {replied} j allows) lives near = λ some few.
    let before = (not_left messages (Message.answers command replied) near).0 in
    said_so w j allows some few (λ question other is.
    let same : command ≡ a_question question = cc in let alike : replied ≡ other = cc in
    replied_head w command replied (before_message j allows some few (replies_so j lives before)).0 question other same
    alike)
    (hands_so j lives before)
hands_so (Joint.takes {messages} {w = w} {composite = composite} {at} j allows) lives near = λ some few.
    said_so w j allows some few (λ question replied is. absurd cc)
    (hands_so j lives (not_left messages (Message.comes at composite) near).0)
hands_so (Joint.keeps {messages} {w = w} {at = at} {body} j is allows) lives near = λ some few.
    said_so w j allows some few (λ question replied is. absurd cc)
    (hands_so j lives (not_left messages (Message.keeps at body) near).0)
hands_so (Joint.reads {messages} {w = w} {composite = composite} {at} {body} j is allows) lives near = λ some few.
    said_so w j allows some few (λ question replied is. absurd cc)
    (hands_so j lives (not_left messages (Message.reads at body composite) near).0)
hands_so (Joint.loses {messages} {w = w} j allows) lives near = λ some few.
    said_so w j allows some few (λ question replied is. absurd cc)
    (hands_so j lives (not_left messages Message.ends near).0)
hands_so (Joint.serves (a_question question) before after j (Serves.replies is)) lives near = hands_so j lives near
hands_so (Joint.serves (an_effect effect) before after j serves) lives near = λ some few.
    effect_so effect before after j serves lives near some few
    (hands_so j (served_lives serves lives) near some few)
hands_so (Joint.runs {messages} {m} {w} {now} {commands} {packets} {kept} j runs) lives near = λ some few.
    absurd ((stands_still messages m w commands packets kept j runs.alive near some few).no_run now runs)
hands_so (Joint.emits {messages} {m} {w} {now} {commands} {packets} {kept} {composite} j emits) lives near = λ here few.
    let counted = emitted_count emits lives in
    let still = stands_still messages m w commands packets kept j counted.0 near here few in
    let held = still.suspended in
    let more = counted.1 in
    let some : 0 < now.count = omega arith in
    hand_so w now m.hand ((still.told composite now emits).replies lives some) (hands_so j counted.0 near here few)
hands_so (Joint.dies j) lives near = absurd cc

-- Look-ups ------------------------------------------------------------------------------------------------------------

sent_at : (w : World) (place : ℕ) (asked : List Sent) (question : Question) (replied : Replied)
    → AllByRecursion (IsSentSo w) asked → RepliedAt place asked question replied → Replies w question replied
sent_at w place [] question replied are h = absurd h
sent_at w zero (sent ∷ asked) question replied are h =
    subst (λ (q : Question). Replies w q replied) (is_one (question_of sent.want) question h.0)
    (subst (λ (reply : Option Replied). IsReplySo w (question_of sent.want) reply) h.1 are.0)
sent_at w (suc place) (sent ∷ asked) question replied are h = sent_at w place asked question replied are.1 h.1

pub shows_the_world : (messages : List Message) (m : Machine) (w : World) (commands : List TargetCommand)
    (packets : List Packet) (kept : List Composite) (hand : Hand) (lookup : Lookup)
    → Joint messages m w commands packets kept → w.dead ≡ false → has_such sends_farewell messages ≡ false
    → IsHeld m → count is_suspend (pending_of m) ≡ 0 → m.hand ≡ Some hand → wrote_nothing hand ≡ true
    → AreFactsOf w m.state
    → Agrees (found_for lookup m.state hand) (of_world (reply_of w) (plan lookup m.state))
shows_the_world messages m w commands packets kept hand lookup j lives near some few is wrote facts =
    let so = held_so w is (hands_so j lives near some few) wrote in
    (look_ups w m.state).agree hand lookup (record {
      replies = λ question replied at. sent_at w at.place hand.asked question replied so at.stands;
      facts = facts.facts;
    })
