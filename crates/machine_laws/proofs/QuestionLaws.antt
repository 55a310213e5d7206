-- Nothing is asked but what the part in front lacked: what stands in the queue was lacking when it was put there.
use Rattle.std.proofs.Common.{◌≡◌, Bool, true, false, cond, ◌||◌, List, [], ◌∷◌, ◌++◌, Option, Some, None, refl, sym}
use Rattle.std.proofs.Common.{ap, subst, ◌∙◌, append_assoc, append-nil, option_map}
use Rattle.std.specs.List.{AllByRecursion as All}
use Rattle.machine_model.specs.Due.{asked_hand, behind_first, is_listed, lacked_by, newly_lacked, with_want, with_wants}
use Rattle.machine_model.specs.Plans.{question_of}
use Rattle.machine_model.specs.Questions.{AreLacked, IsLacked, is_question}
use Rattle.machine_model.specs.Replying.{given_up, hand_replied, is_failed, is_waiting, unless_failed}
use Rattle.machine_model.specs.Runs.{MayQueue, Message, Run}
use Rattle.machine_model.specs.State.{Hand, Machine, is_gone}
use Rattle.machine_steps.specs.Names.{Replied, Sent, TargetCommand, Want, a_question, an_effect}
use Rattle.machine_steps.proofs.RestLaws.{near_queue}
use Rattle.machine_steps.proofs.Stepping.{Loses, Moves, all_to_ask, by_runs, with_said}
use Rattle.machine_steps.proofs.Standing.{queue_in}

all_last : (P : Want → Type 0) (queue : List Want) (want : Want) → All P queue → P want → All P (queue ++ want ∷ [])
all_last P [] want h p = (p, tt)
all_last P (first ∷ queue) want h p = (h.0, all_last P queue want h.1 p)

pub all_with : (P : Want → Type 0) (asked : List Sent) (queue more : List Want) → All P queue → All P more
    → All P (with_wants asked queue more)
all_with P asked queue [] h k = h
all_with P asked queue (want ∷ more) h k =
    all_with P asked (with_want asked queue want) more
    (by_test (is_waiting (question_of want) asked || is_listed (question_of want) queue)) k.1
  where
    by_test : (there : Bool) → All P (cond there queue (queue ++ want ∷ []))
    by_test true = h
    by_test false = all_last P queue want h k.0

all_more : (P Q : Want → Type 0) (wants : List Want) → ((want : Want) → P want → Q want) → All P wants → All Q wants
all_more P Q [] weak h = tt
all_more P Q (want ∷ wants) weak h = (weak want h.0, all_more P Q wants weak h.1)

-- what stands in a list has the property, where each that stands there has
all_of : (P : Want → Type 0) (all done wants : List Want) → all ≡ done ++ wants
    → ((before after : List Want) (want : Want) → all ≡ before ++ want ∷ after → P want) → All P wants
all_of P all done [] is each = tt
all_of P all done (want ∷ wants) is each = (
  each done wants want is,
  all_of P all (done ++ want ∷ []) wants (is ∙ sym (append_assoc done (want ∷ []) wants)) each,
)

-- The invariant -------------------------------------------------------------------------------------------------------

record Asks (messages : List Message) (m : Machine) : Type 0 where
  sent : AreLacked messages
  queue : All (IsLacked messages) (queue_in m.hand)

lacked_more : {messages : List Message} {want : Want} (more : List Message) → IsLacked messages want
    → IsLacked (messages ++ more) want
lacked_more more l = record {
  earlier = l.earlier;
  later = l.later ++ more;
  there = l.there;
  hand = l.hand;
  before = l.before;
  after = l.after;
  messages_are = ap (λ (all : List Message). all ++ more) l.messages_are ∙ append_assoc l.earlier l.later more;
  run = l.run;
  is_held = l.is_held;
  near = l.near;
  lacked = l.lacked;
}

queue_more : (messages more : List Message) (queue : List Want) → All (IsLacked messages) queue
    → All (IsLacked (messages ++ more)) queue
queue_more messages more queue h =
    all_more (IsLacked messages) (IsLacked (messages ++ more)) queue (λ want l. lacked_more more l) h

-- the queue stays, or is dropped
same_queue : (messages : List Message) {left : List Want} (queue : List Want) → queue ≡ left
    → All (IsLacked messages) queue → All (IsLacked messages) left
same_queue messages queue is h = subst (λ (queue : List Want). All (IsLacked messages) queue) is h

held_queue : {held : Option Hand} {hand : Hand} → held ≡ Some hand → queue_in held ≡ hand.queue
held_queue is = ap queue_in is

pub replied_queue : (P : Want → Type 0) (command : TargetCommand) (replied : Replied) (held : Option Hand)
    → All P (queue_in held) → All P (queue_in (option_map (hand_replied command replied) held))
replied_queue P command replied None h = h
replied_queue P (a_question question) replied (Some hand) h = by_test (is_failed question replied hand.asked)
  where
    by_test : (failed : Bool) → All P (unless_failed failed hand.queue)
    by_test true = tt
    by_test false = h
replied_queue P (an_effect effect) replied (Some hand) h = h

pub given_queue : (P : Want → Type 0) (held : Option Hand) → All P (queue_in (option_map given_up held))
given_queue P None = tt
given_queue P (Some hand) = tt

-- what the part in front lacks here
lacked_now : {messages : List Message} (m : Machine) (hand : Hand) → Run messages m → m.hand ≡ Some hand
    → is_gone m.state.phase ≡ false → All (IsLacked messages) (lacked_by m.state hand hand.parts)
lacked_now {messages} m hand r is near =
    all_of (IsLacked messages) (lacked_by m.state hand hand.parts) [] (lacked_by m.state hand hand.parts) refl
    (λ before after want lacked. record {
      earlier = messages;
      later = [];
      there = m;
      hand = hand;
      before = before;
      after = after;
      messages_are = sym (append-nil messages);
      run = r;
      is_held = is;
      near = near;
      lacked = lacked;
    })

queued_all : {messages : List Message} (m : Machine) (hand : Hand) → Run messages m → m.hand ≡ Some hand
    → is_gone m.state.phase ≡ false → All (IsLacked messages) (newly_lacked m.state hand)
unfolding newly_lacked
queued_all {messages} m hand r is near =
    all_with (IsLacked messages) hand.asked [] (lacked_by m.state hand hand.parts) tt (lacked_now m hand r is near)

-- what is put anew is lacking now
anew_all : {messages : List Message} (m : Machine) (hand : Hand) {queue : List Want} → Run messages m
    → MayQueue m hand queue → All (IsLacked messages) queue
anew_all {messages} m hand r may = all_to_ask (IsLacked messages) may (lacked_now m hand r may.held may.near)

loss_aside : {m : Machine} {message : Message} {late : List TargetCommand} → Loses m message late
    → is_question message ≡ false
loss_aside Loses.by_end = refl
loss_aside _ = refl

aside_asks : {messages : List Message} {m : Machine} (next : Machine) (message : Message) → is_question message ≡ false
    → Asks messages m → All (IsLacked messages) (queue_in next.hand) → Asks (messages ++ message ∷ []) next
aside_asks {messages} next message is h queue = record {
  sent = AreLacked.aside message is h.sent;
  queue = queue_more messages (message ∷ []) (queue_in next.hand) queue;
}

asks_on : (messages : List Message) (m next : Machine) (said : Option Message) → Run messages m → Asks messages m
    → Moves m said next → Asks (with_said messages said) next
asks_on messages m next said r h (Moves.begins picked free none is) = record { sent = h.sent; queue = tt }
asks_on messages m next said r h (Moves.drops free is none) = record { sent = h.sent; queue = tt }
asks_on messages m next said r h (Moves.responds free at is) =
    aside_asks next _ refl h (same_queue messages (queue_in m.hand) (held_queue at.in_hand) h.queue)
asks_on messages m next said r h (Moves.finds found free at needs done) =
    record { sent = h.sent; queue = same_queue messages (queue_in m.hand) (held_queue at.in_hand) h.queue }
asks_on messages m next said r h (Moves.passes_over free at why) =
    record { sent = h.sent; queue = same_queue messages (queue_in m.hand) (held_queue at.in_hand) h.queue }
asks_on messages m next said r h (Moves.tells free at) =
    aside_asks next _ refl h (same_queue messages (queue_in m.hand) (held_queue at.in_hand) h.queue)
asks_on messages m next said r h (Moves.sends free at near) =
    aside_asks next _ refl h (same_queue messages (queue_in m.hand) (held_queue at.in_hand) h.queue)
asks_on messages m next said r h (Moves.updates free at is near) =
    aside_asks next _ refl h (same_queue messages (queue_in m.hand) (held_queue at.in_hand) h.queue)
asks_on messages m next said r h (Moves.notes free at) =
    record { sent = h.sent; queue = same_queue messages (queue_in m.hand) (held_queue at.in_hand) h.queue }
asks_on messages m next said r h (Moves.unfolds free at) =
    record { sent = h.sent; queue = same_queue messages (queue_in m.hand) (held_queue at.in_hand) h.queue }
asks_on messages m next said r h (Moves.queues {hand} free is) =
    record { sent = h.sent; queue = queued_all m hand r is (near_queue m free) }
asks_on messages m next said r h (Moves.asks {hand} {want} {wants = others} free room is are) =
    let all : All (IsLacked messages) (want ∷ others) =
    same_queue messages (queue_in m.hand) (held_queue is ∙ are) h.queue in
    record {
      sent = AreLacked.asks want all.0 h.sent;
      queue = subst (λ (held : Option Hand).
          All (IsLacked (messages ++ Message.sends (a_question (question_of want)) ∷ []))
          (queue_in (option_map (asked_hand want) held))) (sym is)
          (subst (λ (queue : List Want). All (IsLacked (messages ++ Message.sends (a_question (question_of want)) ∷ []))
          (behind_first queue)) (sym are)
          (queue_more messages (Message.sends (a_question (question_of want)) ∷ []) others all.1));
    }
asks_on messages m next said r h (Moves.answers {question} {replied} is waits reply stays) =
    aside_asks next _ refl h (replied_queue (IsLacked messages) (a_question question) replied m.hand h.queue)
asks_on messages m next said r h (Moves.replies {effect} {replied} is flying reply stays) =
    aside_asks next _ refl h (replied_queue (IsLacked messages) (an_effect effect) replied m.hand h.queue)
asks_on messages m next said r h (Moves.loses {message} late near why) =
    aside_asks next message (loss_aside why) h (given_queue (IsLacked messages) m.hand)
asks_on messages m next said r h _ = aside_asks next _ refl h h.queue

pub are_lacked : (messages : List Message) (m : Machine) → Run messages m → AreLacked messages
are_lacked messages m r = (by_runs {Holds = Asks} (record {
  starts = record { sent = AreLacked.none; queue = tt };
  moves = λ messages m next said before h moved after. asks_on messages m next said before h moved;
  queues = λ messages m hand queue before may h. record { sent = h.sent; queue = anew_all m hand before may };
}) r).sent
