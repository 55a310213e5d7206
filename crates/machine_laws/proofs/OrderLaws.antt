-- What the part in front lacks is asked in any order: each order, as far as there is room for it, is that of a run.
use Rattle.std.proofs.Common.{◌≡◌, ℕ, ◌+◌, ◌≤◌, Bool, true, false, List, [], ◌∷◌, ◌++◌, length, Option, Some, None}
use Rattle.std.proofs.Common.{refl, sym, ap, subst, ◌∙◌, append_assoc, append-nil, length-append, nat_le, option_map}
use Rattle.std.proofs.Common.{arith, suc}
use Rattle.std.proofs.lemmas.List.Concat.{flat_map-append}
use Rattle.std.specs.List.{flat_map}
use Rattle.machine_model.specs.Due.{Due, Load, asked_first, asked_hand, asked_next, asked_now, behind_first, can_read}
use Rattle.machine_model.specs.Due.{due, due_as, due_by, is_full, load_of, queued}
use Rattle.machine_model.specs.Plans.{question_of}
use Rattle.machine_model.specs.Questions.{IsRun, sends_all}
use Rattle.machine_model.specs.Replying.{pending_in, pending_of, unanswered}
use Rattle.machine_model.specs.Runs.{Allows, MayQueue, Message, Run, said, to_ask}
use Rattle.machine_model.specs.State.{Hand, Machine, is_flying, is_gone}
use Rattle.machine_steps.specs.Names.{Act, Sent, TargetCommand, Want, a_question}
use Rattle.machine_steps.proofs.QuietLaws.{load_in}
use Rattle.machine_steps.proofs.TurnLaws.{none_flies, same_hand}

-- this is to be asked for the item in hand, and there is room for it
record HasToAsk (m : Machine) (hand : Hand) (queue : List Want) : Type 0 where
  held : m.hand ≡ Some hand
  queue_is : hand.queue ≡ queue
  near : is_gone m.state.phase ≡ false
  unread : can_read m ≡ false
  still : is_flying hand.effect ≡ false
  room : length (pending_of m) + length queue ≤ 16

-- The first of it goes ------------------------------------------------------------------------------------------------

load_queued : (m : Machine) (hand : Hand) (want : Want) (wants : List Want) → HasToAsk m hand (want ∷ wants)
    → load_of m ≡ queued
load_queued m hand want wants h =
    sym (load_in m hand (load_of m) refl h.near h.held) ∙ rw (h.unread, h.still, h.queue_is) refl

not_full : (pending wants : ℕ) → pending + suc wants ≤ 16 → nat_le 16 pending ≡ false
not_full pending wants room = grind (arith, room)

due_asks : (m : Machine) (hand : Hand) (want : Want) (wants : List Want) → HasToAsk m hand (want ∷ wants)
    → due false m ≡ due_as (Act.Asks (question_of want)) (asked_now m want)
unfolding due
due_asks m hand want wants h =
    ap (λ (load : Load). due_by (is_full false m) load m) (load_queued m hand want wants h)
    ∙ ap (λ (held : Option Hand). asked_next (is_full false m) m held) h.held
    ∙ ap (λ (queue : List Want). asked_first (is_full false m) m queue) h.queue_is
    ∙ ap (λ (full : Bool). asked_first full m (want ∷ wants)) (not_full (length (pending_of m)) (length wants) h.room)

abbrev asks_for : Want → Message
asks_for want = Message.sends (a_question (question_of want))

goes_out : {messages : List Message} (m : Machine) (hand : Hand) (want : Want) (wants : List Want) → Run messages m
    → HasToAsk m hand (want ∷ wants) → Run (messages ++ asks_for want ∷ []) (asked_now m want)
goes_out {messages} m hand want wants r h =
    let is = due_asks m hand want wants h in
    subst (λ (to : Due). Run (messages ++ asks_for want ∷ []) to.next) is
    (Run.moves r (Allows.acts (ap (λ (to : Due). said to.act) is)))

-- one more is pending then
one_pending : (m : Machine) (hand : Hand) (want : Want) → m.hand ≡ Some hand → is_flying hand.effect ≡ false
    → length (pending_of (asked_now m want)) ≡ length (pending_of m) + 1
one_pending m hand want is still =
    let none = none_flies hand.effect still in
    let was : pending_of m ≡ m.late ++ flat_map unanswered hand.asked = sym (same_hand m hand is)
    ∙ ap (λ (more : List TargetCommand). m.late ++ (flat_map unanswered hand.asked ++ more)) none
    ∙ ap (λ (all : List TargetCommand). m.late ++ all) (append-nil (flat_map unanswered hand.asked)) in
    let now : pending_of (asked_now m want) ≡ m.late ++ (flat_map unanswered hand.asked ++ one) =
    ap (λ (held : Option Hand). m.late ++ pending_in (option_map (asked_hand want) held)) is
    ∙ ap (λ (more : List TargetCommand). m.late ++ (flat_map unanswered (hand.asked ++ new ∷ []) ++ more)) none
    ∙ ap (λ (all : List TargetCommand). m.late ++ all) (append-nil (flat_map unanswered (hand.asked ++ new ∷ []))
    ∙ flat_map-append unanswered hand.asked (new ∷ [])) in
    let few = ap length was in let more = ap length now in
    let late = length-append m.late (flat_map unanswered hand.asked) in
    let all = length-append m.late (flat_map unanswered hand.asked ++ one) in
    let last = length-append (flat_map unanswered hand.asked) one in omega (arith, few, more, late, all, last)
  where
    new : Sent
    new = record { want = want; reply = None }

    one : List TargetCommand
    one = a_question (question_of want) ∷ []

-- and the others are to be asked
others_to_ask : (m : Machine) (hand : Hand) (want : Want) (wants : List Want) → HasToAsk m hand (want ∷ wants)
    → HasToAsk (asked_now m want) (asked_hand want hand) wants
others_to_ask m hand want wants h = record {
  held = ap (λ (held : Option Hand). option_map (asked_hand want) held) h.held;
  queue_is = ap (λ (queue : List Want). behind_first queue) h.queue_is;
  near = h.near;
  unread = h.unread;
  still = h.still;
  room = let room = h.room in let more = one_pending m hand want h.held h.still in omega (arith, room, more);
}

-- The law -------------------------------------------------------------------------------------------------------------

asks_all : {messages : List Message} (m : Machine) (hand : Hand) (queue : List Want) → Run messages m
    → HasToAsk m hand queue → IsRun (messages ++ sends_all queue)
asks_all {messages} m hand [] r h =
    record { machine = m; run = subst (λ (all : List Message). Run all m) (sym (append-nil messages)) r }
asks_all {messages} m hand (want ∷ wants) r h =
    subst (λ (all : List Message). IsRun all) (append_assoc messages (asks_for want ∷ []) (sends_all wants))
    (asks_all (asked_now m want) (asked_hand want hand) wants (goes_out m hand want wants r h)
    (others_to_ask m hand want wants h))

pub any_order : (messages : List Message) (m : Machine) (hand : Hand) (queue : List Want) → Run messages m
    → MayQueue m hand queue → length (pending_of m) + length queue ≤ 16 → IsRun (messages ++ sends_all queue)
any_order messages m hand queue r may room =
    asks_all (to_ask m hand queue) (record hand { queue = queue }) queue (Run.queues r may) (record {
      held = refl;
      queue_is = refl;
      near = may.near;
      unread = may.unread;
      still = may.still;
      room = subst (λ (held : Option Hand). length (m.late ++ pending_in held) + length queue ≤ 16) may.held room;
    })
