-- What is sent has been lacking: what stands in the queue was lacking when it was put there, and nothing has failed
-- since.
use Rattle.std.proofs.Common.{◌≡◌, ◌||◌, Bool, true, false, cond, List, [], ◌∷◌, ◌++◌, Option, Some, None, refl, sym}
use Rattle.std.proofs.Common.{ap, subst, ◌∙◌, append_assoc, append-nil, not, option_map, arith}
use Rattle.std.specs.List.{AllByRecursion as All}
use Rattle.class_tables.specs.Facts.{Known}
use Rattle.class_tables.specs.Lookups.{found_in}
use Rattle.machine_model.specs.Apart.{are_apart, was_asked}
use Rattle.machine_model.specs.Due.{asked_hand, behind_first, busy, can_read, clear, hand_load, is_listed, lacked_by}
use Rattle.machine_model.specs.Due.{lacking_more, load_of, newly_lacked, queued, waiting, with_want, with_wants}
use Rattle.machine_model.specs.Facts.{fact_known}
use Rattle.machine_model.specs.Lookups.{sight_of}
use Rattle.machine_model.specs.Plans.{answer_in, question_of}
use Rattle.machine_model.specs.Replying.{filled, hand_replied, is_failed, is_waiting, learnt, replied_to, told_by}
use Rattle.machine_model.specs.Replying.{unless_failed}
use Rattle.machine_model.specs.Runs.{Allows, MayQueue, Message, Run}
use Rattle.machine_model.specs.State.{Hand, Machine, State, has_waiting, is_empty, is_flying, is_gone}
use Rattle.machine_model.specs.Telling.{after_event}
use Rattle.machine_model.proofs.Bools.{first_holds}
use Rattle.machine_steps.specs.Names.{Effect, Event, Question, Replied, Sent, Want, a_question, an_effect}
use Rattle.machine_steps.proofs.KeptLaws.{always_kept, next_new}
use Rattle.machine_steps.proofs.RestLaws.{is_free, near_asks}
use Rattle.machine_steps.proofs.Stepping.{IsAt, Loses, Moves, all_to_ask, by_runs, moved, with_said}
use Rattle.machine_steps.proofs.Testing.{same_noted, same_numbered, same_replied}
use Rattle.std.proofs.lemmas.Bool.{not-true}
use Rattle.lacking_laws.specs.Lacking.{HearsOn}
use Rattle.lacking_laws.proofs.Hearing.{leads_on}
use Rattle.asking_laws.specs.Asking.{AsksWhatLacks, IsAskedFor, IsLackingSince, is_general, refused_of, tell_little}
use Rattle.asking_laws.specs.Asking.{tells_much}
use Rattle.asking_laws.proofs.Hearing.{hears_itself, hears_reply, hears_then, other_known}
use Rattle.asking_laws.proofs.Lacking.{Same, lacking_now}
use Rattle.asking_laws.proofs.Learning.{learnt_loaded, told_plain}
use Rattle.asking_laws.proofs.Once.{all_new, are_once, once_asked, once_filled, waits_was}
use Rattle.asking_laws.proofs.Refusals.{refused_filled, refused_last}

-- Lists ---------------------------------------------------------------------------------------------------------------

all_last : (P : Want → Type 0) (queue : List Want) (want : Want) → All P queue → P want → All P (queue ++ want ∷ [])
all_last P [] want h p = (p, tt)
all_last P (first ∷ queue) want h p = (h.0, all_last P queue want h.1 p)

all_with : (P : Want → Type 0) (asked : List Sent) (queue more : List Want) → All P queue → All P more
    → All P (with_wants asked queue more)
all_with P asked queue [] h k = h
all_with P asked queue (want ∷ more) h k =
    all_with P asked (with_want asked queue want) more
    (by_test (is_waiting (question_of want) asked || is_listed (question_of want) queue)) k.1
  where
    by_test : (there : Bool) → All P (cond there queue (queue ++ want ∷ []))
    by_test true = h
    by_test false = all_last P queue want h k.0

all_more : (P Q : Want → Type 0) (wants : List Want) → ((want : Want) → P want → Q want) → All P wants → All Q wants
all_more P Q [] weak h = tt
all_more P Q (want ∷ wants) weak h = (weak want h.0, all_more P Q wants weak h.1)

-- what stands in a list has the property, where each that stands there has
all_of : (P : Want → Type 0) (all done wants : List Want) → all ≡ done ++ wants
    → ((before after : List Want) (want : Want) → all ≡ before ++ want ∷ after → P want) → All P wants
all_of P all done [] is each = tt
all_of P all done (want ∷ wants) is each = (
  each done wants want is,
  all_of P all (done ++ want ∷ []) wants (is ∙ sym (append_assoc done (want ∷ []) wants)) each,
)

all_none : (P : Want → Type 0) (queue : List Want) → is_empty queue ≡ true → All P queue
all_none P [] none = tt
all_none P (want ∷ queue) none = cc

-- Messages ------------------------------------------------------------------------------------------------------------

-- of those before the last none tells much, and nor does the last
little_each : (later : List Message) (message : Message) → tell_little (later ++ message ∷ []) ≡ true
    → (tell_little later ≡ true) × (tells_much message ≡ false)
little_each [] message is = (refl, last (tells_much message) is)
  where
    last : (much : Bool) → cond much false true ≡ true → much ≡ false
    last much is = grind (arith, is)
little_each (first ∷ later) message is = by_test (tells_much first) is (little_each later message)
  where
    by_test : (much : Bool) → cond much false (tell_little (later ++ message ∷ [])) ≡ true
        → (tell_little (later ++ message ∷ []) ≡ true → (tell_little later ≡ true) × (tells_much message ≡ false))
        → (cond much false (tell_little later) ≡ true) × (tells_much message ≡ false)
    by_test true is rest = cc
    by_test false is rest = rest is

-- The invariant -------------------------------------------------------------------------------------------------------

-- it has been lacking, and what else look-ups depend on is the same since, where no message tells much
record Since (messages : List Message) (state : State) (hand : Hand) (want : Want) : Type 0 where
  since : IsLackingSince messages hand want
  same : tell_little since.later ≡ true → Same since.there.state since.hand_then state hand want

-- of an item in hand: what is to be asked has been lacking, nothing is while an effect is in flight, and each question
-- was sent once
record Holds (messages : List Message) (state : State) (hand : Hand) : Type 0 where
  queue : All (Since messages state hand) hand.queue
  lands : is_flying hand.effect ≡ true → is_empty hand.queue ≡ true
  once : are_once hand.asked ≡ true

abbrev Held : List Message → State → Option Hand → Type 0
Held messages state None = Unit {0}
Held messages state (Some hand) = Holds messages state hand

abbrev Queues : List Message → Machine → Type 0
Queues messages m = is_gone m.state.phase ≡ false → Held messages m.state m.hand

taken : {messages : List Message} {state : State} {held : Option Hand} {hand : Hand} → held ≡ Some hand
    → Held messages state held → Holds messages state hand
taken {messages} {state} is h = subst (λ (held : Option Hand). Held messages state held) is h

put : {messages : List Message} {state : State} {held : Option Hand} {hand : Hand} → held ≡ Some hand
    → Holds messages state hand → Held messages state held
put {messages} {state} is h = subst (λ (held : Option Hand). Held messages state held) (sym is) h

-- a message is said, and of the item in hand the same parts are left, with as much refused
since_on : (messages : List Message) (message : Message) (state next : State) (hand now : Hand) (want : Want)
    → now.parts ≡ hand.parts → refused_of now.asked ≡ refused_of hand.asked
    → (tells_much message ≡ false → (there : State) (was : Hand) → Same there was state hand want
    → Same there was next now want)
    → Since messages state hand want → Since (messages ++ message ∷ []) next now want
since_on messages message state next hand now want parts refused still s = let l = s.since in record {
  since = record {
    earlier = l.earlier;
    later = l.later ++ message ∷ [];
    there = l.there;
    hand_then = l.hand_then;
    before = l.before;
    after = l.after;
    messages_are = ap (λ (all : List Message). all ++ message ∷ []) l.messages_are
        ∙ append_assoc l.earlier l.later (message ∷ []);
    run = l.run;
    is_held = l.is_held;
    near = l.near;
    lacked = l.lacked;
    same_parts = parts ∙ l.same_parts;
    none_refused = refused ∙ l.none_refused;
  };
  same = λ little. let each = little_each l.later message little in
      still each.1 l.there.state l.hand_then (s.same each.0);
}

-- the same, of all that is to be asked; of each it may be used that it wasn't sent
all_since : (messages : List Message) (message : Message) (state next : State) (hand now : Hand) (queue : List Want)
    → now.parts ≡ hand.parts → refused_of now.asked ≡ refused_of hand.asked
    → ((want : Want) → was_asked (question_of want) hand.asked ≡ false → tells_much message ≡ false
    → (there : State) (was : Hand) → Same there was state hand want → Same there was next now want)
    → All (λ want. was_asked (question_of want) hand.asked ≡ false) queue → All (Since messages state hand) queue
    → All (Since (messages ++ message ∷ []) next now) queue
all_since messages message state next hand now [] parts refused still new h = tt
all_since messages message state next hand now (want ∷ queue) parts refused still new h = (
  since_on messages message state next hand now want parts refused (still want new.0) h.0,
  all_since messages message state next hand now queue parts refused still new.1 h.1,
)

new_of : {messages : List Message} {m : Machine} {hand : Hand} → Run messages m → m.hand ≡ Some hand
    → All (λ want. was_asked (question_of want) hand.asked ≡ false) hand.queue
new_of {hand = hand} r is =
    let kept = rw is at (always_kept r) in
    all_new hand.asked hand.queue (first_holds (are_apart hand.asked hand.queue) _ kept)

-- the item in hand stays as it is, and so does what is known
same_item : (messages : List Message) (message : Message) (state : State) (held : Option Hand)
    → Held messages state held → Held (messages ++ message ∷ []) state held
same_item messages message state None h = tt
same_item messages message state (Some hand) h = record {
  queue = all_on hand.queue h.queue;
  lands = h.lands;
  once = h.once;
}
  where
    all_on : (queue : List Want) → All (Since messages state hand) queue
        → All (Since (messages ++ message ∷ []) state hand) queue
    all_on [] h = tt
    all_on (want ∷ queue) h = (
      since_on messages message state state hand hand want refl refl (λ little there was same. same) h.0,
      all_on queue h.1,
    )

-- the target's handshake comes
greeted_item : (messages : List Message) (state : State) (held : Option Hand) → Held messages state held
    → Held (messages ++ Message.greeted ∷ []) (record state { greeting_heard = true }) held
greeted_item messages state None h = tt
greeted_item messages state (Some hand) h = record {
  queue = all_on hand.queue h.queue;
  lands = h.lands;
  once = h.once;
}
  where
    next : State
    next = record state { greeting_heard = true }

    greeted_same : {there : State} {was : Hand} {want : Want} → Same there was state hand want
        → Same there was next hand want
    greeted_same same = record {
      state_is = ap (λ (s : State). record s { greeting_heard = true }) same.state_is;
      loaded = same.loaded;
      on = same.on;
      unlearnt = same.unlearnt;
    }

    all_on : (queue : List Want) → All (Since messages state hand) queue
        → All (Since (messages ++ Message.greeted ∷ []) next hand) queue
    all_on [] h = tt
    all_on (want ∷ queue) h = (
      since_on messages Message.greeted state next hand hand want refl refl
          (λ little there was same. greeted_same same) h.0,
      all_on queue h.1,
    )

-- where nothing hinders what is wanted nothing is to be asked
none_queued : (messages : List Message) (m : Machine) (hand : Hand) (next : State) (now : Hand) → load_of m ≡ clear
    → m.hand ≡ Some hand → is_gone m.state.phase ≡ false → now.queue ≡ hand.queue → now.asked ≡ hand.asked
    → are_once hand.asked ≡ true → Holds messages next now
none_queued messages m hand next now free is near queue asked once =
    let none : is_empty now.queue ≡ true = ap is_empty queue ∙ (is_free m hand free near is).no_queue in record {
      queue = all_none (Since messages next now) now.queue none;
      lands = λ flies. none;
      once = ap are_once asked ∙ once;
    }

-- what the part in front lacks here
lacked_now : {messages : List Message} (m : Machine) (hand now : Hand) → Run messages m → m.hand ≡ Some hand
    → is_gone m.state.phase ≡ false → now.parts ≡ hand.parts → now.asked ≡ hand.asked
    → All (Since messages m.state now) (lacked_by m.state hand hand.parts)
lacked_now {messages} m hand now r is near parts asked =
    all_of (Since messages m.state now) (lacked_by m.state hand hand.parts) [] (lacked_by m.state hand hand.parts) refl
    (λ before after want lacked. record {
      since = record {
        earlier = messages;
        later = [];
        there = m;
        hand_then = hand;
        before = before;
        after = after;
        messages_are = sym (append-nil messages);
        run = r;
        is_held = is;
        near = near;
        lacked = lacked;
        same_parts = parts;
        none_refused = ap refused_of asked;
      };
      same = λ little. record {
        state_is = refl;
        loaded = refl;
        on = subst (λ (asked : List Sent). HearsOn (sight_of m.state hand)
            (record { classes = found_in m.state.classes; asked = asked })) (sym asked)
            (hears_itself (sight_of m.state hand));
        unlearnt = refl;
      };
    })

-- no effect is in flight where more is lacking
still_lacks : (m : Machine) (hand : Hand) → load_of m ≡ lacking_more → m.hand ≡ Some hand
    → is_flying hand.effect ≡ false
unfolding load_of
still_lacks m hand is held = by_tests (is_gone m.state.phase) (can_read m) (is_flying hand.effect)
    (subst (λ (hand : Option Hand). cond (is_gone m.state.phase) clear (cond (can_read m) busy (hand_load m.state hand))
    ≡ lacking_more) held is)
  where
    by_tests : (gone read flies : Bool) → cond gone clear (cond read busy (cond flies busy
        (cond (not (is_empty hand.queue)) queued
        (cond (not (is_empty (newly_lacked m.state hand))) lacking_more (cond
        (has_waiting hand.asked) waiting clear)))))
        ≡ lacking_more → flies ≡ false
    by_tests false false false is = refl
    by_tests _ _ _ is = cc

not_flying : (hand : Hand) (queue : List Want) → is_flying hand.effect ≡ false → is_flying hand.effect ≡ true
    → is_empty queue ≡ true
not_flying hand queue still flies = let no : false ≡ true = sym still ∙ flies in cc

queued_all : {messages : List Message} (m : Machine) (hand : Hand) → Run messages m → m.hand ≡ Some hand
    → is_gone m.state.phase ≡ false → is_flying hand.effect ≡ false → are_once hand.asked ≡ true
    → Holds messages m.state (record hand { queue = newly_lacked m.state hand })
unfolding newly_lacked
queued_all {messages} m hand r is near still once =
    let now : Hand = record hand { queue = newly_lacked m.state hand } in record {
      queue = all_with (Since messages m.state now) hand.asked [] (lacked_by m.state hand hand.parts) tt
          (lacked_now m hand now r is near refl refl);
      lands = not_flying hand (newly_lacked m.state hand) still;
      once = once;
    }

-- what is put anew is lacking now
anew_all : {messages : List Message} (m : Machine) (hand : Hand) (queue : List Want) → Run messages m
    → MayQueue m hand queue → are_once hand.asked ≡ true → Holds messages m.state (record hand { queue = queue })
anew_all {messages} m hand queue r may once =
    let now : Hand = record hand { queue = queue } in record {
      queue = all_to_ask (Since messages m.state now) may (lacked_now m hand now r may.held may.near refl refl);
      lands = not_flying hand queue may.still;
      once = once;
    }

-- a question goes
asked_all : (messages : List Message) (message : Message) (state : State) (hand : Hand) (want : Want)
    (wants : List Want) → hand.queue ≡ want ∷ wants → was_asked (question_of want) hand.asked ≡ false
    → is_flying hand.effect ≡ false → Holds messages state hand
    → Holds (messages ++ message ∷ []) state (asked_hand want hand)
asked_all messages message state hand want wants are new still h = record {
  queue = subst (λ (queue : List Want). All (Since (messages ++ message ∷ []) state (asked_hand want hand))
      (behind_first queue)) (sym are)
      (all_on wants (subst (λ (queue : List Want). All (Since messages state hand) queue) are h.queue).1);
  lands = not_flying hand (behind_first hand.queue) still;
  once = once_asked want hand.asked new h.once;
}
  where
    asks_same : {there : State} {was : Hand} {other : Want} → Same there was state hand other
        → Same there was state (asked_hand want hand) other
    asks_same same = record {
      state_is = same.state_is;
      loaded = same.loaded;
      on = hears_then same.on ((leads_on state hand).asks want);
      unlearnt = same.unlearnt;
    }

    all_on : (queue : List Want) → All (Since messages state hand) queue
        → All (Since (messages ++ message ∷ []) state (asked_hand want hand)) queue
    all_on [] h = tt
    all_on (other ∷ queue) h = (
      since_on messages message state state hand (asked_hand want hand) other refl (refused_last hand.asked want)
          (λ little there was same. asks_same same) h.0,
      all_on queue h.1,
    )

-- a reply comes to a question
answered_all : (messages : List Message) (question : Question) (replied : Replied) (state : State) (hand : Hand)
    → is_waiting question hand.asked ≡ true → All (λ want. was_asked (question_of want) hand.asked ≡ false) hand.queue
    → Holds messages state hand
    → Holds (messages ++ Message.answers (a_question question) replied ∷ []) (told_by question replied state)
    (hand_replied (a_question question) replied hand)
answered_all messages question replied state hand waits new h = record {
  queue = by_test (is_failed question replied hand.asked) refl;
  lands = λ flies. lands_still (is_failed question replied hand.asked) (h.lands flies);
  once = once_filled question replied hand.asked ∙ h.once;
}
  where
    message : Message
    message = Message.answers (a_question question) replied

    now : Bool → Hand
    now failed = record hand {
      asked = filled question replied hand.asked;
      queue = unless_failed failed hand.queue;
    }

    lands_still : (failed : Bool) → is_empty hand.queue ≡ true → is_empty (unless_failed failed hand.queue) ≡ true
    lands_still true none = refl
    lands_still false none = none

    plain_same : (failed : Bool) (want : Want) → was_asked (question_of want) hand.asked ≡ false
        → is_general question ≡ false → (there : State) (was : Hand) → Same there was state hand want
        → Same there was (record state { classes = learnt question (answer_in replied) state.classes }) (now failed)
        want
    plain_same failed want new plain there was same = record {
      state_is = ap (λ (s : State). record s { classes = learnt question (answer_in replied) state.classes })
          same.state_is;
      loaded = learnt_loaded question (answer_in replied) state.classes plain ∙ same.loaded;
      on = hears_then same.on (hears_reply state hand question replied plain h.once waits);
      unlearnt = other_known state hand question replied plain h.once waits (question_of want)
          (λ is. let no : true ≡ false = sym (waits_was question hand.asked waits)
          ∙ subst (λ (q : Question). was_asked q hand.asked ≡ false) is new in cc) ∙ same.unlearnt;
    }

    told_same : (failed : Bool) (want : Want) → was_asked (question_of want) hand.asked ≡ false
        → tells_much message ≡ false → (there : State) (was : Hand) → Same there was state hand want
        → Same there was (told_by question replied state) (now failed) want
    told_same failed want new plain there was same =
        subst (λ (next : State). Same there was next (now failed) want) (sym (told_plain question replied state plain))
        (plain_same failed want new plain there was same)

    by_test : (failed : Bool) → is_failed question replied hand.asked ≡ failed
        → All (Since (messages ++ message ∷ []) (told_by question replied state) (now failed))
        (unless_failed failed hand.queue)
    by_test true is = tt
    by_test false is = all_since messages message state (told_by question replied state) hand (now false) hand.queue
        refl (refused_filled question replied hand.asked is) (told_same false) new h.queue

-- a reply comes to an effect: nothing was to be asked
effect_all : (messages : List Message) (effect : Effect) (replied : Replied) (state : State) (hand : Hand)
    → hand.effect ≡ Some (record { effect = effect; reply = None }) → Holds messages state hand
    → Holds (messages ++ Message.answers (an_effect effect) replied ∷ []) (replied_to (an_effect effect) replied state)
    (hand_replied (an_effect effect) replied hand)
effect_all messages effect replied state hand flying h =
    let none : is_empty hand.queue ≡ true = h.lands (ap is_flying flying) in record {
      queue = all_none _ hand.queue none;
      lands = λ flies. none;
      once = h.once;
    }

-- Moves ---------------------------------------------------------------------------------------------------------------

near_event : (event : Event) (state : State) → is_gone (after_event event state).phase ≡ false
    → is_gone state.phase ≡ false
near_event event state near = grind (arith, near)

-- the queue is empty, and what was sent stays
freed : (messages more : List Message) (m : Machine) (hand : Hand) (next : State) (now : Hand)
    → Queues messages m → load_of m ≡ clear → m.hand ≡ Some hand → is_gone m.state.phase ≡ false
    → now.queue ≡ hand.queue → now.asked ≡ hand.asked → Holds more next now
freed messages more m hand next now h free is near queue asked =
    none_queued more m hand next now free is near queue asked (taken is (h near)).once

queues_on : (messages : List Message) (m next : Machine) (said : Option Message) → Run messages m → Queues messages m
    → Moves m said next → Queues (with_said messages said) next
queues_on messages m next said r h (Moves.begins picked free none is) near =
    record { queue = tt; lands = λ flies. refl; once = refl }
queues_on messages m next said r h (Moves.drops free is none) near = tt
queues_on messages m next said r h (Moves.responds {hand} {outcome = outcome} free at is) near =
    freed messages _ m hand _ _ h free at.in_hand (sym (ap is_gone (same_numbered outcome m.state)) ∙ near) refl refl
queues_on messages m next said r h (Moves.finds {hand} found free at needs done) near =
    freed messages _ m hand _ _ h free at.in_hand near refl refl
queues_on messages m next said r h (Moves.passes_over {hand} free at why) near =
    freed messages _ m hand _ _ h free at.in_hand near refl refl
queues_on messages m next said r h (Moves.tells {hand} {event = event} free at) near =
    freed messages _ m hand _ _ h free at.in_hand (near_event event m.state near) refl refl
queues_on messages m next said r h (Moves.sends {hand} free at there) near =
    freed messages _ m hand _ _ h free at.in_hand there refl refl
queues_on messages m next said r h (Moves.updates {hand} free at is there) near =
    freed messages _ m hand _ _ h free at.in_hand there refl refl
queues_on messages m next said r h (Moves.greets {hand} free at is there) near =
    put at.in_hand (freed messages _ m hand _ hand h free at.in_hand there refl refl)
queues_on messages m next said r h (Moves.notes {hand} {note = note} free at) near =
    freed messages _ m hand _ _ h free at.in_hand (sym (ap is_gone (same_noted note m.state)) ∙ near) refl refl
queues_on messages m next said r h (Moves.unfolds {hand} free at) near =
    freed messages _ m hand _ _ h free at.in_hand near refl refl
queues_on messages m next said r h (Moves.queues {hand} free is) near =
    queued_all m hand r is near (still_lacks m hand free is) (taken is (h near)).once
queues_on messages m next said r h (Moves.asks {hand} {want} {wants} free room is are) near =
    let message : Message = Message.sends (a_question (question_of want)) in
    subst (λ (held : Option Hand). Held (messages ++ message ∷ []) m.state (option_map (asked_hand want) held)) (sym is)
    (asked_all messages message m.state hand want wants are
    (not-true (was_asked (question_of want) hand.asked) (next_new m hand want wants (always_kept r) is are))
    (near_asks m hand free is).1 (taken is (h near)))
queues_on messages m next said r h (Moves.greeted read is) near = greeted_item messages m.state m.hand (h near)
queues_on messages m next said r h (Moves.answers {question} {replied} {hand} is waits reply stays) near =
    subst (λ (held : Option Hand). Held (messages ++ Message.answers (a_question question) replied ∷ [])
    (told_by question replied m.state) (option_map (hand_replied (a_question question) replied) held)) (sym is)
    (answered_all messages question replied m.state hand waits (new_of r is)
    (taken is (h (sym (ap is_gone (same_replied (a_question question) replied m.state)) ∙ near))))
queues_on messages m next said r h (Moves.replies {effect} {replied} {hand} is flying reply stays) near =
    subst (λ (held : Option Hand). Held (messages ++ Message.answers (an_effect effect) replied ∷ [])
    (replied_to (an_effect effect) replied m.state) (option_map (hand_replied (an_effect effect) replied) held))
    (sym is) (effect_all messages effect replied m.state hand flying (taken is (h near)))
queues_on messages m next said r h (Moves.loses late there why) near = let no : true ≡ false = near in cc
queues_on messages m next said r h _ near = same_item messages _ m.state m.hand (h near)

queues : {messages : List Message} {m : Machine} → Run messages m → Queues messages m
queues r = by_runs {Holds = Queues} (record {
  starts = λ near. tt;
  moves = λ messages m next said before h moved after. queues_on messages m next said before h moved;
  queues = λ messages m hand queue before may h near. anew_all m hand queue before may (h near).once;
}) r

-- The law -------------------------------------------------------------------------------------------------------------

asks_on : {messages : List Message} {m next : Machine} {question : Question} → Run messages m
    → Moves m (Some (Message.sends (a_question question))) next → IsAskedFor messages m question
asks_on {messages} {m} r (Moves.asks {hand} {want} {wants} free room is are) =
    let s : Since messages m.state hand want =
    (subst (λ (queue : List Want). All (Since messages m.state hand) queue) are
    (taken is (queues r (near_asks m hand free is).0)).queue).0 in
    let new : was_asked (question_of want) hand.asked ≡ false =
    not-true (was_asked (question_of want) hand.asked) (next_new m hand want wants (always_kept r) is are) in record {
      hand = hand;
      want = want;
      is_held = is;
      asks = refl;
      is_new = new;
      since = s.since;
      now = λ little. lacking_now m.state s.since.there.state hand s.since.hand_then want s.since.before s.since.after
          s.since.lacked s.since.same_parts new (s.same little);
    }
asks_on r (Moves.loses late there why) = elim why [ ]

pub asks_what_lacks : AsksWhatLacks
asks_what_lacks messages m next question r allows = asks_on r (moved allows)
