-- What is to be asked for an item is new: no question is asked twice for one.
use Rattle.std.proofs.Common.{◌≡◌, Bool, true, false, cond, not, ◌||◌, List, [], ◌∷◌, ◌++◌, Option, Some, None, refl}
use Rattle.std.proofs.Common.{sym, subst, option_map, arith}
use Rattle.jdwp_commands.specs.declared.question.Question.TheVariants as questions
use Rattle.machine_model.specs.Apart.{are_apart, is_new, was_asked}
use Rattle.machine_model.specs.Due.{asked_hand, lacked_by, newly_lacked}
use Rattle.machine_model.specs.Keys.{same_question}
use Rattle.machine_model.specs.Replying.{IsReply, filled, given_up, hand_replied, is_end, is_failed, is_waiting}
use Rattle.machine_model.specs.Replying.{replied_to, shows_end, unless_failed}
use Rattle.machine_model.specs.Rows.{noted}
use Rattle.machine_model.specs.Runs.{MayQueue, Message, Run}
use Rattle.machine_model.specs.State.{Hand, Machine, State, is_gone, is_some}
use Rattle.machine_model.specs.Telling.{after_event, numbered_by}
use Rattle.machine_model.proofs.AskedLaws.{apart_asked, apart_filled, was_filled, with_apart}
use Rattle.machine_model.proofs.DueWants.{asked_kept, lacked_due, sizes_kept, waits_other}
use Rattle.machine_model.proofs.KeyLaws.{is_one}
use Rattle.machine_model.proofs.Bools.{both_hold, other_fails}
use Rattle.machine_steps.specs.Names.{Event, Gone, Note, Outcome, Question, Replied, Sent, Want, a_question, an_effect}
use Rattle.machine_steps.proofs.SizeLaws.{question_sizes, sizes_replied}
use Rattle.machine_steps.proofs.RestLaws.{near_queue}
use Rattle.machine_steps.proofs.Stepping.{Moves, by_moves}
use Rattle.machine_steps.proofs.Testing.{same_noted, same_numbered, same_replied}

abbrev hand_kept : State → Option Hand → Bool
hand_kept state None = true
hand_kept state (Some hand) =
    cond (are_apart hand.asked hand.queue) (cond (is_gone state.phase) true (sizes_kept state.sizes hand.asked)) false

abbrev IsKept : Machine → Type 0
IsKept m = hand_kept m.state m.hand ≡ true

pub new_apart : (state : State) (hand : Hand) → sizes_kept state.sizes hand.asked ≡ true
    → are_apart hand.asked (newly_lacked state hand) ≡ true
unfolding newly_lacked
new_apart state hand h =
    with_apart hand.asked [] (lacked_by state hand hand.parts) refl (lacked_due state hand hand.parts h)

-- a reply comes
sizes_answered : (state : State) (question : Question) (replied : Replied) (asked : List Sent)
    → IsReply state.sizes (a_question question) replied → is_end (a_question question) replied ≡ false
    → sizes_kept state.sizes asked ≡ true
    → sizes_kept (replied_to (a_question question) replied state).sizes (filled question replied asked) ≡ true
sizes_answered state question replied asked reply last h = by_same (same_question question questions.IdSizes) refl
  where
    by_bools : (known waits was later waits_now : Bool) → (known || (waits || not was)) ≡ true
        → (known ≡ true → later ≡ true) → (waits ≡ true → waits_now ≡ true)
        → (later || (waits_now || not was)) ≡ true
    by_bools known waits was later waits_now h grows stays = grind (arith, h, grows, stays)

    by_same : (same_one : Bool) → same_question question questions.IdSizes ≡ same_one
        → sizes_kept (replied_to (a_question question) replied state).sizes (filled question replied asked) ≡ true
    by_same true is =
        let one : question ≡ questions.IdSizes = is_one question questions.IdSizes is in
        let some : is_some (replied_to (a_question question) replied state).sizes ≡ true =
        subst (λ (q : Question). is_some (replied_to (a_question q) replied state).sizes ≡ true) (sym one)
        (sizes_replied state.sizes replied (subst (λ (q : Question). IsReply state.sizes
        (a_question q) replied) one reply)
        (subst (λ (q : Question). is_end (a_question q) replied ≡ false) one last)) in
        rw some refl
    by_same false is =
        rw (was_filled questions.IdSizes question replied asked)
        (by_bools (is_some state.sizes) (is_waiting questions.IdSizes asked) (was_asked questions.IdSizes asked)
        (is_some (replied_to (a_question question) replied state).sizes)
        (is_waiting questions.IdSizes (filled question replied asked)) h
        (question_sizes state question replied reply last)
        (waits_other questions.IdSizes question replied asked is))

failed_apart : (asked : List Sent) (failed : Bool) (queue : List Want) → are_apart asked queue ≡ true
    → are_apart asked (unless_failed failed queue) ≡ true
failed_apart asked failed queue h = grind (arith, h)

same_kept : (state later : State) (hand : Option Hand) → later.phase ≡ state.phase → later.sizes ≡ state.sizes
    → hand_kept state hand ≡ true → hand_kept later hand ≡ true
same_kept state later hand phase sizes h = grind (arith, phase, sizes, h)

event_kept : (event : Event) (state : State) (hand : Hand) → hand_kept state (Some hand) ≡ true
    → hand_kept (after_event event state) (Some hand) ≡ true
event_kept event state hand h = grind (arith, h)

answered_kept : (m : Machine) (hand : Hand) (question : Question) (replied : Replied)
    → IsReply m.state.sizes (a_question question) replied → shows_end m.state.phase
    (a_question question) replied ≡ false
    → hand_kept m.state (Some hand) ≡ true
    → hand_kept (replied_to (a_question question) replied m.state) (Some (hand_replied
    (a_question question) replied hand)) ≡ true
answered_kept m hand question replied reply stays h =
    let (apart, kept) = both_hold (are_apart hand.asked hand.queue) _ h in
    rw (
      failed_apart (filled question replied hand.asked) (is_failed question replied hand.asked) hand.queue
          (apart_filled question replied hand.asked hand.queue apart),
      same_replied (a_question question) replied m.state,
    )
    (by_gone (is_gone m.state.phase) refl kept)
  where
    by_gone : (gone : Bool) → is_gone m.state.phase ≡ gone
        → cond gone true (sizes_kept m.state.sizes hand.asked) ≡ true
        → cond gone true (sizes_kept (replied_to (a_question question) replied m.state).sizes
        (filled question replied hand.asked)) ≡ true
    by_gone true is k = refl
    by_gone false is k = sizes_answered m.state question replied hand.asked reply
        (other_fails (is_gone m.state.phase) (is_end (a_question question) replied) is stays) k

kept_of : (m : Machine) (hand : Hand) → m.hand ≡ Some hand → IsKept m → hand_kept m.state (Some hand) ≡ true
kept_of m hand is h = subst (λ (hand : Option Hand). hand_kept m.state hand ≡ true) is h

numbered_sizes : (outcome : Outcome) (state : State) → (numbered_by outcome state).sizes ≡ state.sizes
numbered_sizes outcome state = grind arith

noted_sizes : (note : Note) (state : State) → (noted note state).sizes ≡ state.sizes
noted_sizes note state = grind arith

queued_kept : (m : Machine) (hand : Hand) → is_gone m.state.phase ≡ false → hand_kept m.state (Some hand) ≡ true
    → hand_kept m.state (Some (record hand { queue = newly_lacked m.state hand })) ≡ true
queued_kept m hand near h =
    let (apart, kept) = both_hold (are_apart hand.asked hand.queue) _ h in
    let sized : sizes_kept m.state.sizes hand.asked ≡ true = grind (arith, kept, near) in
    rw (new_apart m.state hand sized, near) sized

-- what is put anew is new
anew_kept : (m : Machine) (hand : Hand) {queue : List Want} → MayQueue m hand queue
    → hand_kept m.state (Some hand) ≡ true → hand_kept m.state (Some (record hand { queue = queue })) ≡ true
anew_kept m hand {queue} may h =
    let (apart, kept) = both_hold (are_apart hand.asked hand.queue) _ h in rw may.apart kept

asked_hand_kept : (m : Machine) (hand : Hand) (want : Want) (others : List Want) → hand.queue ≡ want ∷ others
    → hand_kept m.state (Some hand) ≡ true → hand_kept m.state (Some (asked_hand want hand)) ≡ true
asked_hand_kept m hand want others are h =
    let (apart, kept) = both_hold (are_apart hand.asked hand.queue) _ h in
    let behind = (apart_asked want hand.asked others
    (subst (λ (queue : List Want). are_apart hand.asked queue ≡ true) are apart)).1 in
    rw (are, behind) (by_gone (is_gone m.state.phase) kept)
  where
    by_gone : (gone : Bool) → cond gone true (sizes_kept m.state.sizes hand.asked) ≡ true
        → cond gone true (sizes_kept m.state.sizes (hand.asked ++ record { want = want; reply = None } ∷ [])) ≡ true
    by_gone true k = refl
    by_gone false k = asked_kept m.state.sizes hand.asked want k

kept_on : (m next : Machine) (said : Option Message) → IsKept m → Moves m said next → IsKept next
kept_on m next said h (Moves.begins picked free none is) = grind arith
kept_on m next said h (Moves.drops free is none) = refl
kept_on m next said h (Moves.responds {hand} {outcome = outcome} free at is) =
    same_kept m.state (numbered_by outcome m.state) (Some hand) (same_numbered outcome m.state)
    (numbered_sizes outcome m.state) (kept_of m hand at.in_hand h)
kept_on m next said h (Moves.finds {hand} found free at needs done) = kept_of m hand at.in_hand h
kept_on m next said h (Moves.passes_over {hand} free at why) = kept_of m hand at.in_hand h
kept_on m next said h (Moves.tells {hand} {rest} {event} free at) =
    event_kept event m.state hand (kept_of m hand at.in_hand h)
kept_on m next said h (Moves.sends {hand} free at near) = kept_of m hand at.in_hand h
kept_on m next said h (Moves.updates {hand} free at is near) = kept_of m hand at.in_hand h
kept_on m next said h (Moves.greets free at is near) = same_kept m.state next.state m.hand refl refl h
kept_on m next said h (Moves.notes {hand} {note} free at) =
    same_kept m.state (noted note m.state) (Some hand) (same_noted note m.state) (noted_sizes note m.state)
    (kept_of m hand at.in_hand h)
kept_on m next said h (Moves.unfolds {hand} free at) = kept_of m hand at.in_hand h
kept_on m next said h (Moves.queues {hand} free is) = queued_kept m hand (near_queue m free) (kept_of m hand is h)
kept_on m next said h (Moves.asks {hand} {want} {wants = others} free room is are) =
    rw is (asked_hand_kept m hand want others are (kept_of m hand is h))
kept_on m next said h (Moves.greeted read is) = same_kept m.state next.state m.hand refl refl h
kept_on m next said h (Moves.answers {question} {replied} {hand} is waits reply stays) =
    rw is (answered_kept m hand question replied reply stays (kept_of m hand is h))
kept_on m next said h (Moves.replies {effect} {replied} {hand} is flying reply stays) =
    rw is (same_kept m.state (replied_to (an_effect effect) replied m.state) (Some hand) refl refl
    (kept_of m hand is h))
kept_on m next said h (Moves.loses late near why) = given_kept m.hand
  where
    given_kept : (hand : Option Hand) → hand_kept (record m.state { phase = Gone }) (option_map given_up hand) ≡ true
    given_kept hand = grind arith
kept_on m next said h _ = h

pub always_kept : {messages : List Message} {m : Machine} → Run messages m → IsKept m
always_kept r = by_moves {Holds = λ (messages : List Message) (m : Machine). IsKept m}
    (record {
      starts = refl;
      moves = λ messages m next said h moved. kept_on m next said h moved;
      queues = λ messages m hand queue may h. anew_kept m hand may h;
    }) r

-- what is to be asked next is new
pub next_new : (m : Machine) (hand : Hand) (want : Want) (others : List Want) → IsKept m → m.hand ≡ Some hand
    → hand.queue ≡ want ∷ others → is_new want hand.asked ≡ true
next_new m hand want others h is are =
    let (apart, kept) = both_hold (are_apart hand.asked hand.queue) _ (kept_of m hand is h) in
    (apart_asked want hand.asked others
    (subst (λ (queue : List Want). are_apart hand.asked queue ≡ true) are apart)).0
