-- At rest nothing is in hand, and no item waits but composites that can't be read yet.
use Rattle.std.proofs.Common.{◌≡◌, Bool, true, false, cond, not, ◌||◌, ◌⊎◌, inl, inr, List, [], ◌∷◌, ◌++◌, Option, Some}
use Rattle.std.proofs.Common.{None, refl, sym, subst, ◌∙◌, arith}
use Rattle.std.specs.List.{flat_map}
use Rattle.machine_model.specs.Due.{Due, Load, Picked, asked_first, asked_next, busy, can_read, clear, due, due_by}
use Rattle.machine_model.specs.Due.{gated, hand_due, hand_load, is_full, lacked_by, lacking_more, lets, load_of}
use Rattle.machine_model.specs.Due.{newly_lacked, next_item, part_due, pick, queued, queued_next, waiting, wanted}
use Rattle.machine_model.specs.Due.{wanted_in, is_listed, with_wants}
use Rattle.machine_model.specs.Plans.{question_of}
use Rattle.machine_model.specs.Replying.{is_waiting, replied_to, unanswered}
use Rattle.machine_model.specs.Rest.{IsAtRest, awaits_greeting, hand_silent, request_in}
use Rattle.machine_model.specs.Rows.{noted}
use Rattle.machine_model.specs.Runs.{Message, Run}
use Rattle.machine_model.specs.State.{Hand, Machine, State, has_raw, has_waiting, is_empty, is_flying, is_gone}
use Rattle.machine_model.specs.Telling.{after_event, numbered_by}
use Rattle.machine_steps.specs.Names.{Act, Event, Item, Part, Phase, Sent, TargetCommand, Want, a_question, an_effect}
use Rattle.machine_steps.proofs.Stepping.{Moves, by_moves}
use Rattle.machine_steps.proofs.Tables.{free, free_once}
use Rattle.machine_steps.proofs.Testing.{passed, same_noted, same_numbered, same_replied, tested}

-- Nothing is late while there is a target -----------------------------------------------------------------------------

abbrev late_at_end : Machine → Bool
late_at_end m = cond (is_gone m.state.phase) true (is_empty m.late)

same_late : (phase : Phase) (m : Machine) → phase ≡ m.state.phase → late_at_end m ≡ true
    → cond (is_gone phase) true (is_empty m.late) ≡ true
same_late phase m is h = subst (λ (phase : Phase). cond (is_gone phase) true (is_empty m.late) ≡ true) (sym is) h

event_late : (event : Event) (state : State) (none : Bool) → cond (is_gone state.phase) true none ≡ true
    → cond (is_gone (after_event event state).phase) true none ≡ true
event_late event state none h = grind (arith, h)

some_late : (before after : List TargetCommand) (command : TargetCommand)
    → is_empty (before ++ command ∷ after) ≡ false
some_late [] after command = refl
some_late (first ∷ before) after command = refl

late_on : (m next : Machine) (said : Option Message) → late_at_end m ≡ true → Moves m said next
    → late_at_end next ≡ true
late_on m next said h (Moves.responds {outcome} free at is) =
    same_late (numbered_by outcome m.state).phase m (same_numbered outcome m.state) h
late_on m next said h (Moves.tells {event} free at) = event_late event m.state (is_empty m.late) h
late_on m next said h (Moves.notes {note} free at) = same_late (noted note m.state).phase m (same_noted note m.state) h
late_on m next said h (Moves.answers {question} {replied} is waits reply stays) =
    same_late (replied_to (a_question question) replied m.state).phase m
    (same_replied (a_question question) replied m.state) h
late_on m next said h (Moves.replies {effect} {replied} is flying reply stays) =
    same_late (replied_to (an_effect effect) replied m.state).phase m (same_replied
    (an_effect effect) replied m.state) h
late_on m next said h (Moves.late {command} before after is reply) =
    grind (arith, h, is, some_late before after command)
late_on m next said h (Moves.loses late near why) = refl
late_on m next said h _ = h

-- what is late shows that the target is gone
pub late_gone : (m : Machine) (before after : List TargetCommand) (command : TargetCommand) → late_at_end m ≡ true
    → m.late ≡ before ++ command ∷ after → is_gone m.state.phase ≡ true
late_gone m before after command h is = grind (arith, h, is, some_late before after command)

pub no_late : {messages : List Message} {m : Machine} → Run messages m → late_at_end m ≡ true
no_late r = by_moves {Holds = λ (messages : List Message) (m : Machine). late_at_end m ≡ true}
    (record {
      starts = refl;
      moves = λ messages m next said h moved. late_on m next said h moved;
      queues = λ messages m hand queue may h. h;
    }) r

-- What is pending -----------------------------------------------------------------------------------------------------

no_questions : (asked : List Sent) → has_waiting asked ≡ false → flat_map unanswered asked ≡ []
no_questions [] is = refl
no_questions (sent ∷ asked) is = grind (arith, is, no_questions asked)

none_waits : (asked : List Sent) (want : Want) → has_waiting asked ≡ false → is_waiting (question_of want) asked ≡ false
none_waits [] want is = refl
none_waits (sent ∷ asked) want is = grind (arith, is, none_waits asked want)

-- something that is lacking is new, where nothing is pending
more_than : (asked : List Sent) (want : Want) (queue wants : List Want)
    → is_empty (with_wants asked (want ∷ queue) wants) ≡ false
more_than asked want queue [] = refl
more_than asked want queue (other ∷ wants) =
    by_test (is_waiting (question_of other) asked || is_listed (question_of other) (want ∷ queue))
    (λ queue. more_than asked want queue wants)
  where
    by_test : (there : Bool) → ((queue : List Want) → is_empty (with_wants asked (want ∷ queue) wants) ≡ false)
        → is_empty (with_wants asked (cond there (want ∷ queue) (want ∷ queue ++ other ∷ [])) wants) ≡ false
    by_test true rest = rest queue
    by_test false rest = rest (queue ++ other ∷ [])

some_new : (state : State) (hand : Hand) → has_waiting hand.asked ≡ false
    → is_empty (lacked_by state hand hand.parts) ≡ false → is_empty (newly_lacked state hand) ≡ false
unfolding newly_lacked
some_new state hand silent some = by_wants (lacked_by state hand hand.parts) some
  where
    by_wants : (wants : List Want) → is_empty wants ≡ false → is_empty (with_wants hand.asked [] wants) ≡ false
    by_wants [] is = cc
    by_wants (want ∷ wants) is =
        rw (none_waits hand.asked want silent) (more_than hand.asked want [] wants)

-- The gate ------------------------------------------------------------------------------------------------------------

-- where nothing hinders what is wanted
pub record IsFree (m : Machine) (hand : Hand) : Type 0 where
  pub lands : is_flying hand.effect ≡ false
  pub silent : has_waiting hand.asked ≡ false
  pub no_queue : is_empty hand.queue ≡ true
  pub none_new : is_empty (newly_lacked m.state hand) ≡ true

free_hand : (state : State) (hand : Hand) → hand_load state (Some hand) ≡ clear
    → (is_flying hand.effect ≡ false) × (has_waiting hand.asked ≡ false) × (is_empty hand.queue ≡ true)
    × (is_empty (newly_lacked state hand) ≡ true)
free_hand state hand is = by_tests (is_flying hand.effect) (is_empty hand.queue) (is_empty (newly_lacked state hand))
    (has_waiting hand.asked) is
  where
    by_tests : (flies none new waits : Bool)
        → cond flies busy (cond (not none) queued (cond (not new) lacking_more (cond waits waiting clear))) ≡ clear
        → (flies ≡ false) × (waits ≡ false) × (none ≡ true) × (new ≡ true)
    by_tests false true true false h = (refl, refl, refl, refl)
    by_tests _ _ _ _ h = cc

near_load : (gone read : Bool) (load : Load) → gone ≡ false → cond gone clear (cond read busy load) ≡ clear
    → load ≡ clear
near_load gone read load near is = grind (arith, near, is)

pub is_free : (m : Machine) (hand : Hand) → load_of m ≡ clear → is_gone m.state.phase ≡ false → m.hand ≡ Some hand
    → IsFree m hand
unfolding load_of
is_free m hand free near is =
    let load = near_load (is_gone m.state.phase) (can_read m) (hand_load m.state m.hand) near free in
    let facts = free_hand m.state hand (subst (λ (hand : Option Hand). hand_load m.state hand ≡ clear) is load) in
    record { lands = facts.0; silent = facts.1; no_queue = facts.2; none_new = facts.3 }

-- what hinders shows that the target isn't gone
pub near_queue : (m : Machine) → load_of m ≡ lacking_more → is_gone m.state.phase ≡ false
unfolding load_of
near_queue m is = by_gone (is_gone m.state.phase) is
  where
    by_gone : (gone : Bool) → cond gone clear (cond (can_read m) busy (hand_load m.state m.hand)) ≡ lacking_more
        → gone ≡ false
    by_gone gone is = grind (arith, is)

-- what is to be asked goes only while no effect is in flight, and the target isn't gone
pub near_asks : (m : Machine) (hand : Hand) → load_of m ≡ queued → m.hand ≡ Some hand
    → (is_gone m.state.phase ≡ false) × (is_flying hand.effect ≡ false)
unfolding load_of
near_asks m hand is held = by_tests (is_gone m.state.phase) (can_read m) (is_flying hand.effect)
    (subst (λ (hand : Option Hand). cond (is_gone m.state.phase) clear (cond (can_read m) busy (hand_load m.state hand))
    ≡ queued) held is)
  where
    by_tests : (gone read flies : Bool) → cond gone clear (cond read busy (cond flies busy
        (cond (not (is_empty hand.queue)) queued
        (cond (not (is_empty (newly_lacked m.state hand))) lacking_more (cond
        (has_waiting hand.asked) waiting clear)))))
        ≡ queued → (gone ≡ false) × (flies ≡ false)
    by_tests false false false is = (refl, refl)
    by_tests _ _ _ is = cc

-- a part moves on, unless it waits for a handshake
moves_part : (m : Machine) (hand : Hand) (part : Part) (rest : List Part) (gone : Bool) → is_gone m.state.phase ≡ gone
    → awaits_greeting m.state ≡ false → free_once gone (part ∷ rest) ≡ true
    → (gone ≡ false → is_empty (lacked_by m.state hand (part ∷ rest)) ≡ true)
    → lets gone (part_due m hand part rest).act ≡ true
moves_part m hand part rest gone is waited free none = grind (arith, is, waited, free, none)

pub record IsDone (m : Machine) : Type 0 where
  pub no_hand : m.hand ≡ None
  pub picks_none : pick (is_gone m.state.phase) m.waiting ≡ None

rests_in : (m : Machine) (hand : Option Hand) → m.hand ≡ hand → load_of m ≡ clear → awaits_greeting m.state ≡ false
    → passed free_once (is_gone m.state.phase) hand ≡ true
    → lets (is_gone m.state.phase) (wanted_in m hand).act ≡ false → IsDone m
rests_in m None is clear_now waited free stops = record {
  no_hand = is;
  picks_none = nothing (pick (is_gone m.state.phase) m.waiting) stops;
}
  where
    nothing : (picked : Option Picked) → lets (is_gone m.state.phase) (next_item m picked).act ≡ false → picked ≡ None
    nothing picked stops = grind (arith, stops)
rests_in m (Some hand) is clear_now waited free stops = absurd (no_part hand.parts refl free stops)
  where
    none_lacked : (parts : List Part) → hand.parts ≡ parts → is_gone m.state.phase ≡ false
        → is_empty (lacked_by m.state hand parts) ≡ true
    none_lacked parts are near = by_test (is_empty (lacked_by m.state hand parts)) refl
      where
        by_test : (none : Bool) → is_empty (lacked_by m.state hand parts) ≡ none → none ≡ true
        by_test true k = refl
        by_test false k =
            let f = is_free m hand clear_now near is in
            let new = some_new m.state hand f.silent
            (subst (λ (parts : List Part). is_empty (lacked_by m.state hand parts) ≡ false) (sym are) k) in
            let no : true ≡ false = sym f.none_new ∙ new in cc

    no_part : (parts : List Part) → hand.parts ≡ parts → free_once (is_gone m.state.phase) parts ≡ true
        → ¬ (lets (is_gone m.state.phase) (hand_due m hand parts).act ≡ false)
    no_part [] are free stops = cc
    no_part (part ∷ rest) are free stops =
        let no : true ≡ false = sym (moves_part m hand part rest (is_gone m.state.phase) refl waited free
        (λ near. none_lacked (part ∷ rest) are near)) ∙ stops in cc

stopped : (gate : Bool) (m : Machine) (to : Due) → (gated gate m to).act ≡ Act.Waits
    → (gate ≡ false) ⊎ (to.act ≡ Act.Waits)
stopped true m to is = inr is
stopped false m to is = inl refl

-- with nothing pending the window isn't full
none_full : (m : Machine) (hand : Hand) → m.hand ≡ Some hand → is_flying hand.effect ≡ false
    → has_waiting hand.asked ≡ false → is_empty m.late ≡ true → is_full false m ≡ false
none_full m hand is lands silent none =
    let late : m.late ≡ [] = grind (arith, none) in
    rw (is, late, no_questions hand.asked silent) (grind (arith, lands))

asks_some : (m : Machine) (queue : List Want) → (asked_first false m queue).act ≡ Act.Waits → is_empty queue ≡ true
asks_some m queue is = grind (arith, is)

silent_load : (m : Machine) (hand : Hand) → m.hand ≡ Some hand → is_empty m.late ≡ true
    → hand_silent (Some hand) ≡ true
    → (due_by (is_full false m) (hand_load m.state (Some hand)) m).act ≡ Act.Waits
    → hand_load m.state (Some hand) ≡ clear
silent_load m hand is none silent waits =
    let lands : is_flying hand.effect ≡ false = grind (arith, silent) in
    let answered : has_waiting hand.asked ≡ false = grind (arith, silent) in
    by_tests (is_flying hand.effect) (is_empty hand.queue) (is_empty (newly_lacked m.state hand))
    (has_waiting hand.asked) lands answered
    (λ due_now. asks_some m hand.queue (subst (λ (full : Bool). (asked_first full m hand.queue).act ≡ Act.Waits)
    (none_full m hand is lands answered none)
    (subst (λ (held : Option Hand). (asked_next (is_full false m) m held).act ≡ Act.Waits) is due_now)))
    (λ due_now. subst (λ (held : Option Hand). (queued_next m held).act ≡ Act.Waits) is due_now) waits
  where
    by_tests : (flies no_queue none_new waits : Bool) → flies ≡ false → waits ≡ false
        → ((asked_next (is_full false m) m m.hand).act ≡ Act.Waits → no_queue ≡ true)
        → ((queued_next m m.hand).act ≡ Act.Waits → Act.Goes ≡ Act.Waits)
        → (due_by (is_full false m)
        (cond flies busy (cond (not no_queue) queued (cond (not none_new) lacking_more
        (cond waits waiting clear)))) m).act
        ≡ Act.Waits
        → cond flies busy (cond (not no_queue) queued (cond (not none_new) lacking_more
        (cond waits waiting clear))) ≡ clear
    by_tests false false none_new waits lands answered asks goes due_now = let no = asks due_now in cc
    by_tests false true false waits lands answered asks goes due_now = let no = goes due_now in cc
    by_tests false true true false lands answered asks goes due_now = refl
    by_tests _ _ _ _ lands answered asks goes due_now = cc

-- at rest nothing hinders what is wanted
pub clear_at_rest : (m : Machine) → late_at_end m ≡ true → IsAtRest m → load_of m ≡ clear
unfolding due load_of
clear_at_rest m late rests = by_gone (is_gone m.state.phase) (can_read m) refl refl
  where
    by_hand : (hand : Option Hand) → m.hand ≡ hand → is_gone m.state.phase ≡ false → can_read m ≡ false
        → hand_load m.state hand ≡ clear
    by_hand None held near read = refl
    by_hand (Some hand) held near read =
        silent_load m hand held (grind (arith, late, near)) (grind (arith, rests.nothing_pending, near, read, held))
        (grind (arith, rests.nothing_due, near, read, held))

    by_gone : (gone read : Bool) → is_gone m.state.phase ≡ gone → can_read m ≡ read
        → cond gone clear (cond read busy (hand_load m.state m.hand)) ≡ clear
    by_gone true read near is = refl
    by_gone false true near is = let no : false ≡ true = grind (arith, near, is, rests.nothing_pending) in cc
    by_gone false false near is = by_hand m.hand refl near is

stops : (m : Machine) → late_at_end m ≡ true → IsAtRest m → lets (is_gone m.state.phase) (wanted m).act ≡ false
unfolding due
stops m late rests =
    elim (stopped (lets (is_gone m.state.phase) (wanted m).act) m (wanted m)
    (subst (λ (load : Load). (due_by (is_full false m) load m).act ≡ Act.Waits) (clear_at_rest m late rests)
    rests.nothing_due)) [
      | inl is ↦ is
      | inr is ↦ rw is refl
    ]

pub at_rest : {messages : List Message} {m : Machine} → Run messages m → IsAtRest m → IsDone m
unfolding wanted
at_rest {messages} {m} r rests =
    rests_in m m.hand refl (clear_at_rest m (no_late r) rests) rests.no_greeting (tested free r) (stops m
    (no_late r) rests)

-- no request waits
pub no_request_waits : (gone : Bool) (waiting : List Item) → pick gone waiting ≡ None
    → flat_map request_in waiting ≡ []
no_request_waits gone [] is = refl
no_request_waits gone (item ∷ items) is = grind (arith, is, no_request_waits gone items)

-- where a raw composite would be read, no item waits
pub none_waiting : (gone : Bool) (waiting : List Item) → pick gone waiting ≡ None
    → cond gone false (has_raw waiting) ≡ false → waiting ≡ []
none_waiting gone [] is raw = refl
none_waiting true (item ∷ items) is raw = cc
none_waiting false (item ∷ items) is raw = grind (arith, is, raw)
