-- What the gate says of the item in hand; and in a target that is gone, no command of it is pending.
use Rattle.std.proofs.Common.{◌≡◌, Bool, true, false, cond, not, ◌||◌, List, [], ◌∷◌, ◌++◌, Option, Some, None, refl}
use Rattle.std.proofs.Common.{sym, ap, subst, ◌∙◌, option_map, arith}
use Rattle.machine_model.specs.Due.{Load, Picked, busy, can_read, clear, hand_load, lacking_more, load_of, newly_lacked}
use Rattle.machine_model.specs.Due.{passed_by, pick, queued, waiting}
use Rattle.machine_model.specs.Replying.{given_up, is_waiting, replied_to}
use Rattle.machine_model.specs.Rest.{hand_silent}
use Rattle.machine_model.specs.Runs.{Message}
use Rattle.machine_model.specs.State.{Hand, Machine, has_waiting, is_empty, is_flying, is_gone, is_none, is_raw}
use Rattle.machine_model.specs.Rows.{noted}
use Rattle.machine_model.specs.Telling.{after_event, attached_from, numbered_by}
use Rattle.machine_steps.specs.Names.{Effect, Event, Initialized, Item, Phase, Question, Sent, Terminated, a_composite}
use Rattle.machine_steps.specs.Names.{a_question, a_raw, a_request, an_effect, target_end}
use Rattle.machine_steps.proofs.RestLaws.{is_free, near_asks, near_queue}
use Rattle.machine_steps.proofs.Stepping.{Moves}
use Rattle.machine_steps.proofs.Testing.{same_noted, same_numbered, same_replied}

-- The gate ------------------------------------------------------------------------------------------------------------

pub load_in : (m : Machine) (hand : Hand) (load : Load) → load_of m ≡ load → is_gone m.state.phase ≡ false
    → m.hand ≡ Some hand → cond (can_read m) busy (hand_load m.state (Some hand)) ≡ load
unfolding load_of
load_in m hand load free near is =
    ap (λ (held : Option Hand). cond (can_read m) busy (hand_load m.state held)) (sym is)
    ∙ ap (λ (gone : Bool). cond gone clear (cond (can_read m) busy (hand_load m.state m.hand))) (sym near) ∙ free

-- what is to be asked was lacking
pub lacking_hand : (m : Machine) (hand : Hand) → load_of m ≡ lacking_more → m.hand ≡ Some hand
    → is_empty (newly_lacked m.state hand) ≡ false
lacking_hand m hand free is =
    by_bools (can_read m) (is_flying hand.effect) (is_empty hand.queue) (is_empty (newly_lacked m.state hand))
    (has_waiting hand.asked) (load_in m hand lacking_more free (near_queue m free) is)
  where
    by_bools : (reads flies none_queued none_lacking waits : Bool)
        → cond reads busy (cond flies busy (cond (not none_queued) queued (cond (not none_lacking) lacking_more
        (cond waits waiting clear)))) ≡ lacking_more → none_lacking ≡ false
    by_bools reads flies none_queued none_lacking waits is = grind arith

-- In a target that is gone --------------------------------------------------------------------------------------------

abbrev pub IsQuiet : Machine → Type 0
IsQuiet m = cond (is_gone m.state.phase) (hand_silent m.hand) true ≡ true

silent_by : (flies waits : Bool) → flies ≡ false → waits ≡ false → cond flies false (not waits) ≡ true
silent_by flies waits still none = rw (still, none) refl

-- no command is pending where the part in front is done
pub quiet_now : (m : Machine) (hand : Hand) → IsQuiet m → load_of m ≡ clear → m.hand ≡ Some hand
    → hand_silent (Some hand) ≡ true
quiet_now m hand h free is = by_phase (is_gone m.state.phase) refl
  where
    by_phase : (gone : Bool) → is_gone m.state.phase ≡ gone → hand_silent (Some hand) ≡ true
    by_phase true gone = ap hand_silent (sym is) ∙ ap (λ (over : Bool). cond over (hand_silent m.hand) true)
        (sym gone) ∙ h
    by_phase false gone = let f = is_free m hand free gone is in
        silent_by (is_flying hand.effect) (has_waiting hand.asked) f.lands f.silent

waits_first : (none same other waits some : Bool) → ((cond none same false) || waits) ≡ true → (waits ≡ true
    → some ≡ true)
    → (none || some) ≡ true
waits_first none same other waits some is rest = grind (arith, is, rest)

pub waits_some : (question : Question) (asked : List Sent) → is_waiting question asked ≡ true → has_waiting asked ≡ true
waits_some question [] is = cc
waits_some question (one ∷ asked) is =
    waits_first (is_none one.reply) _ true (is_waiting question asked) (has_waiting asked) is
    (waits_some question asked)

pub near_waits : (m : Machine) (hand : Hand) (question : Question) → IsQuiet m → m.hand ≡ Some hand
    → is_waiting question hand.asked ≡ true → is_gone m.state.phase ≡ false
near_waits m hand question h is waits = grind (arith, h, is, waits_some question hand.asked waits)

pub near_flies : (m : Machine) (hand : Hand) (effect : Effect) → IsQuiet m → m.hand ≡ Some hand
    → hand.effect ≡ Some (record { effect = effect; reply = None }) → is_gone m.state.phase ≡ false
near_flies m hand effect h is flies = grind (arith, h, is, flies)

either : (gone quiet : Bool) → quiet ≡ true → cond gone quiet true ≡ true
either gone quiet is = grind (arith, is)

pub quiet_on : (m next : Machine) (said : Option Message) → IsQuiet m → Moves m said next → IsQuiet next
quiet_on m next said h (Moves.begins picked free none is) = either (is_gone m.state.phase) true refl
quiet_on m next said h (Moves.drops free is none) = either (is_gone m.state.phase) true refl
quiet_on m next said h (Moves.responds {hand} free at is) = either _ _ (quiet_now m hand h free at.in_hand)
quiet_on m next said h (Moves.finds {hand} found free at needs done) = either _ _ (quiet_now m hand h free at.in_hand)
quiet_on m next said h (Moves.passes_over {hand} free at why) = either _ _ (quiet_now m hand h free at.in_hand)
quiet_on m next said h (Moves.tells {hand} free at) = either _ _ (quiet_now m hand h free at.in_hand)
quiet_on m next said h (Moves.sends free at near) = rw near refl
quiet_on m next said h (Moves.updates free at is near) = rw near refl
quiet_on m next said h (Moves.greets free at is near) = rw near refl
quiet_on m next said h (Moves.notes {hand} free at) = either _ _ (quiet_now m hand h free at.in_hand)
quiet_on m next said h (Moves.unfolds {hand} free at) = either _ _ (quiet_now m hand h free at.in_hand)
quiet_on m next said h (Moves.queues free is) = rw (near_queue m free) refl
quiet_on m next said h (Moves.asks {hand} free room is are) = rw (near_asks m hand free is).0 refl
quiet_on m next said h (Moves.answers {question} {replied} {hand} is waits reply stays) =
    rw (same_replied (a_question question) replied m.state, near_waits m hand question h is waits) refl
quiet_on m next said h (Moves.replies {effect} {replied} {hand} is flies reply stays) =
    rw (same_replied (an_effect effect) replied m.state, near_flies m hand effect h is flies) refl
quiet_on m next said h (Moves.loses late near why) = given_silent m.hand
  where
    given_silent : (hand : Option Hand) → hand_silent (option_map given_up hand) ≡ true
    given_silent hand = grind arith
quiet_on m next said h _ = h

-- While the target isn't gone, its end doesn't wait -------------------------------------------------------------------

abbrev pub is_end_item : Item → Bool
is_end_item target_end = true
is_end_item (a_request request) = false
is_end_item (a_composite at composite) = false
is_end_item (a_raw at body) = false

abbrev pub has_end : List Item → Bool
has_end [] = false
has_end (item ∷ items) = is_end_item item || has_end items

abbrev pub IsKept : Machine → Type 0
IsKept m = cond (is_gone m.state.phase) true (not (has_end m.waiting)) ≡ true

pub kept_end : (m : Machine) → IsKept m → has_end m.waiting ≡ true → is_gone m.state.phase ≡ true
kept_end m k is = by_gone (is_gone m.state.phase) (has_end m.waiting) k is
  where
    by_gone : (gone waits : Bool) → cond gone true (not waits) ≡ true → waits ≡ true → gone ≡ true
    by_gone gone waits is end = grind (arith, is, end)

kept_phase : (m : Machine) (phase : Phase) → IsKept m → is_gone phase ≡ is_gone m.state.phase
    → cond (is_gone phase) true (not (has_end m.waiting)) ≡ true
kept_phase m phase k is = ap (λ (gone : Bool). cond gone true (not (has_end m.waiting))) is ∙ k

-- as it was but for what waits, among which no end is
kept_waiting : (m : Machine) (items : List Item) → IsKept m → (has_end m.waiting ≡ false → has_end items ≡ false)
    → cond (is_gone m.state.phase) true (not (has_end items)) ≡ true
kept_waiting m items k rest =
    by_two (is_gone m.state.phase) (has_end m.waiting) (has_end items) k rest
  where
    by_two : (gone was now : Bool) → cond gone true (not was) ≡ true → (was ≡ false → now ≡ false)
        → cond gone true (not now) ≡ true
    by_two gone was now is rest = grind (arith, is, rest)

end_more : (items : List Item) (item : Item) → is_end_item item ≡ false → has_end items ≡ false
    → has_end (items ++ item ∷ []) ≡ false
end_more [] item other is = rw other refl
end_more (first ∷ items) item other is = grind (arith, other, is, end_more items item)

end_read : (before after : List Item) (item other : Item) → is_end_item item ≡ is_end_item other
    → has_end (before ++ item ∷ after) ≡ has_end (before ++ other ∷ after)
end_read [] after item other is = rw is refl
end_read (first ∷ before) after item other is =
    ap (λ (more : Bool). is_end_item first || more) (end_read before after item other is)

-- what is picked was among those that waited
pub picked_end : (gone : Bool) (items : List Item) (picked : Picked) → pick gone items ≡ Some picked
    → has_end items ≡ (is_end_item picked.item || has_end picked.rest)
picked_end gone [] picked is = cc
picked_end gone (item ∷ items) picked is =
    by_raw (cond gone false (is_raw item)) (pick gone items) (raw_other gone item) (picked_end gone items) is
  where
    raw_other : (gone : Bool) (item : Item) → cond gone false (is_raw item) ≡ true → is_end_item item ≡ false
    raw_other gone item is = grind (arith, is)

    picked_in : Option Picked → Picked
    picked_in None = picked
    picked_in (Some other) = other

    by_raw : (raw : Bool) (found : Option Picked) → (raw ≡ true → is_end_item item ≡ false)
        → ((other : Picked) → found ≡ Some other → has_end items ≡ (is_end_item other.item || has_end other.rest))
        → cond raw (passed_by item found) (Some (record { item = item; rest = items })) ≡ Some picked
        → has_end (item ∷ items) ≡ (is_end_item picked.item || has_end picked.rest)
    by_raw true None no_end rest is = cc
    by_raw true (Some other) no_end rest is =
        subst (λ (picked : Picked). has_end (item ∷ items) ≡ (is_end_item picked.item || has_end picked.rest))
        (ap picked_in is) (rw (no_end refl) (rest other refl))
    by_raw false found no_end rest is =
        subst (λ (picked : Picked). has_end (item ∷ items) ≡ (is_end_item picked.item || has_end picked.rest))
        (ap picked_in is) refl

pub attached_gone : (phase : Phase) → is_gone (attached_from phase) ≡ is_gone phase
attached_gone phase = grind arith

pub kept_on : (m next : Machine) (said : Option Message) → IsKept m → Moves m said next → IsKept next
kept_on m next said k (Moves.responds {outcome} free at is) =
    kept_phase m (numbered_by outcome m.state).phase k (ap is_gone (same_numbered outcome m.state))
kept_on m next said k (Moves.tells {event} free at) = told_kept event
  where
    told_kept : (event : Event)
        → cond (is_gone (after_event event m.state).phase) true (not (has_end m.waiting)) ≡ true
    told_kept Initialized = kept_phase m (attached_from m.state.phase) k (attached_gone m.state.phase)
    told_kept Terminated = refl
    told_kept _ = k
kept_on m next said k (Moves.notes {note} free at) = kept_phase m (noted note m.state).phase k
    (ap is_gone (same_noted note m.state))
kept_on m next said k (Moves.answers {question} {replied} is waits reply stays) =
    kept_phase m (replied_to (a_question question) replied m.state).phase k
    (ap is_gone (same_replied (a_question question) replied m.state))
kept_on m next said k (Moves.replies {effect} {replied} is flies reply stays) =
    kept_phase m (replied_to (an_effect effect) replied m.state).phase k
    (ap is_gone (same_replied (an_effect effect) replied m.state))
kept_on m next said k (Moves.loses late near why) = refl
kept_on m next said k (Moves.begins picked free none is) =
    kept_waiting m picked.rest k (λ no_end. rest_too (is_end_item picked.item) (has_end picked.rest) _
    (picked_end (is_gone m.state.phase) m.waiting picked is) no_end)
  where
    rest_too : (first rest was : Bool) → was ≡ (first || rest) → was ≡ false → rest ≡ false
    rest_too first rest was is none = grind (arith, is, none)
kept_on m next said k (Moves.hears {request} read is) =
    kept_waiting m next.waiting k (end_more m.waiting (a_request request) refl)
kept_on m next said k (Moves.comes {at} {composite} read sized taken) =
    kept_waiting m next.waiting k (end_more m.waiting (a_composite at composite) refl)
kept_on m next said k (Moves.keeps {at} {body} is) =
    kept_waiting m next.waiting k (end_more m.waiting (a_raw at body) refl)
kept_on m next said k (Moves.reads {at} {body} {composite} before after read is none taken) =
    kept_waiting m next.waiting k (λ no_end. end_read before after (a_composite at composite) (a_raw at body) refl
    ∙ ap has_end (sym is) ∙ no_end)
kept_on m next said k _ = k
