-- Where no composite suspends one thread alone, a session doesn't end for one.
use Rattle.std.proofs.Common.{◌≡◌, ℕ, Bool, true, false, cond, List, [], ◌∷◌, ◌++◌, Option, Some, None, refl, sym, ap}
use Rattle.std.proofs.Common.{subst, ◌∙◌, option_map}
use Rattle.std.specs.List.{AllByRecursion as All}
use Rattle.clean_sessions.proofs.LoneParts.{begun_other, chosen_other, finish_now, finished_other, given_other}
use Rattle.clean_sessions.proofs.LoneParts.{is_other, is_single, not_in_front, over_in_front}
use Rattle.clean_sessions.specs.Premises.{IsWhole, NoneSuspendsOne}
use Rattle.machine_model.specs.Due.{Picked, asked_hand, due, passed_by, pick}
use Rattle.machine_model.specs.Outcomes.{result_of}
use Rattle.machine_model.specs.Lookups.{finished}
use Rattle.machine_model.specs.Replying.{given_up, hand_replied}
use Rattle.machine_model.specs.Rows.{has_response}
use Rattle.machine_model.specs.Runs.{Message, Run}
use Rattle.machine_model.specs.State.{Hand, Machine, is_gone, is_raw}
use Rattle.machine_steps.proofs.PartTests.{both_pass, passes}
use Rattle.machine_steps.proofs.Stepping.{IsAt, Moves, by_moves, with_said}
use Rattle.session_model.specs.Names.{a_composite, a_question, a_raw, a_request, an_effect, Act, finish_one_thread}
use Rattle.session_model.specs.Names.{Item, Part, Replied, target_end, TargetCommand, Want}

-- What is in hand -----------------------------------------------------------------------------------------------------

-- what is left of the item in hand doesn't end the session for a single thread
abbrev hand_other : Option Hand → Bool
hand_other None = true
hand_other (Some hand) = passes is_other hand.parts

in_front : {m : Machine} {hand : Hand} {part : Part} {rest : List Part} → hand_other m.hand ≡ true
    → IsAt m hand part rest → passes is_other (part ∷ rest) ≡ true
in_front h at =
    subst (λ (parts : List Part). passes is_other parts ≡ true) at.parts
    (subst (λ (hand : Option Hand). hand_other hand ≡ true) at.in_hand h)

behind : {m : Machine} {hand : Hand} {part : Part} {rest : List Part} → hand_other m.hand ≡ true
    → IsAt m hand part rest → passes is_other rest ≡ true
behind {part = part} {rest} h at = by_first (is_other part) (passes is_other rest) (in_front h at)
  where
    by_first : (first others : Bool) → cond first others false ≡ true → others ≡ true
    by_first true others is = is
    by_first false others is = cc

replied_other : (command : TargetCommand) (replied : Replied) (hand : Option Hand)
    → hand_other (option_map (hand_replied command replied) hand) ≡ hand_other hand
replied_other command replied None = refl
replied_other (a_question question) replied (Some hand) = refl
replied_other (an_effect effect) replied (Some hand) = refl

asked_other : (want : Want) (hand : Option Hand) → hand_other (option_map (asked_hand want) hand) ≡ hand_other hand
asked_other want None = refl
asked_other want (Some hand) = refl

given_up_other : (hand : Option Hand) → hand_other (option_map given_up hand) ≡ true
given_up_other None = refl
given_up_other (Some hand) = given_other (has_response hand.parts) hand.item

-- What waits ----------------------------------------------------------------------------------------------------------

abbrev NoneSingle : List Item → Type 0
NoneSingle items = All (λ (item : Item). is_single item ≡ false) items

one_more : (items : List Item) (item : Item) → NoneSingle items → is_single item ≡ false
    → NoneSingle (items ++ item ∷ [])
one_more [] item h is = (is, tt)
one_more (first ∷ items) item h is = (h.0, one_more items item h.1 is)

read_now : (before after : List Item) (raw item : Item) → is_single item ≡ false
    → NoneSingle (before ++ raw ∷ after) → NoneSingle (before ++ item ∷ after)
read_now [] after raw item is h = (is, h.1)
read_now (first ∷ before) after raw item is h = (h.0, read_now before after raw item is h.1)

-- what is picked stood among what waited
picked : (gone : Bool) (items : List Item) (taken : Picked) → pick gone items ≡ Some taken → NoneSingle items
    → (is_single taken.item ≡ false) × NoneSingle taken.rest
picked gone [] taken is h = cc
picked gone (item ∷ items) taken is h =
    by_raw (cond gone false (is_raw item)) (pick gone items) (λ other are. picked gone items other are h.1) is
  where
    by_raw : (skips : Bool) (found : Option Picked)
        → ((other : Picked) → found ≡ Some other → (is_single other.item ≡ false) × NoneSingle other.rest)
        → cond skips (passed_by item found) (Some (record { item = item; rest = items })) ≡ Some taken
        → (is_single taken.item ≡ false) × NoneSingle taken.rest
    by_raw true None rest now = cc
    by_raw true (Some other) rest now =
        let one : record { item = other.item; rest = item ∷ other.rest } ≡ taken = cc in
        let (first, others) = rest other refl in
        subst (λ (taken : Picked). (is_single taken.item ≡ false) × NoneSingle taken.rest) one
        (first, (h.0, others))
    by_raw false found rest now =
        let one : record { item = item; rest = items } ≡ taken = cc in
        subst (λ (taken : Picked). (is_single taken.item ≡ false) × NoneSingle taken.rest) one h

-- A run ---------------------------------------------------------------------------------------------------------------

record AreOther (m : Machine) : Type 0 where
  waits : NoneSingle m.waiting
  hand : hand_other m.hand ≡ true

abbrev IsWholeSaid : Option Message → Type 0
IsWholeSaid None = Unit {0}
IsWholeSaid (Some message) = IsWhole message

hand_on : (m next : Machine) (said : Option Message) → AreOther m → Moves m said next → hand_other next.hand ≡ true
hand_on m next said h (Moves.begins taken free none is) =
    begun_other m.state taken.item (picked (is_gone m.state.phase) m.waiting taken is h.waits).0
hand_on m next said h (Moves.drops free is none) = refl
hand_on m next said h (Moves.responds free at is) = behind h.hand at
hand_on m next said h (Moves.finds {rest = rest} {lookup} found free at needs done) =
    both_pass is_other (finished lookup (result_of found) m.state) rest
    (finished_other lookup (result_of found) m.state) (behind h.hand at)
hand_on m next said h (Moves.passes_over free at why) = behind h.hand at
hand_on m next said h (Moves.tells free at) = behind h.hand at
hand_on m next said h (Moves.sends free at near) = behind h.hand at
hand_on m next said h (Moves.updates free at due near) = in_front h.hand at
hand_on m next said h (Moves.notes free at) = behind h.hand at
hand_on m next said h (Moves.unfolds {hand} {choice} {rest} free at) =
    chosen_other choice m.state hand rest (behind h.hand at)
hand_on m next said h (Moves.queues lacking held) = ap hand_other (sym held) ∙ h.hand
hand_on m next said h (Moves.asks {want = want} queued room held are) = asked_other want m.hand ∙ h.hand
hand_on m next said h (Moves.answers {question} {replied} held waits reply stays) =
    replied_other (a_question question) replied m.hand ∙ h.hand
hand_on m next said h (Moves.replies {effect} {replied} held flying reply stays) =
    replied_other (an_effect effect) replied m.hand ∙ h.hand
hand_on m next said h (Moves.loses late near why) = given_up_other m.hand
hand_on m next said h _ = h.hand

waits_on : (m next : Machine) (said : Option Message) → AreOther m → IsWholeSaid said → Moves m said next
    → NoneSingle next.waiting
waits_on m next said h is (Moves.begins taken free none found) =
    (picked (is_gone m.state.phase) m.waiting taken found h.waits).1
waits_on m next said h is (Moves.hears {request} read is_open) = one_more m.waiting (a_request request) h.waits refl
waits_on m next said h is (Moves.comes {at} {composite} read sized taken) =
    one_more m.waiting (a_composite at composite) h.waits is
waits_on m next said h is (Moves.keeps {at} {body} none) = one_more m.waiting (a_raw at body) h.waits refl
waits_on m next said h is (Moves.reads {at} {body} {composite} before after read are none taken) =
    read_now before after (a_raw at body) (a_composite at composite) is
    (subst (λ (items : List Item). NoneSingle items) are h.waits)
waits_on m next said h is (Moves.loses late near why) = one_more m.waiting target_end h.waits refl
waits_on m next said h is _ = h.waits

-- all but the last, and the last
parted : (messages : List Message) (message : Message) → NoneSuspendsOne (messages ++ message ∷ [])
    → NoneSuspendsOne messages × IsWhole message
parted [] message h = (tt, h.0)
parted (first ∷ messages) message h = let (others, last) = parted messages message h.1 in ((h.0, others), last)

parted_said : (messages : List Message) (said : Option Message) → NoneSuspendsOne (with_said messages said)
    → NoneSuspendsOne messages × IsWholeSaid said
parted_said messages None h = (h, tt)
parted_said messages (Some message) h = parted messages message h

are_other : {messages : List Message} {m : Machine} → Run messages m → NoneSuspendsOne messages → AreOther m
are_other r =
    by_moves {Holds = λ (messages : List Message) (m : Machine). NoneSuspendsOne messages → AreOther m}
    (record {
      starts = λ none. record { waits = tt; hand = refl };
      moves = λ messages m next said h moved none.
          let (before, last) = parted_said messages said none in
          let o = h before in
          record { waits = waits_on m next said o last moved; hand = hand_on m next said o moved };
      queues = λ messages m hand queue may h none.
          let o = h none in record { waits = o.waits; hand = o.hand };
    }) r

front_other : (hand : Option Hand) (at : ℕ) → hand_other hand ≡ true
    → finish_now hand ≡ Some (finish_one_thread at) → ⊥
front_other None at other is = cc
front_other (Some hand) at other is = not_in_front hand.parts at other is

-- the end for a single thread is never due
pub never_for_one : {messages : List Message} {m : Machine} (id_pending : Bool) (at : ℕ) → Run messages m
    → NoneSuspendsOne messages → (due id_pending m).act ≡ Act.Over (finish_one_thread at) → ⊥
never_for_one {m = m} id_pending at r none is =
    front_other m.hand at (are_other r none).hand (over_in_front id_pending m (finish_one_thread at) is)
