-- What the talk in hand has next is what the machine has due.
use Rattle.std.proofs.Common.{◌≡◌, ℕ, Bool, true, false, List, Option, Some, None, Ok, Err, refl, sym, ap, ◌∙◌}
use Rattle.std.specs.Prelude.{IfOk, OnOk, Result}
use Rattle.jdwp_commands.specs.declared.asked.Asked.{Asked}
use Rattle.jdwp_commands.specs.declared.asked.Asked.TheVariants as commands
use Rattle.jdwp_commands.specs.declared.asked.Replied.{Replied}
use Rattle.machine_model.specs.Due.{can_read, due, due_as, is_full, next_item, pick}
use Rattle.machine_model.specs.Replying.{answered, ended_with, hand_replied, is_dead, is_leaving, pending_in}
use Rattle.machine_model.specs.Rows.{parts_of, taken}
use Rattle.machine_model.specs.State.{Hand, Machine, State, in_hand, is_gone}
use Rattle.bridge_core.specs.Moving.{IsFlight, StepsTo}
use Rattle.bridge_core.specs.Names.{Act, Effect, Item, Question, WireEffect, a_question, an_effect}
use Rattle.bridge_core.specs.Packets.{Replies}
use Rattle.talk_plans.specs.Talking.{act_of, hand_after, talk_due}
use Rattle.talk_plans.specs.declared.next.Next.{Next}
use Rattle.talk_plans.proofs.DueLaws.{item_is_due, talk_is_due}
use Rattle.wire_core.specs.declared.memory.NoMemory.{NoMemory}

-- the machine behind it, with this in hand
pub steps_so : (next : Next) (full : Bool) (state now : State) (talk : Hand) (held left : Option Hand) (m : Machine)
    → StepsTo next full state talk now held → ((later : Hand) → held ≡ Some later → left ≡ hand_after next later)
    → due_as (act_of next) (record m { state = now; hand = left }) ≡ talk_due full m state talk
steps_so next full state now talk held left m steps goes =
    ap (λ (hand : Option Hand). due_as (act_of next) (record m { state = now; hand = hand }))
    (goes steps.later steps.held_is) ∙ steps.is_due m

-- an item is begun, or none waits that can be
pub begins_none : (id_pending : Bool) (m : Machine) (waiting : List Item) → m.hand ≡ None → can_read m ≡ false
    → pick (is_gone m.state.phase) m.waiting ≡ None → waiting ≡ m.waiting
    → due_as Act.Waits (record m { waiting = waiting }) ≡ due id_pending m
begins_none id_pending m waiting none read picked same =
    ap (λ (items : List Item). due_as Act.Waits (record m { waiting = items })) same
    ∙ sym (item_is_due id_pending m none read ∙ ap (next_item m) picked)

pub begins_some : (id_pending : Bool) (m : Machine) (item : Item) (rest : List Item) (now : State) (talk : Hand)
    (held : Option Hand) → m.hand ≡ None → can_read m ≡ false
    → pick (is_gone m.state.phase) m.waiting ≡ Some (record { item = item; rest = rest })
    → now ≡ taken item m.state → talk ≡ in_hand item (parts_of m.state item) → held ≡ Some talk
    → due_as Act.Goes (record m { state = now; waiting = rest; hand = held }) ≡ due id_pending m
begins_some id_pending m item rest now talk held none read picked learns begun is =
    ap (λ (hand : Option Hand). due_as Act.Goes (record m { state = now; waiting = rest; hand = hand })) is
    ∙ ap (λ (t : Hand). due_as Act.Goes (record m { state = now; waiting = rest; hand = Some t })) begun
    ∙ ap (λ (s : State). due_as Act.Goes (record m {
      state = s;
      waiting = rest;
      hand = Some (in_hand item (parts_of m.state item));
    })) learns
    ∙ sym (item_is_due id_pending m none read ∙ ap (next_item m) picked)

-- the item in hand goes on
pub goes_on_so : (result : Result Next NoMemory) (id_pending : Bool) (m : Machine) (now : State) (held : Option Hand)
    (full : Bool) → (m.hand ≡ None → ⊥) → can_read m ≡ false → is_full id_pending m ≡ full
    → ((talk : Hand) (other : Machine) → m.hand ≡ Some talk
    → IfOk result (λ next. due_as (act_of next) (record other { state = now; hand = held })
    ≡ talk_due full other m.state talk))
    → IfOk result (λ next. due_as (act_of next) (record m { state = now; hand = held }) ≡ due id_pending m)
goes_on_so result id_pending m now held full some read is steps = by_hand m.hand refl
  where
    by_result : (result : Result Next NoMemory) (talk : Hand) → m.hand ≡ Some talk
        → IfOk result (λ next. due_as (act_of next) (record m { state = now; hand = held })
        ≡ talk_due full m m.state talk)
        → IfOk result (λ next. due_as (act_of next) (record m { state = now; hand = held }) ≡ due id_pending m)
    by_result (Ok next) talk at h =
        h ∙ ap (λ (f : Bool). talk_due f m m.state talk) (sym is) ∙ sym (talk_is_due id_pending m talk at read)
    by_result (Err refused) talk at h = tt

    by_hand : (hand : Option Hand) → m.hand ≡ hand
        → IfOk result (λ next. due_as (act_of next) (record m { state = now; hand = held }) ≡ due id_pending m)
    by_hand None at = absurd (some at)
    by_hand (Some talk) at = by_result result talk at (steps talk m at)

-- Replies -------------------------------------------------------------------------------------------------------------

-- the reply to an effect tells the target's end
pub ends_by_effect : {A : Type 0} (result : Result A NoMemory) (m new : Machine) (hand : Hand) (effect : Effect)
    (replied : Replied) (held : Option Hand) → IsFlight m hand effect → is_gone m.state.phase ≡ false
    → is_leaving (an_effect effect) ≡ false → is_dead replied ≡ true
    → held ≡ Some (hand_replied (an_effect effect) replied hand)
    → OnOk result (new ≡ ended_with (pending_in held) (record m { hand = held }))
    → OnOk result (new ≡ answered m (an_effect effect) replied)
ends_by_effect (Err refused) m new hand effect replied held flight near leaves dead is h = tt
ends_by_effect (Ok a) m new hand effect replied held flight near leaves dead is h =
    h ∙ ap (λ (one : Option Hand). ended_with (pending_in one) (record m { hand = one })) is
    ∙ rw (near, leaves, dead, flight.held) refl

pub replies_question : {A : Type 0} (result : Result A NoMemory) (m next : Machine) (place : ℕ) (asked : Asked)
    (question : Question) (replied : Replied) → is_gone m.state.phase ≡ false → asked ≡ commands.Question question
    → ((hand : Hand) → m.hand ≡ Some hand → OnOk result (next ≡ answered m (a_question question) replied))
    → OnOk result (Replies m place asked replied next)
replies_question (Err refused) m next place asked question replied near is h = tt
replies_question (Ok a) m next place asked question replied near is h = Replies.question question near is h

pub replies_effect : {A : Type 0} (result : Result A NoMemory) (m next : Machine) (place : ℕ) (asked : Asked)
    (effect : WireEffect) (replied : Replied) → is_gone m.state.phase ≡ false → asked ≡ commands.Effect effect
    → ((hand : Hand) (of : Effect) → IsFlight m hand of → OnOk result (next ≡ answered m (an_effect of) replied))
    → OnOk result (Replies m place asked replied next)
replies_effect (Err refused) m next place asked effect replied near is h = tt
replies_effect (Ok a) m next place asked effect replied near is h = Replies.effect effect near is h
