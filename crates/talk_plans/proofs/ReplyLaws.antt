-- What the reply to an effect in flight makes of the talk, and of what is known.
use Rattle.std.proofs.Common.{◌≡◌, Bool, true, false, cond, Option, Some, None, refl, ap}
use Rattle.jdwp_commands.specs.declared.asked.Replied.{Replied}
use Rattle.machine_model.specs.Replying.{done_by, hand_replied}
use Rattle.machine_model.specs.State.{Hand, State, is_flying, is_none}
use Rattle.machine_model.specs.declared.acts.Doing.{Doing}
use Rattle.machine_model.specs.declared.acts.Effect.{Effect}
use Rattle.machine_model.specs.declared.acts.TargetCommand.TheVariants.{Effect as an_effect}
use Rattle.talk_plans.specs.Replies.{IsInFlight, doing_replied, state_replied}
use Rattle.talk_plans.specs.Talking.{AreSized}

-- the effect in flight is replied to
pub hand_done : (hand : Hand) (replied : Replied) (effect : Effect) → IsInFlight effect hand.effect
    → record hand { effect = doing_replied replied hand.effect } ≡ hand_replied (an_effect effect) replied hand
hand_done hand replied effect is =
    ap (λ (doing : Option Doing). record hand { effect = doing_replied replied doing }) is

pub state_done : (doing : Option Doing) (replied : Replied) (state : State) (effect : Effect)
    → IsInFlight effect doing → state_replied doing replied state ≡ done_by effect replied state
state_done doing replied state effect is = ap (λ (one : Option Doing). state_replied one replied state) is

-- where none is in flight nothing changes
pub hand_same : (replied : Replied) (doing : Option Doing) → is_flying doing ≡ false
    → doing_replied replied doing ≡ doing
hand_same replied None is = refl
hand_same replied (Some doing) is = rw is refl

pub state_same : (doing : Option Doing) (replied : Replied) (state : State) → is_flying doing ≡ false
    → state_replied doing replied state ≡ state
state_same None replied state is = refl
state_same (Some doing) replied state is = rw is refl

pub done_sized : (doing : Option Doing) (replied : Replied) (state : State) (hand : Hand) (later : Option Doing)
    → AreSized state hand → AreSized (state_replied doing replied state) (record hand { effect = later })
done_sized None replied state hand later sized = sized
done_sized (Some doing) replied state hand later sized = by_reply (is_none doing.reply)
  where
    by_reply : (none : Bool)
        → AreSized (cond none (done_by doing.effect replied state) state) (record hand { effect = later })
    by_reply true = sized
    by_reply false = sized
