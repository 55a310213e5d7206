-- Replies to the effect of an item, and the request that waits for its response.
use Rattle.std.specs.Prelude.{◌≡◌, ◌∷◌, Bool, false, cond, List, [], Option, None, Some}
use Rattle.dap_messages.specs.declared.requests.Request.{Request}
use Rattle.jdwp_commands.specs.declared.asked.Replied.{Replied}
use Rattle.machine_model.specs.Replying.{done_by, is_leaving}
use Rattle.machine_model.specs.State.{State, is_none}
use Rattle.machine_model.specs.declared.acts.Doing.{Doing}
use Rattle.machine_model.specs.declared.acts.Effect.{Effect}
use Rattle.machine_model.specs.declared.acts.TargetCommand.TheVariants.{Effect as an_effect}

-- This effect was sent last, and its reply isn't there.
abbrev pub IsInFlight : Effect → Option Doing → Type 0
IsInFlight effect doing = doing ≡ Some (record { effect = effect; reply = None })

-- the effect that was sent last leaves the target, whether its reply is there or not
abbrev pub last_leaves : Option Doing → Bool
last_leaves None = false
last_leaves (Some doing) = is_leaving (an_effect doing.effect)

-- the effect in flight has this reply
abbrev pub doing_replied : Replied → Option Doing → Option Doing
doing_replied replied None = None
doing_replied replied (Some doing) =
    cond (is_none doing.reply) (Some (record { effect = doing.effect; reply = Some replied })) (Some doing)

-- what is known once the effect in flight is replied to
abbrev pub state_replied : Option Doing → Replied → State → State
state_replied None replied state = state
state_replied (Some doing) replied state = cond (is_none doing.reply) (done_by doing.effect replied state) state

-- the request, where there is one
abbrev pub alone : Option Request → List Request
alone None = []
alone (Some request) = request ∷ []
