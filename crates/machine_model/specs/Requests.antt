-- Event requests, as the machine sees them: which change is due, and what a reply makes of it (JDWP, EventRequest
-- command set, Set and Clear).
use Rattle.std.specs.Prelude.{ℕ, Option, None, Some, option_map}
use Rattle.jdwp_commands.specs.declared.answer.Answer.TheVariants as answers
use Rattle.machine_model.specs.Names.{Clear, Does, Effect, Replied, Set, an_answer, an_error}
use Rattle.jdwp_commands.specs.declared.effect.Effect.{Effect as WireEffect}
use Rattle.jdwp_commands.specs.declared.effect.Effect.TheVariants as effects
use Rattle.wish_sets.specs.Requests.{kind_of_wish, modifiers_of_wish, policy_of_wish}
pub use Rattle.wish_sets.specs.Wishes.{Wishes, new_wishes}
use Rattle.wish_sets.specs.Wishes.{WishChange, cleared, clears, installed_as, next_change, refused_now, sets}
use Rattle.wish_sets.specs.declared.wish.Wish.{Wish}

-- the effect of a change
abbrev pub effect_of : WishChange → Effect
effect_of (sets wish) = Set wish
effect_of (clears one) = Clear one.wish one.request

-- the effect that is due: what isn't wished any more is cleared first, then what is wished is set
abbrev pub effect_due : Wishes → Option Effect
effect_due wishes = option_map effect_of (next_change wishes)

-- the id of the event request, where the reply gives one
abbrev pub request_in : Replied → Option ℕ
request_in (an_answer (answers.Set request)) = Some request
request_in _ = None

-- a wish is installed under the id that was answered, or was refused
abbrev pub set_to : Option ℕ → Wish → Wishes → Wishes
set_to (Some request) wish wishes = installed_as request wish wishes
set_to None wish wishes = refused_now wish wishes

-- an error clears nothing
abbrev pub cleared_by : Replied → Wish → Wishes → Wishes
cleared_by (an_answer answer) wish wishes = cleared wish wishes
cleared_by (an_error code) wish wishes = wishes

-- what the reply to an effect makes of the event requests
abbrev pub wishes_after : Effect → Replied → Wishes → Wishes
wishes_after (Set wish) replied wishes = set_to (request_in replied) wish wishes
wishes_after (Clear wish request) replied wishes = cleared_by replied wish wishes
wishes_after (Does deed) replied wishes = wishes

-- The commands (JDWP, EventRequest command set) -----------------------------------------------------------------------

-- a wish is set by its kind, its suspend policy and its modifiers
abbrev pub set_of : Wish → WireEffect
set_of wish = effects.Set (kind_of_wish wish) (policy_of_wish wish) (modifiers_of_wish wish)

-- it is cleared by its kind and the id of its request
abbrev pub clear_of : Wish → ℕ → WireEffect
clear_of wish request = effects.Clear (kind_of_wish wish) request
