-- Effects that are sent (JDWP, EventRequest command set).
use Rattle.std.specs.Prelude.{◌≡◌, Some}
use Rattle.machine_model.specs.Requests.{effect_due}
use Rattle.machine_model.specs.declared.acts.Effect.{Effect}
use Rattle.machine_model.specs.declared.acts.Effect.TheVariants.{Clear, Does, Set}
use Rattle.wish_sets.specs.Wishes.{Wishes}

-- The effect is no change of event requests, or the one that is due.
abbrev pub IsNext : Effect → Wishes → Type 0
IsNext (Does deed) wishes = Unit {0}
IsNext (Set wish) wishes = effect_due wishes ≡ Some (Set wish)
IsNext (Clear wish request) wishes = effect_due wishes ≡ Some (Clear wish request)
