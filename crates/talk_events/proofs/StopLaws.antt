-- The first of the hits and of the strikes, as the code takes them.
use Rattle.std.proofs.Common.{◌≡◌, List, [], ◌∷◌, refl}
use Rattle.std.specs.Prelude.{slice_get}
use Rattle.machine_model.specs.Stops.{first_of, first_strike}
use Rattle.machine_model.specs.declared.parts.Halt.{Halt}
use Rattle.machine_model.specs.declared.parts.Strike.{Strike}

pub first_is : (hits : List Halt) → slice_get hits 0 ≡ first_of hits
first_is [] = refl
first_is (hit ∷ hits) = refl

pub first_strike_is : (strikes : List Strike) → slice_get strikes 0 ≡ first_strike strikes
first_strike_is [] = refl
first_strike_is (strike ∷ strikes) = refl
