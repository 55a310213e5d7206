-- The change that is due, by the effect that it is.
use Rattle.std.proofs.Common.{◌≡◌, ℕ, Option, Some, None, option_map, refl, subst}
use Rattle.machine_model.specs.Requests.{effect_due, effect_of}
use Rattle.machine_model.specs.declared.acts.Effect.TheVariants.{Clear, Set}
use Rattle.wish_sets.specs.Wishes.{Wishes, WishChange, clears, next_change, sets}
use Rattle.wish_sets.specs.declared.wish.Wish.{Wish}

pub set_is : (wishes : Wishes) (wish : Wish) → effect_due wishes ≡ Some (Set wish)
    → next_change wishes ≡ Some (sets wish)
set_is wishes wish is = by_change (next_change wishes) is
  where
    by_change : (change : Option WishChange) → option_map effect_of change ≡ Some (Set wish) → change ≡ Some (sets wish)
    by_change None is = cc
    by_change (Some (clears one)) is = cc
    by_change (Some (sets other)) is = cc

pub clear_is : (wishes : Wishes) (wish : Wish) (request : ℕ) → effect_due wishes ≡ Some (Clear wish request)
    → next_change wishes ≡ Some (clears (record { wish = wish; request = request }))
clear_is wishes wish request is = by_change (next_change wishes) is
  where
    by_change : (change : Option WishChange) → option_map effect_of change ≡ Some (Clear wish request)
        → change ≡ Some (clears (record { wish = wish; request = request }))
    by_change None is = cc
    by_change (Some (clears one)) is =
        let same_wish : one.wish ≡ wish = cc in
        let same_request : one.request ≡ request = cc in
        subst (λ w. Some (clears one) ≡ Some (clears (record { wish = w; request = request }))) same_wish
        (subst (λ r. Some (clears one) ≡ Some (clears (record { wish = one.wish; request = r }))) same_request refl)
    by_change (Some (sets other)) is = cc
