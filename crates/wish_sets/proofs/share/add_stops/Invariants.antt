use Rattle.std.proofs.Common.{◌≡◌, ◌++◌, drop}
use Rattle.std.specs.Prelude.{map}
use Rattle.wish_sets.specs.declared.place.Place.{Place}
use Rattle.wish_sets.specs.declared.wish.Wish.{Wish}
use Rattle.wish_sets.specs.declared.wish.Wish.TheVariants as wishes
use Rattle.wish_sets.proofs.share.add_stops.Given as goal

-- a breakpoint
abbrev stop : Place → Wish
stop place = wishes.Stop place.at

-- the breakpoints at all places are those found so far, and those at the places that are left
abbrev pub invariant-loop-place : goal.invariant-loop-place
invariant-loop-place l = l.found.items ++ map stop (drop l.place-index l.places) ≡ l.fn.found.items ++ map stop l.places
