use Rattle.std.proofs.Common.{◌≡◌, ◌++◌, drop}
use Rattle.wish_sets.specs.Entries.{has_location}
use Rattle.wish_sets.specs.Order.{has_wish}
use Rattle.wish_sets.specs.Slots.{refusals_in}
use Rattle.wish_sets.proofs.standing.is_denied.Given as goal

-- it is so of all places where it is so of the places that are left
abbrev pub invariant-loop-place : goal.invariant-loop-place
invariant-loop-place l =
    has_location (drop l.place-index l.bound) l.id (has_wish (refusals_in (l.slots ++ l.fixed)))
    ≡ has_location l.bound l.id (has_wish (refusals_in (l.slots ++ l.fixed)))
