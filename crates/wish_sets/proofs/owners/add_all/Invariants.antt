use Rattle.std.proofs.Common.{ℕ, ◌<◌}
use Rattle.wish_sets.specs.Owners.{IsFound}
use Rattle.wish_sets.proofs.owners.add_all.Given as goal

-- the slots so far are found
abbrev pub invariant-loop-at : goal.invariant-loop-at
invariant-loop-at l = (place : ℕ) → place < l.at → IsFound l.places l.slots place
