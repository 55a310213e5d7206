use Rattle.std.proofs.Common.{◌≡◌, drop}
use Rattle.wish_sets.specs.Standing.{id_place}
use Rattle.wish_sets.proofs.standing.id_place.Given as goal

-- the place among all is that among the entries that are left
abbrev pub invariant-loop-at : goal.invariant-loop-at
invariant-loop-at l = id_place l.at l.id (drop l.at l.found) ≡ id_place 0 l.id l.found
