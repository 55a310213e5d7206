use Rattle.std.proofs.Common.{◌≡◌, drop}
use Rattle.wish_sets.specs.Verified.{entry_place}
use Rattle.wish_sets.proofs.verified.entry_place.Given as goal

-- the place among all is that among the entries that are left
abbrev pub invariant-loop-at : goal.invariant-loop-at
invariant-loop-at l = entry_place l.at l.id (drop l.at l.found) ≡ entry_place 0 l.id l.found
