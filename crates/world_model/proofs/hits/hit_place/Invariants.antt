use Rattle.std.proofs.Common.{◌≡◌, drop}
use Rattle.world_model.specs.Emitting.{hit_place}
use Rattle.world_model.proofs.hits.hit_place.Given as goal

-- the place among all is that among the requests that are left
abbrev pub invariant-loop-at : goal.invariant-loop-at
invariant-loop-at l = hit_place l.at l.request (drop l.at l.those) ≡ hit_place 0 l.request l.those
