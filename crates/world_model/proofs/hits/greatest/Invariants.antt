use Rattle.std.proofs.Common.{◌≡◌, drop}
use Rattle.std.specs.Prelude.{fold}
use Rattle.world_model.specs.declared.hits.Hit.{Hit}
use Rattle.world_model.specs.Emitting.{greater, greatest}
use Rattle.world_model.proofs.hits.greatest.Given as goal

-- the greatest policy of all is that of those so far and of the requests that are left
abbrev pub invariant-loop-hit : goal.invariant-loop-hit
invariant-loop-hit l =
    fold (λ policy (hit : Hit). greater policy hit.policy) l.policy (drop l.hit-index l.those) ≡ greatest l.those
