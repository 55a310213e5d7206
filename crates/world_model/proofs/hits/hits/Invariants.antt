use Rattle.std.proofs.Common.{◌≡◌, drop, map}
use Rattle.std.specs.Prelude.{filter, fold}
use Rattle.std.specs.BTreeSet.{insert_key}
use Rattle.world_model.specs.Emitting.{hit_of, matches, unasked}
use Rattle.world_model.proofs.HitLaws.{by_number}
use Rattle.world_model.proofs.hits.hits.Given as goal

-- the requests that are matched are those found so far with those among the requests that are left
abbrev pub invariant-loop-request : goal.invariant-loop-request
invariant-loop-request l =
    fold (insert_key by_number) l.those.items
    (map hit_of (filter (matches l.world l.happened) (drop l.request-index l.requests)))
    ≡ fold (insert_key by_number) (unasked l.happened)
    (map hit_of (filter (matches l.world l.happened) l.requests))
