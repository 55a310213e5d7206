use Rattle.std.proofs.Common.{◌≡◌, [], drop}
use Rattle.std.specs.Prelude.{fold}
use Rattle.std.specs.BTreeSet.{insert_key}
use Rattle.wish_sets.specs.declared.wish.Wish.TheVariants as wishes
use Rattle.wish_sets.specs.Standing.{entries_of}
use Rattle.wish_sets.proofs.StandingLaws.{by_id}
use Rattle.wish_sets.proofs.standing.entries_at.Given as goal

-- the entries of all places are those found so far with those of the places that are left
abbrev pub invariant-loop-place : goal.invariant-loop-place
invariant-loop-place l =
    (fold (insert_key by_id) l.found.items (entries_of l.fn.at (drop l.place-index l.bound))
    ≡ fold (insert_key by_id) [] (entries_of l.fn.at l.bound)) × (l.wish ≡ wishes.Stop l.fn.at)
