use Rattle.std.proofs.Common.{◌≡◌, ◌++◌, drop}
use Rattle.std.specs.Prelude.{flat_map}
use Rattle.wish_sets.specs.Kept.{wanted_by}
use Rattle.wish_sets.specs.Places.{places_in, places}
use Rattle.wish_sets.proofs.place.places.Given as goal

-- all places are those found so far, and those in the classes that are left
abbrev pub invariant-loop-at : goal.invariant-loop-at
invariant-loop-at l =
    l.found ++ flat_map (places_in (wanted_by l.wants)) (drop l.at l.wants.classes.entries)
    ≡ places (wanted_by l.wants)
