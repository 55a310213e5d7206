use Rattle.std.proofs.Common.{◌≡◌, ◌++◌, drop}
use Rattle.std.specs.Prelude.{flat_map}
use Rattle.wish_sets.specs.Counts.{function_places_in}
use Rattle.wish_sets.proofs.place.functions_places.Given as goal

-- all places are those found so far, and those in the classes that are left
abbrev pub invariant-loop-at : goal.invariant-loop-at
invariant-loop-at l =
    l.found ++ flat_map (function_places_in l.functions) (drop l.at l.classes.entries) ≡ flat_map (function_places_in l.functions) l.classes.entries
