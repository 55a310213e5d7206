use Rattle.std.proofs.Common.{◌≡◌, ◌++◌, drop}
use Rattle.std.specs.Prelude.{flat_map}
use Rattle.wish_sets.specs.Places.{function_places}
use Rattle.wish_sets.proofs.place.add_functions_places.Given as goal

-- the places of all functions are those found so far, and those of the functions that are left
abbrev pub invariant-loop-entry : goal.invariant-loop-entry
invariant-loop-entry l =
    l.places ++ flat_map (function_places l.class l.facts) (drop l.entry-index l.functions)
    ≡ l.fn.places ++ flat_map (function_places l.class l.facts) l.functions
