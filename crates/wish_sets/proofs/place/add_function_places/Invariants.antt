use Rattle.std.proofs.Common.{◌≡◌, ◌++◌, ℕ, false, drop}
use Rattle.std.specs.Prelude.{map, filter_map}
use Rattle.jdwp_values.specs.declared.location.Location.{Location}
use Rattle.wish_sets.specs.declared.place.Place.{Place}
use Rattle.wish_sets.specs.Places.{method_location}
use Rattle.wish_sets.proofs.place.add_function_places.Given as goal

-- a location of a function
abbrev of_function : ℕ → Location → Place
of_function id at = record { id = id; line = false; at = at }

-- the places of all methods are those found so far, and those in the methods that are left
abbrev pub invariant-loop-method : goal.invariant-loop-method
invariant-loop-method l =
    l.places ++ map (of_function l.entry.id)
    (filter_map (method_location l.class l.facts l.name) (drop l.method-index l.facts.methods))
    ≡ l.fn.places ++ map (of_function l.entry.id) (filter_map (method_location l.class l.facts l.name) l.facts.methods)
