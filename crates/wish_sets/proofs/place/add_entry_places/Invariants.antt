use Rattle.std.proofs.Common.{◌≡◌, ◌++◌, ℕ, true, drop}
use Rattle.std.specs.Prelude.{map, filter_map}
use Rattle.jdwp_values.specs.declared.location.Location.{Location}
use Rattle.wish_sets.specs.declared.place.Place.{Place}
use Rattle.wish_sets.specs.Places.{line_location}
use Rattle.wish_sets.proofs.place.add_entry_places.Given as goal

-- a location of an entry
abbrev of_line : ℕ → Location → Place
of_line id at = record { id = id; line = true; at = at }

-- the places of all methods are those found so far, and those in the methods that are left
abbrev pub invariant-loop-method : goal.invariant-loop-method
invariant-loop-method l =
    l.places ++ map (of_line l.entry.id)
    (filter_map (line_location l.class l.facts l.entry.line) (drop l.method-index l.facts.methods))
    ≡ l.fn.places ++ map (of_line l.entry.id) (filter_map (line_location l.class l.facts l.entry.line) l.facts.methods)
