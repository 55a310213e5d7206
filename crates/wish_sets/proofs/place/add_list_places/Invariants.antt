use Rattle.std.proofs.Common.{◌≡◌, ◌++◌, drop}
use Rattle.std.specs.Prelude.{flat_map}
use Rattle.wish_sets.specs.Places.{entry_places}
use Rattle.wish_sets.proofs.place.add_list_places.Given as goal

-- the places of all entries are those found so far, and those of the entries that are left
abbrev pub invariant-loop-entry : goal.invariant-loop-entry
invariant-loop-entry l =
    l.places ++ flat_map (entry_places l.class l.facts) (drop l.entry-index l.entries)
    ≡ l.fn.places ++ flat_map (entry_places l.class l.facts) l.entries
