use Rattle.std.proofs.Common.{◌≡◌, ◌++◌, drop}
use Rattle.std.specs.Prelude.{flat_map}
use Rattle.wish_sets.specs.Places.{list_places}
use Rattle.wish_sets.proofs.place.add_lists_places.Given as goal

-- the places of all lists are those found so far, and those of the lists that are left
abbrev pub invariant-loop-list : goal.invariant-loop-list
invariant-loop-list l =
    l.places ++ flat_map (list_places l.class l.facts) (drop l.list-index l.lists)
    ≡ l.fn.places ++ flat_map (list_places l.class l.facts) l.lists
