-- How entries stand, by the places at which they are bound.
use Rattle.std.specs.Prelude.{ℕ, ◌+◌, if◌then◌else◌, List, [], ◌∷◌, map, filter, Option, Some, None}
use Rattle.std.specs.List.Sorted.{IsStrictlySortedBy}
use Rattle.std.specs.Ordering.{match_ordering, nat_cmp}
use Rattle.jdwp_values.specs.declared.location.Location.{Location}
use Rattle.wish_sets.specs.declared.entry.EntryAt.{EntryAt}
use Rattle.wish_sets.specs.declared.wish.Wish.TheVariants as wishes
use Rattle.wish_sets.specs.declared.wish.Wish.{Wish}
use Rattle.wish_sets.specs.declared.entry.EntryState.{EntryState}
use Rattle.wish_sets.specs.declared.entry.EntryState.TheVariants.{Verified, Refused, Waiting}
use Rattle.wish_sets.specs.Entries.{has_location}
use Rattle.wish_sets.specs.declared.slot.Slot.{Slot}
use Rattle.wish_sets.specs.Order.{has_wish, is_wish, wish_cmp}
use Rattle.wish_sets.specs.Wishes.{EventRequest, is_installed}
use Rattle.wish_sets.specs.Places.{Place}

-- slots stand in wish order, and each wish has one at most
abbrev pub AreSorted : List Slot → Type 0
AreSorted slots = IsStrictlySortedBy wish_cmp (map (λ slot. slot.wish) slots)

-- the entries of places that have a location, as often as they have it
abbrev pub entries_of : Location → List Place → List EntryAt
entries_of at those =
    map (λ place. record { id = place.id; line = place.line })
    (filter (λ place. is_wish (wishes.Stop at) (wishes.Stop place.at)) those)

-- the place at which an entry goes by its id, counted from a place, where none has it
abbrev pub id_place : ℕ → ℕ → List EntryAt → Option ℕ
id_place place id [] = Some place
id_place place id (entry ∷ entries) =
    match_ordering (nat_cmp id entry.id) (Some place) None (id_place (place + 1) id entries)

-- the first that applies: one of an entry's locations is installed; one of them was refused; neither
abbrev pub state_by : List Place → ℕ → List EventRequest → List Wish → EntryState
state_by those id installed refused =
    if has_location those id (is_installed installed) then Verified
    else (if has_location those id (has_wish refused) then Refused else Waiting)
