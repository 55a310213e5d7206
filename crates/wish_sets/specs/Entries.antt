-- How the entries of lists stand, and which of them a location has.
use Rattle.std.specs.Prelude.{ℕ, ◌==◌, ◌&&◌, Bool, if◌then◌else◌, List, [], ◌++◌, map, filter, flat_map, fold}
use Rattle.std.specs.Prelude.{Option, Some, None}
use Rattle.std.specs.BTreeSet.{insert_key}
use Rattle.std.specs.List.{list_any}
use Rattle.std.specs.Ordering.{nat_cmp, on}
use Rattle.jdwp_values.specs.declared.location.Location.{Location}
use Rattle.wish_sets.specs.declared.entry.EntryAt.{EntryAt}
use Rattle.wish_sets.specs.declared.entry.EntryState.{EntryState}
use Rattle.wish_sets.specs.declared.entry.FunctionEntry.{FunctionEntry}
use Rattle.wish_sets.specs.declared.entry.LineEntry.{LineEntry}
use Rattle.wish_sets.specs.declared.entry.VerifiedEntry.{VerifiedEntry}
use Rattle.wish_sets.specs.declared.entry.EntryState.TheVariants.{Verified, Refused, Waiting}
use Rattle.wish_sets.specs.declared.wish.Wish.{Wish}
use Rattle.wish_sets.specs.declared.wish.Wish.TheVariants as wishes
use Rattle.wish_sets.specs.Order.{has_wish, is_wish}
use Rattle.wish_sets.specs.Places.{Place, places}
use Rattle.wish_sets.specs.Wanted.{Wanted}
use Rattle.wish_sets.specs.Wishes.{Wishes, is_installed}

-- one of an entry's locations has a wish that passes a test
abbrev pub has_location : List Place → ℕ → (Wish → Bool) → Bool
has_location those id test = list_any (λ place. (place.id == id) && test (wishes.Stop place.at)) those

-- the first that applies: one of its locations is installed; one of them was refused; neither
abbrev pub entry_state : Wishes → ℕ → EntryState
entry_state w id =
    if has_location (places w.wanted) id (is_installed w.installed) then Verified
    else (if has_location (places w.wanted) id (has_wish w.refused) then Refused else Waiting)

-- the ids of all entries that are listed
abbrev pub entry_ids : Wanted → List ℕ
entry_ids wanted =
    flat_map (λ list. map (λ entry. entry.id) list.1) wanted.lists ++ map (λ entry. entry.id) wanted.functions

-- how an entry stands, by its id, where it is listed (DAP specification, Breakpoint, verified)
abbrev pub state_of : Wishes → ℕ → Option EntryState
state_of w id = if list_any (λ other. other == id) (entry_ids w.wanted) then Some (entry_state w id) else None

-- they, as often as they have it
abbrev pub all_entries_at : Wanted → Location → List EntryAt
all_entries_at wanted at =
    map (λ place. record { id = place.id; line = place.line })
    (filter (λ place. is_wish (wishes.Stop at) (wishes.Stop place.at)) (places wanted))

-- the entries that have a location, in order of their ids, each once
abbrev pub entries_at : Wanted → Location → List EntryAt
entries_at wanted at = fold (insert_key (on (λ entry. entry.id) nat_cmp)) [] (all_entries_at wanted at)

-- a breakpoint of a source, by its id and its line (DAP specification, Types, Breakpoint, line)
abbrev pub line_seen : LineEntry → VerifiedEntry
line_seen entry = record { id = entry.id; line = Some entry.line }

-- a breakpoint of a function, by its id alone (DAP specification, Types, Breakpoint, id)
abbrev pub function_seen : FunctionEntry → VerifiedEntry
function_seen entry = record { id = entry.id; line = None }

-- all entries that are listed: the breakpoints of sources, list by list, and then those of functions
abbrev pub all_entries : Wanted → List VerifiedEntry
all_entries wanted = flat_map (λ list. map line_seen list.1) wanted.lists ++ map function_seen wanted.functions

-- one of its locations is installed
abbrev pub is_verified : Wishes → VerifiedEntry → Bool
is_verified w entry = has_location (places w.wanted) entry.id (is_installed w.installed)

-- the entries that are verified, in order of their ids, each once (DAP specification, Types, Breakpoint, verified)
abbrev pub verified : Wishes → List VerifiedEntry
verified w =
    fold (insert_key (on (λ entry. entry.id) nat_cmp)) [] (filter (is_verified w) (all_entries w.wanted))
