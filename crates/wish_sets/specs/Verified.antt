-- Which entries are verified, one after another.
use Rattle.std.specs.Prelude.{ℕ, ◌+◌, Bool, true, false, List, [], ◌∷◌, filter, fold, Option, Some, None}
use Rattle.std.specs.BTreeSet.{insert_key}
use Rattle.std.specs.Ordering.{match_ordering, nat_cmp, on}
use Rattle.wish_sets.specs.declared.entry.EntryState.{EntryState}
use Rattle.wish_sets.specs.declared.entry.EntryState.TheVariants.{Verified, Refused, Waiting}
use Rattle.wish_sets.specs.declared.entry.VerifiedEntry.{VerifiedEntry}
use Rattle.wish_sets.specs.Entries.{state_of}
use Rattle.wish_sets.specs.Wishes.{Wishes}

-- an entry is listed, and is verified
abbrev pub is_sure : Option EntryState → Bool
is_sure None = false
is_sure (Some Verified) = true
is_sure (Some Refused) = false
is_sure (Some Waiting) = false

-- the place at which an entry goes by its id, counted from a place, where none has it
abbrev pub entry_place : ℕ → ℕ → List VerifiedEntry → Option ℕ
entry_place place id [] = Some place
entry_place place id (entry ∷ entries) =
    match_ordering (nat_cmp id entry.id) (Some place) None (entry_place (place + 1) id entries)

-- those of some entries that are verified take their places among others by their ids
abbrev pub with_verified : Wishes → List VerifiedEntry → List VerifiedEntry → List VerifiedEntry
with_verified w entries found =
    fold (insert_key (on (λ entry. entry.id) nat_cmp)) found (filter (λ entry. is_sure (state_of w entry.id)) entries)
