-- Which slot a request was installed in, by its kind and its id.
use Rattle.std.specs.Prelude.{◌≡◌, ℕ, ◌+◌, ◌*◌, ◌^◌, nat_eq, not, Bool, true, List, Option, Some, None, slice_get}
use Rattle.indexmap.specs.IndexMap.{IndexMap, get}
use Rattle.jdwp_events.specs.Kinds.{byte_of_kind}
use Rattle.jdwp_events.specs.declared.kind.EventKind.{EventKind}
use Rattle.wish_sets.specs.declared.owners.Owners.{Owners}
use Rattle.wish_sets.specs.declared.slot.Slot.{Slot}
use Rattle.wish_sets.specs.Requests.{kind_of_wish}

-- the key of a request: its kind, and its id (JDWP, EventRequest command set, Clear, eventKind and requestID)
abbrev pub request_key : EventKind → ℕ → ℕ
request_key kind request = byte_of_kind kind * 2 ^ 32 + request

-- the slot at a place, if it is installed, is found by its request
abbrev pub IsFound : {S : Type 0} → IndexMap ℕ ℕ S → List Slot → ℕ → Type 0
IsFound places slots place =
    (slot : Slot) (request : ℕ) → slice_get slots place ≡ Some slot → slot.request ≡ Some request
    → get nat_eq places (request_key (kind_of_wish slot.wish) request) ≡ Some place

-- each slot that is installed is found, where this says anything
abbrev pub AreOwned : Owners → List Slot → Type 0
AreOwned owners slots = owners.whole ≡ true → (place : ℕ) → IsFound owners.places slots place

-- a place is not the one that was changed
abbrev pub is_other : Option ℕ → ℕ → Bool
is_other None place = true
is_other (Some at) place = not (nat_eq place at)
