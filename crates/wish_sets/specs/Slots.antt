-- What is kept of each wish: how many entries wish it, whether it is wished, the id of its request, and whether it was
-- refused.
use Rattle.std.specs.Prelude.{◌≡◌, ◌≤◌, ℕ, ◌+◌, ◌&&◌, not, nat_lt, Bool, true, false, if◌then◌else◌, List, [], ◌∷◌}
use Rattle.std.specs.Prelude.{map, filter, filter_map, Option, Some, None, option_map, is_some, Result, Ok, Err}
use Rattle.std.specs.List.{AllByRecursion}
use Rattle.jdwp_events.specs.declared.kind.EventKind.{EventKind}
use Rattle.wish_sets.specs.declared.change.Change.{Change}
use Rattle.wish_sets.specs.declared.change.Change.TheVariants as changes
use Rattle.wish_sets.specs.declared.change.Settled.{Settled}
use Rattle.wish_sets.specs.declared.change.Settled.TheVariants as outcomes
use Rattle.wish_sets.specs.declared.slot.Slot.{Slot}
use Rattle.wish_sets.specs.declared.wish.Wish.{Wish}
use Rattle.wish_sets.specs.Order.{bit, is_wish}
use Rattle.wish_sets.specs.Wishes.{EventRequest, WishChange, clears, sets, is_request, owner_of}

-- those that are wished
abbrev pub wishes_in : List Slot → List Wish
wishes_in slots = map (λ slot. slot.wish) (filter (λ slot. slot.wished) slots)

-- its event request, where it is installed
abbrev pub request_in : Slot → Option EventRequest
request_in slot = option_map (λ request. record { wish = slot.wish; request = request }) slot.request

-- those that are installed
abbrev pub requests_in : List Slot → List EventRequest
requests_in slots = filter_map request_in slots

-- those that were refused
abbrev pub refusals_in : List Slot → List Wish
refusals_in slots = map (λ slot. slot.wish) (filter (λ slot. slot.refused) slots)

-- one that neither stands nor was refused
abbrev pub new_slot : Wish → Bool → Slot
new_slot wish wished =
    record { wish = wish; count = bit wished; wished = wished; request = None; refused = false }

-- it is wished from now on, or isn't
abbrev pub wanted_slot : Bool → Slot → Slot
wanted_slot wished slot = record slot { wished = wished; refused = slot.refused && wished }

-- those that pass a test are wished from now on, and no others
abbrev pub wanted_slots : (Wish → Bool) → List Slot → List Slot
wanted_slots test slots = map (λ slot. wanted_slot (test slot.wish) slot) slots

-- so many entries wish it: it is wished where there is one, and what isn't wished wasn't refused
abbrev pub counted_slot : ℕ → Slot → Slot
counted_slot number slot =
    record slot { count = number; wished = nat_lt 0 number; refused = slot.refused && nat_lt 0 number }

-- the number of each slot is that of its wish
abbrev pub AreNumbered : (Wish → ℕ) → List Slot → Type 0
AreNumbered number slots = AllByRecursion (λ slot. slot.count ≡ number slot.wish) slots

-- a slot is wished just where its number isn't 0
abbrev pub AreFlagged : List Slot → Type 0
AreFlagged slots = AllByRecursion (λ slot. slot.wished ≡ nat_lt 0 slot.count) slots

-- so many entries at most wish a wish that has a slot
abbrev pub AreWithin : Wish → ℕ → List Slot → Type 0
AreWithin wish most slots = AllByRecursion (λ slot. is_wish wish slot.wish ≡ true → slot.count ≤ most) slots

-- it has to be cleared: it is installed, and not wished
abbrev pub is_late : Slot → Bool
is_late slot = is_some slot.request && not slot.wished

-- it has to be set: it is wished, and neither installed nor refused
abbrev pub is_unset : Slot → Bool
is_unset slot = slot.wished && (not (is_some slot.request) && not slot.refused)

-- it waits for an outcome of this kind
abbrev pub awaits : Settled → Slot → Bool
awaits outcomes.Cleared slot = is_late slot
awaits (outcomes.Installed request) slot = is_unset slot
awaits (outcomes.Refused code) slot = is_unset slot

-- an outcome is marked
abbrev pub marked : Settled → Slot → Slot
marked outcomes.Cleared slot = record slot { request = None }
marked (outcomes.Installed request) slot = record slot { request = Some request }
marked (outcomes.Refused code) slot = record slot { refused = true }

-- the first that passes a test is changed
abbrev pub with_first : {A : Type 0} → (A → Bool) → (A → A) → List A → List A
with_first test change [] = []
with_first test change (x ∷ xs) = if test x then change x ∷ xs else x ∷ with_first test change xs

-- the change itself, and its place
abbrev pub change_shown : Change → WishChange
change_shown (changes.Clear place request wish) = clears (record { wish = wish.now; request = request })
change_shown (changes.Set place wish) = sets wish.now

abbrev pub place_shown : Change → ℕ
place_shown (changes.Clear place request wish) = place
place_shown (changes.Set place wish) = place

-- what follows from the first: nothing where it isn't installed; it is counted where it is wished, else cleared
abbrev pub late_by : Slot → Option ℕ → ℕ → Result ℕ (ℕ × WishChange) → Result ℕ (ℕ × WishChange)
    → Result ℕ (ℕ × WishChange)
late_by slot None place same next = same
late_by slot (Some request) place same next =
    if slot.wished then next else Err (place, clears (record { wish = slot.wish; request = request }))

-- the Clear of the first that has to be cleared, at its place among those that are installed, which are counted from a
-- place; else the place behind all of them
abbrev pub late_from : ℕ → List Slot → Result ℕ (ℕ × WishChange)
late_from place [] = Ok place
late_from place (slot ∷ slots) = late_by slot slot.request place (late_from place slots) (late_from (place + 1) slots)

-- the Set of the first that has to be set, at its place among those that are wished; else the place behind all of them
abbrev pub unset_from : ℕ → List Slot → Result ℕ (ℕ × WishChange)
unset_from place [] = Ok place
unset_from place (slot ∷ slots) =
    if is_unset slot then Err (place, sets slot.wish)
    else unset_from (if slot.wished then place + 1 else place) slots

-- the first that is installed, of this kind and under this request
abbrev pub owner_in : List Slot → EventKind → ℕ → Option Wish
owner_in slots kind request = owner_of (requests_in slots) kind request

-- a request is of this kind and has this id, where there is one
abbrev pub is_asked : EventKind → ℕ → Option EventRequest → Bool
is_asked kind request None = false
is_asked kind request (Some r) = is_request kind request r

-- one is installed, of this kind and under this request
abbrev pub is_owner : EventKind → ℕ → Slot → Bool
is_owner kind request slot = is_asked kind request (request_in slot)
