-- What is wished is formed afresh: which wishes are listed, and the slots that they get.
use Rattle.std.specs.Prelude.{◌≡◌, ℕ, ◌+◌, ◌<◌, ◌^◌, Bool, true, false, List, [], ◌∷◌, map, filter, length, Option, Some, None}
use Rattle.std.specs.List.{list_any, AllByRecursion}
use Rattle.std.specs.List.Sorted.{IsStrictlySortedBy}
use Rattle.std.specs.Ordering.{match_ordering}
use Rattle.std.specs.declared.cmp.Ordering.{Ordering}
use Rattle.wish_sets.specs.declared.entry.FunctionEntry.{FunctionEntry}
use Rattle.wish_sets.specs.declared.entry.LineEntry.{LineEntry}
use Rattle.wish_sets.specs.declared.slot.Slot.{Slot}
use Rattle.wish_sets.specs.declared.wish.Wish.{Wish}
use Rattle.wish_sets.specs.declared.wish.Wish.TheVariants as wishes
use Rattle.wish_sets.specs.Kept.{is_sound}
use Rattle.wish_sets.specs.Names.{key_parts, has_class, package_named, package_name}
use Rattle.wish_sets.specs.Order.{has_wish, in_order, is_wish, wish_cmp, wish_rank}
use Rattle.wish_sets.specs.Slots.{wishes_in, requests_in, refusals_in, AreNumbered, AreFlagged, AreWithin}
use Rattle.wish_sets.specs.Wished.{has_entries, wished}
use Rattle.wish_sets.specs.Wishes.{Wishes, is_surplus}

-- the packages of sources whose list has an entry
abbrev pub list_watches : List (List ℕ × List LineEntry) → List Wish
list_watches lists =
    map (λ list. wishes.Watch (package_name (key_parts list.0).package_path)) (filter has_entries lists)

-- the packages of functions that name a class
abbrev pub function_watches : List FunctionEntry → List Wish
function_watches functions =
    map (λ entry. wishes.Watch (package_named entry.name)) (filter (λ entry. has_class entry.name) functions)

-- slots stand in wish order
abbrev pub by_wish : Slot → Slot → Ordering
by_wish a b = wish_cmp a.wish b.wish

-- the place at which a wish gets its slot, counted from a place, where it has none
abbrev pub new_place : ℕ → Wish → List Slot → Option ℕ
new_place place wish [] = Some place
new_place place wish (slot ∷ slots) =
    match_ordering (wish_cmp wish slot.wish) (Some place) None (new_place (place + 1) wish slots)

-- a wish has a slot
abbrev pub has_its_slot : List Slot → Wish → Bool
has_its_slot slots wish = list_any (λ slot. is_wish wish slot.wish) slots

-- What holds of slots that stand in order, none of them of exceptions or of steps.
pub record AreInOrder (slots : List Slot) : Type 0 where
  pub sorted : IsStrictlySortedBy wish_cmp (map (λ slot. slot.wish) slots)
  pub early : AllByRecursion (λ slot. wish_rank slot.wish < 4) slots
  pub sound : AllByRecursion (λ slot. is_sound slot ≡ true) slots
  pub counted : length slots + 5 < 2 ^ 31

-- Slots were added, of wishes that no entry wishes yet and that neither stand nor were refused: nothing else changes.
pub record IsWider (old new : List Slot) : Type 0 where
  pub wishes : wishes_in new ≡ wishes_in old
  pub requests : requests_in new ≡ requests_in old
  pub refusals : refusals_in new ≡ refusals_in old
  pub kept : (wish : Wish) → has_its_slot old wish ≡ true → has_its_slot new wish ≡ true
  pub numbers : (number : Wish → ℕ) → ((wish : Wish) → has_its_slot old wish ≡ false → number wish ≡ 0)
      → AreNumbered number old → AreNumbered number new
  pub flags : AreFlagged old → AreFlagged new
  pub within : (wish : Wish) (most : ℕ) → AreWithin wish most old → AreWithin wish most new
  pub in_order : AreInOrder new

-- Slots say which of these wishes are wished: each of them, and no others.
pub record AreFormed (those : List Wish) (old new : List Slot) : Type 0 where
  pub wishes : wishes_in new ≡ in_order those
  pub requests : requests_in new ≡ requests_in old
  pub refusals : refusals_in new ≡ filter (has_wish those) (refusals_in old)
  pub in_order : AreInOrder new

-- how many are wished or installed: those that are wished, and those that are installed beside
abbrev pub wished_or_installed : Wishes → ℕ
wished_or_installed w =
    length (wished w.wanted) + length (filter (is_surplus (wished w.wanted)) w.installed)
