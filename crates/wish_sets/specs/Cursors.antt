-- How far slots were gone through, so that no change is looked for where there is none.
use Rattle.std.specs.Prelude.{◌≡◌, ℕ, zero, suc, ◌+◌, Bool, false, if◌then◌else◌, List, [], ◌∷◌, Option, Some, None}
use Rattle.std.specs.Prelude.{is_some, nat_lt, ⊤}
use Rattle.wish_sets.specs.declared.change.Settled.{Settled}
use Rattle.wish_sets.specs.declared.change.Settled.TheVariants as outcomes
use Rattle.wish_sets.specs.declared.cursor.Cursor.{Cursor}
use Rattle.wish_sets.specs.declared.slot.Slot.{Slot}
use Rattle.wish_sets.specs.Slots.{is_late, is_unset}

-- there are so many slots, and none of them passes a test
abbrev pub NoneBefore : (Slot → Bool) → ℕ → List Slot → Type 0
NoneBefore stops zero slots = ⊤
NoneBefore stops (suc k) [] = ⊥
NoneBefore stops (suc k) (slot ∷ slots) = (stops slot ≡ false) × NoneBefore stops k slots

-- how many of the first ones pass a test
abbrev pub counted : (Slot → Bool) → ℕ → List Slot → ℕ
counted counts zero slots = 0
counted counts (suc k) [] = 0
counted counts (suc k) (slot ∷ slots) =
    if counts slot then suc (counted counts k slots) else counted counts k slots

-- one is installed
abbrev pub is_held : Slot → Bool
is_held slot = is_some slot.request

-- one is wished
abbrev pub is_wanted : Slot → Bool
is_wanted slot = slot.wished

-- Before a place no slot has to be cleared, and before another none has to be set: those that are installed before the
-- first, and those that are wished before the second, are counted.
pub record IsPast (cursor : Cursor) (slots : List Slot) : Type 0 where
  pub late : NoneBefore is_late cursor.late slots
  pub installed : cursor.installed ≡ counted is_held cursor.late slots
  pub unset : NoneBefore is_unset cursor.unset slots
  pub wished : cursor.wished ≡ counted is_wanted cursor.unset slots

-- the place from which on a slot may wait for an outcome
abbrev pub start_of : Settled → Cursor → ℕ
start_of outcomes.Cleared cursor = cursor.late
start_of (outcomes.Installed request) cursor = cursor.unset
start_of (outcomes.Refused code) cursor = cursor.unset

-- one more is installed, where it was found
abbrev pub with_installed : Option ℕ → Cursor → Cursor
with_installed None cursor = cursor
with_installed (Some place) cursor =
    if nat_lt place cursor.late then record cursor { installed = cursor.installed + 1 } else cursor

-- an outcome was marked, where a slot that waits for it was found
abbrev pub cursor_after : Settled → Option ℕ → Cursor → Cursor
cursor_after outcomes.Cleared found cursor = cursor
cursor_after (outcomes.Installed request) found cursor = with_installed found cursor
cursor_after (outcomes.Refused code) found cursor = cursor
