-- A log with room that is kept.
use Rattle.std.specs.Prelude.{ℕ, ◌≡◌, ◌+◌, ◌≤◌, List, vec_len, vec_capacity}
use Rattle.wire_core.specs.declared.outside.Entry.{Entry}
use Rattle.wire_core.specs.declared.log.Log.{Log}

-- all entries, in order
abbrev pub entries : Log → List Entry
entries log = log.entries.items

-- so many entries can be added without memory
abbrev pub HasRoom : Log → ℕ → Type 0
HasRoom log room = vec_len log.entries + room ≤ vec_capacity log.entries

-- the room is as before but for so many entries, or more
abbrev pub HasRoomLeft : Log → Log → ℕ → Type 0
HasRoomLeft old new added =
    (vec_len new.entries ≡ vec_len old.entries + added) × (vec_capacity old.entries ≤ vec_capacity new.entries)
