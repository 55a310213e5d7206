-- Values under keys: one is put, and taken back.
use Rattle.std.specs.Prelude.{ℕ, Bool, zero, suc, ◌-◌, List, [], ◌∷◌, ◌++◌, length, take, Option, Some, None}
use Rattle.std.specs.Map.{set_value}
use Rattle.class_tables.specs.Facts.{same_class}
use Rattle.class_tables.specs.Lookups.{Lookups}
use Rattle.jdwp_values.specs.declared.id.ClassId.{ClassId}
use Rattle.wish_sets.specs.declared.facts.KnownClass.{KnownClass}
use Rattle.wish_sets.specs.declared.known.Replaced.{Replaced}
use Rattle.wish_sets.specs.Wanted.{put_known, class_found}

-- the value at a place
abbrev pub with_value : {K V : Type 0} → ℕ → V → List (K × V) → List (K × V)
with_value k value [] = []
with_value zero value (entry ∷ entries) = (entry.0, value) ∷ entries
with_value (suc k) value (entry ∷ entries) = entry ∷ with_value k value entries

-- a value is put at the place of its key, else behind all with it
abbrev pub put_at : {K V : Type 0} → Option ℕ → K → V → List (K × V) → List (K × V)
put_at None key value entries = entries ++ (key, value) ∷ []
put_at (Some k) key value entries = with_value k value entries

-- what was put is taken back
abbrev pub taken_back : {K V : Type 0} → Option ℕ → Option V → List (K × V) → List (K × V)
taken_back (Some k) (Some before) entries = with_value k before entries
taken_back at before entries = take (length entries - 1) entries

-- what was put under a key is taken back: the value that was there stands again, or the last entry goes
abbrev pub put_back : {K V : Type 0} → (K → K → Bool) → K → Option V → List (K × V) → List (K × V)
put_back same key None entries = take (length entries - 1) entries
put_back same key (Some before) entries = set_value (same key) entries before

-- what is known of classes, once these are made known, one after the other
abbrev pub all_known : Lookups → List ClassId → List (ClassId × KnownClass) → List (ClassId × KnownClass)
all_known known [] entries = entries
all_known known (class ∷ others) entries =
    all_known known others (put_known class (class_found known class) entries)

-- what was put is taken back, the last first
abbrev pub undone : List Replaced → List (ClassId × KnownClass) → List (ClassId × KnownClass)
undone [] entries = entries
undone (one ∷ others) entries = put_back same_class one.class one.facts (undone others entries)
