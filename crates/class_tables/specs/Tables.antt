-- Tables: what is known under each key, the keys in the order in which they came.
use Rattle.std.specs.Prelude.{Bool, List, [], ◌∷◌, map, if◌then◌else◌, Option, Some, None}

module _ {K V : Type 0} (same : K → K → Bool) (key : K) where
  -- what is known under a key
  abbrev pub under : List (K × V) → Option V
  under [] = None
  under (entry ∷ entries) = if same key entry.0 then Some entry.1 else under entries

  -- a value is put under a key: in place of the one that was there, else behind all
  abbrev pub put : V → List (K × V) → List (K × V)
  put value [] = (key, value) ∷ []
  put value (entry ∷ entries) = if same key entry.0 then (entry.0, value) ∷ entries else entry ∷ put value entries

-- the keys, in the order in which they came
abbrev pub keys : {K V : Type 0} → List (K × V) → List K
keys entries = map (λ entry. entry.0) entries
