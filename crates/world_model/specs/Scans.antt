-- Scans of lists.
use Rattle.std.specs.Prelude.{Bool, if◌then◌else◌, List, [], ◌∷◌, Option, Some, None, option_map, option_and_then}
use Rattle.std.specs.Option.{option_or}

-- the last item that passes
abbrev pub last_of : {A : Type 0} → (A → Bool) → List A → Option A
last_of passes [] = None
last_of passes (x ∷ xs) = option_or (last_of passes xs) (if passes x then Some x else None)

-- what is found for each item, where something is for all
abbrev pub all_of : {A B : Type 0} → (A → Option B) → List A → Option (List B)
all_of found [] = Some []
all_of found (x ∷ xs) = option_and_then (λ y. option_map (λ ys. y ∷ ys) (all_of found xs)) (found x)
