-- The names that wires were asked to open.
use Rattle.std.specs.Prelude.{ℕ, List, [], ◌∷◌, Option, Some, None}
use Rattle.wire_core.specs.declared.names.Names.{Names}

-- the target's name, behind the client's where it was asked for
abbrev pub both_or_one : Option (List ℕ) → List ℕ → List (List ℕ)
both_or_one None target = target ∷ []
both_or_one (Some listen) target = listen ∷ target ∷ []

-- the names, once they were asked for
abbrev pub names_of : Option Names → List (List ℕ)
names_of None = []
names_of (Some names) = both_or_one names.listen names.target
