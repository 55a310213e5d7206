-- Places of values, and classes upwards, as the code has them.
use Rattle.std.specs.Prelude.{ℕ, zero, suc, ◌==◌, List, Bool, false, not}
use Rattle.std.specs.List.{list_any}
use Rattle.machine_model.specs.Values as values
use Rattle.look_ups.specs.declared.place.Declared.{Declared}
use Rattle.look_ups.specs.declared.place.Declared.TheVariants.{Signature, ElementOf}

-- the signature of a place
abbrev pub declared_of : Declared → values.Declared
declared_of (Signature signature) = values.is_signature signature
declared_of (ElementOf array) = values.element_of array

-- a class is followed further: it is one, and wasn't met
abbrev pub is_further : List ℕ → ℕ → Bool
is_further met zero = false
is_further met (suc class) = not (list_any (λ other. other == suc class) met)
