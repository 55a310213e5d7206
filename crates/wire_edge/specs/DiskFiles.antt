-- What files tell whose content isn't known.
use Rattle.std.specs.Prelude.{ℕ, ◌+◌, ◌^◌, ◌<◌, ◌≤◌, ◌≡◌, List, [], ◌∷◌, length, Option, Some, None, IfSome}
use Rattle.wire_core.specs.Files.{Store}
use Rattle.wire_edge.specs.declared.disk_files.Content.{Content}
use Rattle.wire_edge.specs.declared.disk_files.Content.TheVariants.{Whole, Longer}

-- the name that was asked for, if any
abbrev pub name_list : Option (List ℕ) → List (List ℕ)
name_list None = []
name_list (Some name) = name ∷ []

-- files that tell no content
abbrev pub untold : ℕ → Option (List ℕ) → ℕ → Store
untold faults asked taken = record { files = None; faults = faults; asked = name_list asked; taken = taken }

-- what was read of a file of these bytes, where they are known: all of them where they fit, or more than fit
abbrev pub IsContent : Option (List ℕ) → ℕ → Content → Type 0
IsContent known limit (Whole bytes) = (length bytes.items ≤ limit) × (limit + 1 < 2 ^ 64 → IfSome known (λ all. bytes.items ≡ all))
IsContent known limit (Longer n) = (limit < n) × IfSome known (λ all. limit < length all)
