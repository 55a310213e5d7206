-- What an array of values says, by how many there are.
use Rattle.std.proofs.Common.{◌≡◌, ◌≤◌, List, [], ◌∷◌, length, None, refl, arith}
use Rattle.serde_json.specs.View.{items_view}
use Rattle.serde_json.specs.declared.value.Value.{Value}
use Rattle.script_text.specs.Rows.{row_of_items}

-- five elements are too many
pub row_of_items-many : (values : List Value) → 5 ≤ length values → row_of_items (items_view values) ≡ None
row_of_items-many [] many = absurd (omega arith)
row_of_items-many (a ∷ []) many = absurd (omega arith)
row_of_items-many (a ∷ b ∷ []) many = absurd (omega arith)
row_of_items-many (a ∷ b ∷ c ∷ []) many = absurd (omega arith)
row_of_items-many (a ∷ b ∷ c ∷ d ∷ []) many = absurd (omega arith)
row_of_items-many (a ∷ b ∷ c ∷ d ∷ e ∷ values) many = refl

pub ruleset row_of_items_rules = row_of_items-many
