-- What an array of values is, by how many there are.
use Rattle.std.proofs.Common.{◌≡◌, ◌≤◌, List, [], ◌∷◌, length, None, refl, arith}
use Rattle.line_elements.specs.Values.{two_of}
use Rattle.serde_json.specs.View.{items_view}
use Rattle.serde_json.specs.declared.value.Value.{Value}
use Rattle.ask_texts.specs.Parts.{nothing_in, only_of, three_of}

pub nothing_in_many : {A : Type 0} (x : A) (values : List Value) → 1 ≤ length values
    → nothing_in x (items_view values) ≡ None
nothing_in_many x [] many = absurd (omega arith)
nothing_in_many x (a ∷ values) many = refl

pub only_of_many : (values : List Value) → 2 ≤ length values → only_of (items_view values) ≡ None
only_of_many [] many = absurd (omega arith)
only_of_many (a ∷ []) many = absurd (omega arith)
only_of_many (a ∷ b ∷ values) many = refl

pub two_of_one : (values : List Value) → length values ≡ 1 → two_of (items_view values) ≡ None
two_of_one [] one = absurd (omega arith)
two_of_one (a ∷ []) one = refl
two_of_one (a ∷ b ∷ values) one = absurd (omega arith)

pub two_of_many : (values : List Value) → 3 ≤ length values → two_of (items_view values) ≡ None
two_of_many [] many = absurd (omega arith)
two_of_many (a ∷ []) many = absurd (omega arith)
two_of_many (a ∷ b ∷ []) many = absurd (omega arith)
two_of_many (a ∷ b ∷ c ∷ values) many = refl

pub three_of_one : (values : List Value) → length values ≡ 1 → three_of (items_view values) ≡ None
three_of_one [] one = absurd (omega arith)
three_of_one (a ∷ []) one = refl
three_of_one (a ∷ b ∷ values) one = absurd (omega arith)

pub three_of_two : (values : List Value) → length values ≡ 2 → three_of (items_view values) ≡ None
three_of_two [] two = absurd (omega arith)
three_of_two (a ∷ []) two = absurd (omega arith)
three_of_two (a ∷ b ∷ []) two = refl
three_of_two (a ∷ b ∷ c ∷ values) two = absurd (omega arith)

pub three_of_many : (values : List Value) → 4 ≤ length values → three_of (items_view values) ≡ None
three_of_many [] many = absurd (omega arith)
three_of_many (a ∷ []) many = absurd (omega arith)
three_of_many (a ∷ b ∷ []) many = absurd (omega arith)
three_of_many (a ∷ b ∷ c ∷ []) many = absurd (omega arith)
three_of_many (a ∷ b ∷ c ∷ d ∷ values) many = refl
