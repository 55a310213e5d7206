-- The arguments of a request for breakpoints are an object without floats; and lists that grow in several steps.
use Rattle.std.proofs.Common.{◌≡◌, ◌∙◌, ℕ, zero, suc, Bool, false, true, List, [], ◌∷◌, ◌++◌, Some, ap, append_assoc, refl}
use Rattle.std.proofs.Common.{sym}
use Rattle.std.specs.Prelude.{codes, ◌||◌}
use Rattle.serde_json.specs.Data.{Data}
use Rattle.serde_json.specs.View.{items_of}
use Rattle.serde_json.specs.Written.{has_float, items_have_float}
use Rattle.line_elements.specs.Values.{arguments_of}
use Rattle.generated_scripts.specs.Numbers.{for_each_to}
use Rattle.generated_scripts.specs.Turns.{breakpoints_data, one_number}

-- a value without a float behind others
one_behind : (ds : List Data) (d : Data) → items_have_float (items_of ds) ≡ false → has_float d ≡ false
    → items_have_float (items_of (ds ++ d ∷ [])) ≡ false
one_behind [] d none plain = ap (λ b. b || false) plain
one_behind (e ∷ ds) d none plain = by (has_float e) none (λ rest. one_behind ds d rest plain) where
  by : (b : Bool) → (b || items_have_float (items_of ds)) ≡ false
      → (items_have_float (items_of ds) ≡ false → items_have_float (items_of (ds ++ d ∷ [])) ≡ false)
      → (b || items_have_float (items_of (ds ++ d ∷ []))) ≡ false
  by false h later = later h
  by true h later = absurd cc

lines_plain : (n : ℕ) → items_have_float (items_of (for_each_to (λ i. one_number (codes "line") i ∷ []) n)) ≡ false
lines_plain zero = refl
lines_plain (suc n) =
    one_behind (for_each_to (λ i. one_number (codes "line") i ∷ []) n) (one_number (codes "line") (suc n))
    (lines_plain n) refl

pub breakpoints_are_arguments : (n : ℕ) → arguments_of (breakpoints_data n) ≡ Some (breakpoints_data n)
breakpoints_are_arguments n = rw (lines_plain n) refl

-- a part that is added behind others
behind : {A : Type 0} (old parts part before now : List A) → before ≡ old ++ parts → now ≡ before ++ part
    → now ≡ old ++ (parts ++ part)
behind old parts part before now h k = k ∙ ap (λ l. l ++ part) h ∙ append_assoc old parts part

pub five_behind : {A : Type 0} (old a b d e f one two three four five : List A) → one ≡ old ++ a → two ≡ one ++ b
    → three ≡ two ++ d → four ≡ three ++ e → five ≡ four ++ f → five ≡ old ++ ((((a ++ b) ++ d) ++ e) ++ f)
five_behind old a b d e f one two three four five h1 h2 h3 h4 h5 =
    let second = behind old a b one two h1 h2 in
    let third = behind old (a ++ b) d two three second h3 in
    let fourth = behind old ((a ++ b) ++ d) e three four third h4 in
    behind old (((a ++ b) ++ d) ++ e) f four five fourth h5
