-- A length in the first brackets of a name.
use Rattle.std.proofs.Common.{◌≡◌, ℕ, zero, suc, ◌<◌, ◌≤◌, false, eqb, nat_eq, List, [], ◌∷◌, ◌++◌, length}
use Rattle.std.proofs.Common.{take, drop, refl, ap, sym, ◌∙◌, arith}
use Rattle.std.proofs.lemmas.Bool.{and_parts, cond-false, eqb-true, false_from_ne_true, false≢true}
use Rattle.std.specs.List.{starts_with}
use Rattle.std.specs.Prelude.{codes, decimal}
use Rattle.std.specs.Str.Pattern.{LacksTextAt}
use Rattle.value_views.specs.Texts.{with_length}

-- what doesn't begin with brackets
no_brackets : (bytes : List ℕ) → LacksTextAt (codes "[]") bytes 0 → starts_with nat_eq bytes (codes "[]") ≡ false
no_brackets [] lacks = refl
no_brackets (b ∷ []) lacks = false_from_ne_true _ (λ test. absurd (false≢true (and_parts (eqb 91 b) false test).1))
no_brackets (b ∷ c ∷ rest) lacks = false_from_ne_true _ (λ test.
    let first = and_parts (eqb 91 b) _ test in
    let second = and_parts (eqb 93 c) _ first.1 in
    lacks rest (ap (λ x. x ∷ c ∷ rest) (sym (eqb-true 91 b first.0))
    ∙ ap (λ x. 91 ∷ x ∷ rest) (sym (eqb-true 93 c second.0))))

-- a length stands in the first brackets
pub in_brackets : (n i : ℕ) (name rest : List ℕ) → ((k : ℕ) → k < i → LacksTextAt (codes "[]") name k)
    → drop i name ≡ codes "[]" ++ rest
    → with_length n name ≡ take i name ++ (codes "[" ++ (decimal n ++ (codes "]" ++ rest)))
in_brackets n zero [] rest lacks e = absurd cc
in_brackets n (suc i) [] rest lacks e = absurd cc
in_brackets n zero (b ∷ bs) rest lacks e = ap (with_length n) e
in_brackets n (suc i) (b ∷ bs) rest lacks e =
    cond-false (starts_with nat_eq (b ∷ bs) (codes "[]")) _ _ (no_brackets (b ∷ bs) (lacks 0 (omega arith)))
    ∙ ap (λ l. b ∷ l) (in_brackets n i bs rest (λ k h. lacks (suc k) (omega arith)) e)

-- or behind a name that has none
pub behind_name : (n : ℕ) (name : List ℕ) → ((k : ℕ) → k ≤ length name → LacksTextAt (codes "[]") name k)
    → with_length n name ≡ name ++ (codes "[" ++ (decimal n ++ codes "]"))
behind_name n [] lacks = refl
behind_name n (b ∷ bs) lacks =
    cond-false (starts_with nat_eq (b ∷ bs) (codes "[]")) _ _ (no_brackets (b ∷ bs) (lacks 0 (omega arith)))
    ∙ ap (λ l. b ∷ l) (behind_name n bs (λ k h. lacks (suc k) (omega arith)))
