use Rattle.std.proofs.Common.{◌≡◌, ◌≢◌, ◌++◌, [], ◌∷◌, List, ℕ, Option, Some, None, MatchOption, arith, ap, ◌∙◌}
use Rattle.std.specs.Borrow.{Bor}
use Rattle.std.proofs.lemmas.Str.Pattern.{strip_prefix_char, strip_suffix_char}
use Rattle.child_pages.proofs.writes.between_brackets.Goals as goal

behind_first : (text rest : List ℕ) (o : Option (Bor (List ℕ))) → text ≡ 91 ∷ rest
    → MatchOption o ((front : List ℕ) → rest ≢ front ++ (93 ∷ [])) (λ x. rest ≡ x.now ++ (93 ∷ []))
    → MatchOption o ((inside : List ℕ) → text ≢ 91 ∷ (inside ++ 93 ∷ [])) (λ x. text ≡ 91 ∷ (x.now ++ 93 ∷ []))
behind_first text rest None e h = λ inside same. h inside (cc)
behind_first text rest (Some x) e h = e ∙ ap (λ l. 91 ∷ l) h

pub returns-in_default : goal.returns-in_default
returns-in_default c =
    let none = strip_prefix_char 91 c.args.name.now None c.in_default.ensures.cases (omega arith) in
    λ inside same. none (inside ++ 93 ∷ []) same

pub returns : goal.returns
returns c =
    let first = strip_prefix_char 91 c.args.name.now (Some c.in-Some.rest) c.in-Some.ensures.cases (omega arith) in
    behind_first c.args.name.now c.in-Some.rest.now c.strip_suffix.result first
    (strip_suffix_char 93 c.in-Some.rest.now c.strip_suffix.result c.strip_suffix.ensures.cases (omega arith))
