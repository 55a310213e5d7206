-- What is made of each of a list.
use Rattle.std.proofs.Common.{◌≡◌, ℕ, ◌<◌, ◌+◌, List, [], ◌∷◌, ◌++◌, sym, ap, ◌∙◌, drop, get_or, length, map}
use Rattle.std.proofs.lemmas.List.{append_assoc, drop_more}

-- what is made of each, and of one more
pub one_more : {A B : Type 0} (f : A → B) (made : List B) (all : List A) (place : ℕ) (one : A) (next : B)
    → place < length all → one ≡ get_or all place one → next ≡ f one → made ++ map f (drop place all) ≡ map f all
    → (made ++ next ∷ []) ++ map f (drop (place + 1) all) ≡ map f all
one_more f made all place one next within is next_is are =
    append_assoc made (next ∷ []) (map f (drop (place + 1) all))
    ∙ ap (λ b. made ++ b ∷ map f (drop (place + 1) all)) (next_is ∙ ap f is)
    ∙ ap (λ rest. made ++ map f rest) (sym (drop_more all place one within))
    ∙ are
