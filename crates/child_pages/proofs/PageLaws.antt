-- Elements of an array, one by one.
use Rattle.std.proofs.Common.{◌≡◌, ◌<◌, ◌+◌, ◌-◌, ◌++◌, ℕ, suc, List, [], ◌∷◌, map, sym, ap, ◌∙◌, arith}
use Rattle.std.proofs.lemmas.List.{append_assoc}
use Rattle.std.specs.List.{range_with_len}
use Rattle.machine_model.specs.Children.{Child, of_index}

-- one element more
pub range_step : (start count place : ℕ) → place < count
    → range_with_len (start + place) (count - place)
    ≡ (start + place) ∷ range_with_len (start + (place + 1)) (count - (place + 1))
range_step start count place within =
    let left : count - place ≡ suc (count - (place + 1)) = omega (arith, within) in
    let next : (start + place) + 1 ≡ start + (place + 1) = omega arith in
    ap (λ n. range_with_len (start + place) n) left
    ∙ ap (λ n. (start + place) ∷ range_with_len n (count - (place + 1))) next

pub one_element : (made : List Child) (array start count place : ℕ) (next : Child) → place < count
    → next ≡ of_index array (start + place)
    → made ++ map (of_index array) (range_with_len (start + place) (count - place))
    ≡ map (of_index array) (range_with_len start count)
    → (made ++ next ∷ []) ++ map (of_index array) (range_with_len (start + (place + 1)) (count - (place + 1)))
    ≡ map (of_index array) (range_with_len start count)
one_element made array start count place next within is are =
    append_assoc made (next ∷ []) (map (of_index array) (range_with_len (start + (place + 1)) (count - (place + 1))))
    ∙ ap (λ b. made ++ b ∷ map (of_index array) (range_with_len (start + (place + 1)) (count - (place + 1)))) is
    ∙ ap (λ n. made ++ map (of_index array) n) (sym (range_step start count place within))
    ∙ are
