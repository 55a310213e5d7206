-- What is found in lists behind one another.
use Rattle.std.proofs.Common.{◌≡◌, ◌<◌, ◌+◌, ◌++◌, ℕ, Bool, List, Some, None, Option, ap, sym, ◌∙◌, drop, find}
use Rattle.std.proofs.Common.{get_or, length}
use Rattle.std.proofs.lemmas.List.{drop_more}
use Rattle.std.proofs.lemmas.List.Folds.{find-append}
use Rattle.std.specs.Option.{option_or}
use Rattle.std.specs.Prelude.{flat_map}

-- what isn't found in the first is sought behind it
pub found_behind : {X : Type 0} (p : X → Bool) (first others : List X)
    → find p (first ++ others) ≡ option_or (find p first) (find p others)
found_behind p first others = find-append p first others

-- the list at a place is the first of those that are left
one_list : {K X : Type 0} (p : X → Bool) (lists : List (K × List X)) (i : ℕ) (list : K × List X) → i < length lists
    → list ≡ get_or lists i list
    → find p (flat_map (λ (l : K × List X). l.1) (drop i lists))
    ≡ option_or (find p list.1) (find p (flat_map (λ (l : K × List X). l.1) (drop (i + 1) lists)))
one_list {K} {X} p lists i list within is =
    ap (λ (left : List (K × List X)). find p (flat_map (λ (l : K × List X). l.1) left)) (drop_more lists i list within)
    ∙ found_behind p (get_or lists i list).1 (flat_map (λ (l : K × List X). l.1) (drop (i + 1) lists))
    ∙ ap (λ (one : K × List X). option_or (find p one.1)
    (find p (flat_map (λ (l : K × List X). l.1) (drop (i + 1) lists)))) (sym is)

-- what is found there is found
pub found_here : {K X : Type 0} (p : X → Bool) (lists : List (K × List X)) (i : ℕ) (list : K × List X) (x : X)
    (all : Option X) → i < length lists → list ≡ get_or lists i list → Some x ≡ find p list.1
    → find p (flat_map (λ (l : K × List X). l.1) (drop i lists)) ≡ all → Some x ≡ all
found_here {K} {X} p lists i list x all within is here are =
    ap (λ found. option_or found (find p (flat_map (λ (l : K × List X). l.1) (drop (i + 1) lists)))) here
    ∙ sym (one_list p lists i list within is)
    ∙ are

-- where nothing is found there, the others are left
pub none_here : {K X : Type 0} (p : X → Bool) (lists : List (K × List X)) (i : ℕ) (list : K × List X) (all : Option X)
    → i < length lists → list ≡ get_or lists i list → None ≡ find p list.1
    → find p (flat_map (λ (l : K × List X). l.1) (drop i lists)) ≡ all
    → find p (flat_map (λ (l : K × List X). l.1) (drop (i + 1) lists)) ≡ all
none_here {K} {X} p lists i list all within is here are =
    ap (λ found. option_or found (find p (flat_map (λ (l : K × List X). l.1) (drop (i + 1) lists)))) here
    ∙ sym (one_list p lists i list within is)
    ∙ are
