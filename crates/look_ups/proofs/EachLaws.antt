-- Look-ups side by side, from the last to the first.
use Prim.Native.Nat.{zero}
use lib.ListN.{get_or}
use Rattle.std.proofs.Common.{◌≡◌, ◌≤◌, ◌<◌, ◌-◌, ℕ, suc, List, [], ◌∷◌, drop, length, refl, sym, ap, ◌∙◌, arith}
use Rattle.machine_model.specs.Plans.{Need, Plan, Sight, after, beside, each, has, need}

-- past the end nothing is left
pub nothing_left : {A : Type 0} (xs : List A) (n : ℕ) → length xs ≤ n → drop n xs ≡ []
nothing_left [] Prim.Native.Nat.zero past = refl
nothing_left [] (suc n) past = refl
nothing_left (x ∷ xs) Prim.Native.Nat.zero past = absurd (omega (arith, past))
nothing_left (x ∷ xs) (suc n) past = nothing_left xs n (omega (arith, past))

-- behind the last there are none
pub none_left : {A B : Type 0} (sight : Sight) (f : A → Plan B) (xs : List A) (n : ℕ) → length xs ≤ n
    → has [] ≡ need sight (each f (drop n xs))
unfolding need each
none_left sight f xs n past = sym (ap (λ left. need sight (each f left)) (nothing_left xs n past))

-- at a place within, what is left begins with what stands there
pub left_at : {A : Type 0} (xs : List A) (i : ℕ) (x : A) → i < length xs → x ≡ get_or xs i x
    → drop i xs ≡ x ∷ drop (suc i) xs
left_at [] i x lower is = absurd (omega (arith, lower))
left_at (y ∷ xs) Prim.Native.Nat.zero x lower is = ap (λ z. z ∷ xs) (sym is)
left_at (y ∷ xs) (suc i) x lower is = left_at xs i x (omega (arith, lower)) is

-- one before those that were looked up
pub one_more : {A B : Type 0} (sight : Sight) (f : A → Plan B) (xs : List A) (place : ℕ) (x : A) (first : Need B)
    (others found : Need (List B)) → 0 < place → place ≤ length xs → x ≡ get_or xs (place - 1) x
    → first ≡ need sight (f x) → others ≡ need sight (each f (drop place xs))
    → found ≡ after (beside first others) (λ two. has (two.0 ∷ two.1))
    → found ≡ need sight (each f (drop (place - 1) xs))
unfolding need each
one_more sight f xs place x first others found some within at here behind is =
    let next : suc (place - 1) ≡ place = omega (arith, some) in
    let left : drop (place - 1) xs ≡ x ∷ drop place xs =
    left_at xs (place - 1) x (omega (arith, some, within)) at ∙ ap (λ n. x ∷ drop n xs) next in
    is
    ∙ ap (λ n. after (beside n others) (λ two. has (two.0 ∷ two.1))) here
    ∙ ap (λ n. after (beside (need sight (f x)) n) (λ two. has (two.0 ∷ two.1))) behind
    ∙ sym (ap (λ rest. need sight (each f rest)) left)
