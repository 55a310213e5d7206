-- What is passed, what fires, and what of that logs or stops, hit by hit.
use lib.ListN.{get_or}
use Rattle.std.proofs.Common.{◌≡◌, ℕ, suc, ◌+◌, ◌≤◌, ◌<◌, List, [], ◌∷◌, ◌++◌, Bool, true, false, cond, drop, filter}
use Rattle.std.proofs.Common.{length, refl, sym, ap, ◌∙◌, append_assoc, arith}
use Rattle.std.proofs.lemmas.List.{append-nil}
use Rattle.machine_model.specs.Judging.{fired_from, fired_if, is_counted, passes_in}
use Rattle.machine_model.specs.declared.parts.Strike.{Strike}
use Rattle.machine_model.specs.RuleTables.{Rules}
use Rattle.look_ups.proofs.EachLaws.{left_at, nothing_left}

-- One by one ----------------------------------------------------------------------------------------------------------

-- at a place within, what is left begins with what stands there
pub left_with : {A B : Type 0} (all : List A → List B) (xs : List A) (i : ℕ) (x : A) → i < length xs → x ≡ get_or xs i x
    → all (x ∷ drop (i + 1) xs) ≡ all (drop i xs)
left_with all xs i x within at =
    let next : i + 1 ≡ suc i = omega arith in
    ap (λ n. all (x ∷ drop n xs)) next ∙ sym (ap all (left_at xs i x within at))

-- one more of those that are made one by one
pub one_more : {A B : Type 0} (all : List A → List B)
    → ((x : A) (others : List A) → all (x ∷ others) ≡ all (x ∷ []) ++ all others)
    → (xs : List A) (i : ℕ) (x : A) (so_far more : List B) → i < length xs → x ≡ get_or xs i x
    → more ≡ so_far ++ all (x ∷ []) → more ++ all (drop (i + 1) xs) ≡ so_far ++ all (drop i xs)
one_more all by_one xs i x so_far more within at is =
    ap (λ made. made ++ all (drop (i + 1) xs)) is
    ∙ append_assoc so_far (all (x ∷ [])) (all (drop (i + 1) xs))
    ∙ ap (λ made. so_far ++ made) (sym (by_one x (drop (i + 1) xs)) ∙ left_with all xs i x within at)

-- behind the last nothing is made
pub no_more : {A B : Type 0} (all : List A → List B) → all [] ≡ [] → (xs : List A) (i : ℕ) (so_far : List B)
    → length xs ≤ i → so_far ≡ so_far ++ all (drop i xs)
no_more all none xs i so_far past =
    sym (ap (λ made. so_far ++ made) (ap all (nothing_left xs i past) ∙ none) ∙ append-nil so_far)

pub one_filtered : {A : Type 0} (p : A → Bool) (x : A) (others : List A)
    → filter p (x ∷ others) ≡ filter p (x ∷ []) ++ filter p others
one_filtered p x others = by_test (p x)
  where
    by_test : (is : Bool) → cond is (x ∷ filter p others) (filter p others) ≡ cond is (x ∷ []) [] ++ filter p others
    by_test true = refl
    by_test false = refl

-- Passes --------------------------------------------------------------------------------------------------------------

pub one_pass : (pass : Strike × Bool) (others : List (Strike × Bool))
    → passes_in (pass ∷ others) ≡ passes_in (pass ∷ []) ++ passes_in others
one_pass (strike, true) others = refl
one_pass (strike, false) others = refl

-- what one fires, before what the others fire, which are behind its pass
one_fired : (rules : Rules) (before : List ℕ) (pass : Strike × Bool) (others : List (Strike × Bool))
    → fired_from rules before (pass ∷ others)
    ≡ fired_from rules before (pass ∷ []) ++ fired_from rules (before ++ passes_in (pass ∷ [])) others
one_fired rules before (strike, true) others =
    ap (λ fired. fired ++ fired_from rules (before ++ strike.entry.id ∷ []) others)
    (sym (append-nil (fired_if (is_counted rules before strike.entry.id) strike)))
one_fired rules before (strike, false) others = ap (λ ids. fired_from rules ids others) (sym (append-nil before))

pub fires_on : (rules : Rules) (xs : List (Strike × Bool)) (i : ℕ) (x : Strike × Bool) (before after : List ℕ)
    (fired more : List Strike) → i < length xs → x ≡ get_or xs i x → after ≡ before ++ passes_in (x ∷ [])
    → more ≡ fired ++ fired_from rules before (x ∷ [])
    → more ++ fired_from rules after (drop (i + 1) xs) ≡ fired ++ fired_from rules before (drop i xs)
fires_on rules xs i x before after fired more within at passes is =
    ap (λ made. made ++ fired_from rules after (drop (i + 1) xs)) is
    ∙ append_assoc fired (fired_from rules before (x ∷ [])) (fired_from rules after (drop (i + 1) xs))
    ∙ ap (λ made. fired ++ made)
    (ap (λ ids. fired_from rules before (x ∷ []) ++ fired_from rules ids (drop (i + 1) xs)) passes
    ∙ sym (one_fired rules before x (drop (i + 1) xs))
    ∙ left_with (fired_from rules before) xs i x within at)
