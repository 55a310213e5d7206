-- Classes on the way upwards.
use Prim.Native.Nat.{zero}
use Rattle.std.proofs.Common.{◌≡◌, ℕ, suc, ◌-◌, ◌<◌, ◌==◌, Bool, true, false, not, List, [], ◌∷◌, ◌++◌, refl}
use Rattle.std.proofs.Common.{ap, sym, ◌∙◌, arith}
use Rattle.std.specs.List.{list_any}
use Rattle.machine_model.specs.Children.{above_plan, chain}
use Rattle.machine_model.specs.Names.{ClassId}
use Rattle.machine_model.specs.Plans.{Sight, after, chained, gives, has, need}
use Rattle.machine_model.proofs.PlanIds.{need_chained}
use Rattle.look_ups.specs.Needs.{need_of}
use Rattle.look_ups.specs.Shown.{is_further}
use Rattle.look_ups.specs.declared.need.Need.{Need}

-- what a chain comes to that goes on
goes_up : (sight : Sight) (left : ℕ) (met : List ℕ) (class : ℕ) → 0 < left → is_further met class ≡ true
    → need sight (chain left met class)
    ≡ after (need sight (above_plan class)) (λ above. need sight (chain (left - 1) (met ++ class ∷ []) above.0))
unfolding chain
goes_up sight Prim.Native.Nat.zero met class some further = absurd (omega (arith, some))
goes_up sight (suc left) met Prim.Native.Nat.zero some further = cc
goes_up sight (suc left) met (suc class) some further =
    let less : left ≡ suc left - 1 = omega arith in
    by_met (list_any (λ other. other == suc class) met) further
    (need_chained sight (above_plan (suc class)) (λ above. chain left (met ++ suc class ∷ []) above.0))
    ∙ ap (λ n. after (need sight (above_plan (suc class)))
    (λ above. need sight (chain n (met ++ suc class ∷ []) above.0))) less
  where
    by_met : (was : Bool) → not was ≡ true
        → need sight (chained (above_plan (suc class)) (λ above. chain left (met ++ suc class ∷ []) above.0))
        ≡ after (need sight (above_plan (suc class)))
        (λ above. need sight (chain left (met ++ suc class ∷ []) above.0))
        → need sight (elim was [
          | true ↦ gives met
          | false ↦ chained (above_plan (suc class)) (λ above. chain left (met ++ suc class ∷ []) above.0)
        ])
        ≡ after (need sight (above_plan (suc class)))
        (λ above. need sight (chain left (met ++ suc class ∷ []) above.0))
    by_met true new is = cc
    by_met false new is = is

-- and one that has ended
pub ends_up : (sight : Sight) (left : ℕ) (met : List ℕ) (class : ℕ) → is_further met class ≡ false
    → has met ≡ need sight (chain left met class)
unfolding chain need
ends_up sight Prim.Native.Nat.zero met class ended = refl
ends_up sight (suc left) met Prim.Native.Nat.zero ended = refl
ends_up sight (suc left) met (suc class) ended = by_met (list_any (λ other. other == suc class) met) ended
  where
    by_met : (was : Bool) → not was ≡ false
        → has met ≡ need sight (elim was [
          | true ↦ gives met
          | false ↦ chained (above_plan (suc class)) (λ above. chain left (met ++ suc class ∷ []) above.0)
        ])
    by_met true old = refl
    by_met false old = cc

pub far_enough : (sight : Sight) (met : List ℕ) (class left : ℕ) → left ≡ 0 → has met ≡ need sight (chain left met class)
unfolding chain need
far_enough sight met class left none = sym (ap (λ n. need sight (chain n met class)) none)

-- what was heard of the class above decides
pub goes_as : (sight : Sight) (left : ℕ) (met : List ℕ) (class : ℕ) (found next : Need ClassId) → 0 < left
    → is_further met class ≡ true → need_of found ≡ need sight (above_plan class) → found ≡ next
    → after (need_of next) (λ above. need sight (chain (left - 1) (met ++ class ∷ []) above.0))
    ≡ need sight (chain left met class)
goes_as sight left met class found next some further is same =
    ap (λ n. after (need_of n) (λ above. need sight (chain (left - 1) (met ++ class ∷ []) above.0))) (sym same)
    ∙ ap (λ n. after n (λ above. need sight (chain (left - 1) (met ++ class ∷ []) above.0))) is
    ∙ sym (goes_up sight left met class some further)
