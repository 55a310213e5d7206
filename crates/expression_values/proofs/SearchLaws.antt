-- A field that is sought upwards by its name.
use Prim.Native.Nat.{zero}
use Rattle.std.proofs.Common.{◌≡◌, ℕ, suc, ◌-◌, ◌<◌, ◌==◌, Bool, true, false, not, List, [], ◌∷◌, ◌++◌, Option, Some}
use Rattle.std.proofs.Common.{None, refl, ap, sym, ◌∙◌, arith}
use Rattle.std.specs.List.{list_any}
use Rattle.jdwp_values.specs.declared.class.Field.{Field}
use Rattle.machine_model.specs.Children.{above_plan, fields_plan}
use Rattle.machine_model.specs.Expressions.{field_from, field_named, found_or}
use Rattle.machine_model.specs.Names.{ClassId}
use Rattle.machine_model.specs.Plans.{Need, Plan, Sight, after, chained, gives, has, need}
use Rattle.machine_model.proofs.PlanIds.{need_chained}
use Rattle.look_ups.specs.Shown.{is_further}

-- what is sought above a class
abbrev above : ℕ → List ℕ → List ℕ → ℕ → Plan (Option Field)
above left met name class =
    chained (above_plan class) (λ above. field_from (left - 1) (met ++ class ∷ []) name above.0)

-- what a search comes to that goes on
goes_on : (sight : Sight) (left : ℕ) (met name : List ℕ) (class : ℕ) → 0 < left → is_further met class ≡ true
    → need sight (field_from left met name class)
    ≡ after (need sight (fields_plan class))
    (λ fields. need sight (found_or (field_named name fields) (above left met name class)))
unfolding field_from
goes_on sight Prim.Native.Nat.zero met name class some further = absurd (omega (arith, some))
goes_on sight (suc left) met name Prim.Native.Nat.zero some further = cc
goes_on sight (suc left) met name (suc class) some further =
    let less : left ≡ suc left - 1 = omega arith in
    by_met (list_any (λ other. other == suc class) met) further
    (need_chained sight (fields_plan (suc class)) (λ fields. found_or (field_named name fields) (up left)))
    ∙ ap (λ n. after (need sight (fields_plan (suc class)))
    (λ fields. need sight (found_or (field_named name fields) (up n)))) less
  where
    up : ℕ → Plan (Option Field)
    up n = chained (above_plan (suc class)) (λ above. field_from n (met ++ suc class ∷ []) name above.0)

    by_met : (was : Bool) → not was ≡ true
        → need sight (chained (fields_plan (suc class)) (λ fields. found_or (field_named name fields) (up left)))
        ≡ after (need sight (fields_plan (suc class)))
        (λ fields. need sight (found_or (field_named name fields) (up left)))
        → need sight (elim was [
          | true ↦ gives None
          | false ↦ chained (fields_plan (suc class)) (λ fields. found_or (field_named name fields) (up left))
        ])
        ≡ after (need sight (fields_plan (suc class)))
        (λ fields. need sight (found_or (field_named name fields) (up left)))
    by_met true new is = cc
    by_met false new is = is

-- and one that has ended
pub ends_up : (sight : Sight) (left : ℕ) (met name : List ℕ) (class : ℕ) → is_further met class ≡ false
    → has None ≡ need sight (field_from left met name class)
unfolding field_from need
ends_up sight Prim.Native.Nat.zero met name class ended = refl
ends_up sight (suc left) met name Prim.Native.Nat.zero ended = refl
ends_up sight (suc left) met name (suc class) ended = by_met (list_any (λ other. other == suc class) met) ended
  where
    by_met : (was : Bool) → not was ≡ false
        → has None ≡ need sight (elim was [
          | true ↦ gives None
          | false ↦ chained (fields_plan (suc class)) (λ fields. found_or (field_named name fields)
              (chained (above_plan (suc class)) (λ above. field_from left (met ++ suc class ∷ []) name above.0)))
        ])
    by_met true old = refl
    by_met false old = cc

pub far_enough : (sight : Sight) (met name : List ℕ) (class left : ℕ) → left ≡ 0
    → has None ≡ need sight (field_from left met name class)
unfolding field_from need
far_enough sight met name class left none = sym (ap (λ n. need sight (field_from n met name class)) none)

-- what was heard of the fields of the class decides
pub by_fields : (sight : Sight) (left : ℕ) (met name : List ℕ) (class : ℕ) (heard : Need (List Field)) → 0 < left
    → is_further met class ≡ true → heard ≡ need sight (fields_plan class)
    → after heard (λ fields. need sight (found_or (field_named name fields) (above left met name class)))
    ≡ need sight (field_from left met name class)
by_fields sight left met name class heard some further is =
    ap (λ n. after n (λ fields. need sight (found_or (field_named name fields) (above left met name class)))) is
    ∙ sym (goes_on sight left met name class some further)

-- one of them has the name
pub found_here : (sight : Sight) (left : ℕ) (met name : List ℕ) (class : ℕ) (fields : List Field) (f : Field)
    → 0 < left → is_further met class ≡ true → has fields ≡ need sight (fields_plan class)
    → Some f ≡ field_named name fields → has (Some f) ≡ need sight (field_from left met name class)
unfolding need
found_here sight left met name class fields f some further is here =
    ap (λ found. need sight (found_or found (above left met name class))) here
    ∙ by_fields sight left met name class (has fields) some further is

-- none has it: what was heard of the class above decides
pub sought_above : (sight : Sight) (left : ℕ) (met name : List ℕ) (class : ℕ) (fields : List Field)
    (heard : Need ClassId) → 0 < left → is_further met class ≡ true → has fields ≡ need sight (fields_plan class)
    → None ≡ field_named name fields → heard ≡ need sight (above_plan class)
    → after heard (λ above. need sight (field_from (left - 1) (met ++ class ∷ []) name above.0))
    ≡ need sight (field_from left met name class)
sought_above sight left met name class fields heard some further is none next =
    ap (λ n. after n (λ above. need sight (field_from (left - 1) (met ++ class ∷ []) name above.0))) next
    ∙ sym (need_chained sight (above_plan class) (λ above. field_from (left - 1) (met ++ class ∷ []) name above.0))
    ∙ ap (λ found. need sight (found_or found (above left met name class))) none
    ∙ by_fields sight left met name class (has fields) some further is
