-- The steps of an expression, one by one.
use lib.ListN.{get_or}
use Rattle.std.proofs.Common.{◌≡◌, ◌≤◌, ◌<◌, ◌+◌, ℕ, suc, List, Ok, Err, drop, length, sym, ap, ◌∙◌, arith}
use Rattle.field_exprs.specs.declared.expr.Hop.{Hop}
use Rattle.machine_model.specs.Expressions.{Sought, hop_on, hops_on, on_value}
use Rattle.machine_model.specs.Names.{Failure}
use Rattle.machine_model.specs.Plans.{Need, Sight, after, chained, has, need}
use Rattle.machine_model.specs.Values.{Valued}
use Rattle.machine_model.proofs.PlanIds.{need_chained}
use Rattle.look_ups.proofs.EachLaws.{left_at, nothing_left}

-- what was heard of a step decides
pub one_step : (sight : Sight) (hops : List Hop) (i : ℕ) (hop : Hop) (v : Valued) (heard : Need Sought)
    → i < length hops → hop ≡ get_or hops i hop → heard ≡ need sight (hop_on hop v.value)
    → after heard (λ sought. need sight (on_value (hops_on (drop (i + 1) hops)) sought))
    ≡ need sight (hops_on (drop i hops) v)
one_step sight hops i hop v heard within at is =
    let next : i + 1 ≡ suc i = omega arith in
    ap (λ n. after n (λ sought. need sight (on_value (hops_on (drop (i + 1) hops)) sought))) is
    ∙ sym (need_chained sight (hop_on hop v.value) (on_value (hops_on (drop (i + 1) hops))))
    ∙ ap (λ n. need sight (chained (hop_on hop v.value) (on_value (hops_on (drop n hops))))) next
    ∙ sym (ap (λ left. need sight (hops_on left v)) (left_at hops i hop within at))

-- where it came to no value, nor do the others
pub no_value : (sight : Sight) (hops : List Hop) (i : ℕ) (hop : Hop) (v : Valued) (failure : Failure) → i < length hops
    → hop ≡ get_or hops i hop → has (Err failure) ≡ need sight (hop_on hop v.value)
    → has (Err failure) ≡ need sight (hops_on (drop i hops) v)
unfolding need
no_value sight hops i hop v failure within at is = one_step sight hops i hop v (has (Err failure)) within at is

-- behind the last the value is found
pub no_more : (sight : Sight) (hops : List Hop) (i : ℕ) (v : Valued) → length hops ≤ i
    → has (Ok v) ≡ need sight (hops_on (drop i hops) v)
unfolding need
no_more sight hops i v past = sym (ap (λ left. need sight (hops_on left v)) (nothing_left hops i past))
