-- Worked examples of what rules come to, checked by computation.
use Rattle.std.proofs.Common.{◌≡◌, pos, negsuc, [], ◌∷◌, true, false, Some, None, refl}
use Rattle.std.specs.Prelude.{codes}
use Rattle.field_exprs.specs.declared.expr.Head.TheVariants.{Name}
use Rattle.break_rules.specs.declared.rule.Comparison.TheVariants.{Equal, GreaterEqual, Less, LessEqual}
use Rattle.break_rules.specs.declared.rule.HitRule.TheVariants as counts
use Rattle.break_rules.specs.declared.rule.Piece.TheVariants as pieces
use Rattle.break_rules.specs.declared.rule.Seen.TheVariants.{Number, Truth, Reference, Other}
use Rattle.break_rules.specs.Judging.{is_met, judged}
use Rattle.break_rules.specs.Rendering.{rendered}

as_told : rendered (record {
  pieces = pieces.Plain (codes "n is ") ∷ pieces.Path (record { head = Name (codes "n"); steps = [] })
      ∷ pieces.Plain (codes "!") ∷ [];
}) (codes "5" ∷ []) ≡ codes "n is 5!"
as_told = refl

-- Judgements ----------------------------------------------------------------------------------------------------------

a_number_is_no_truth : judged (Number (pos 1)) (Some (Equal, Truth true)) ≡ None
a_number_is_no_truth = refl

no_order_of_objects : judged (Reference 3) (Some (Less, Reference 4)) ≡ None
no_order_of_objects = refl

null_is_null : judged (Reference 0) (Some (Equal, Reference 0)) ≡ Some true
null_is_null = refl

a_negative_is_less : judged (Number (negsuc 2)) (Some (LessEqual, Number (pos 1))) ≡ Some true
a_negative_is_less = refl

and_no_greater : judged (Number (negsuc 2)) (Some (GreaterEqual, Number (pos 1))) ≡ Some false
and_no_greater = refl

no_number_alone : judged (Number (pos 1)) None ≡ None
no_number_alone = refl

no_fraction : judged Other (Some (Equal, Other)) ≡ None
no_fraction = refl

the_fourth : is_met (record { rule = counts.Multiple; count = 2 }) 4 ≡ true
the_fourth = refl

not_the_third : is_met (record { rule = counts.Multiple; count = 2 }) 3 ≡ false
not_the_third = refl
