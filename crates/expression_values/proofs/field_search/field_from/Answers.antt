use Rattle.std.proofs.Common.{◌-◌, arith, ap, option_copied, sym, ◌∙◌}
use Rattle.machine_model.specs.Expressions.{field_from}
use Rattle.machine_model.specs.Plans.{need}
use Rattle.look_ups.specs.Needs.{need_of, need_with, seen_by}
use Rattle.expression_values.proofs.SearchLaws.{by_fields, ends_up, far_enough, found_here, sought_above}
use Rattle.expression_values.proofs.field_search.field_from.Goals as goal
use Rattle.expression_values.proofs.field_search.field_from.Goals.{then-loop-left-test+else-is_further, else-loop-left-test}

pub returns-in-Some : goal.returns-in-Some
returns-in-Some c =
    found_here (seen_by c.args.sight) c.loop-left.left c.loop-left.met c.args.name.now c.loop-left.class.0
    c.in-Has.fields.now c.in-Some.field.now c.loop-left-test.true (sym c.is_further.ensures ∙ c.if-is_further.true)
    (sym (ap (need_with (λ fields. fields.now)) c.in-Has.is) ∙ c.in_ok-fields.ensures)
    (sym (ap option_copied c.in-Some.is) ∙ c.field_named.ensures)
    ∙ c.loop-left.invariant

pub returns-in-Fails : goal.returns-in-Fails
returns-in-Fails c =
    by_fields (seen_by c.args.sight) c.loop-left.left c.loop-left.met c.args.name.now c.loop-left.class.0 _
    c.loop-left-test.true (sym c.is_further.ensures ∙ c.if-is_further.true)
    (sym (ap (need_with (λ fields. fields.now)) c.in-Fails.is) ∙ c.in_ok-fields.ensures)
    ∙ c.loop-left.invariant

pub returns-in-Lacks : goal.returns-in-Lacks
returns-in-Lacks c =
    by_fields (seen_by c.args.sight) c.loop-left.left c.loop-left.met c.args.name.now c.loop-left.class.0 _
    c.loop-left-test.true (sym c.is_further.ensures ∙ c.if-is_further.true)
    (sym (ap (need_with (λ fields. fields.now)) c.in-Lacks.is) ∙ c.in_ok-fields.ensures)
    ∙ c.loop-left.invariant

pub returns-in-Fails-2 : goal.returns-in-Fails-2
returns-in-Fails-2 c =
    sought_above (seen_by c.args.sight) c.loop-left.left c.loop-left.met c.args.name.now c.loop-left.class.0
    c.in-Has.fields.now _ c.loop-left-test.true (sym c.is_further.ensures ∙ c.if-is_further.true)
    (sym (ap (need_with (λ fields. fields.now)) c.in-Has.is) ∙ c.in_ok-fields.ensures)
    (sym (ap option_copied c.in_default.is) ∙ c.field_named.ensures)
    (sym (ap (λ found. need_of found) c.in-Fails-2.is) ∙ c.in_ok-above.ensures)
    ∙ c.loop-left.invariant

pub returns-in-Lacks-2 : goal.returns-in-Lacks-2
returns-in-Lacks-2 c =
    sought_above (seen_by c.args.sight) c.loop-left.left c.loop-left.met c.args.name.now c.loop-left.class.0
    c.in-Has.fields.now _ c.loop-left-test.true (sym c.is_further.ensures ∙ c.if-is_further.true)
    (sym (ap (need_with (λ fields. fields.now)) c.in-Has.is) ∙ c.in_ok-fields.ensures)
    (sym (ap option_copied c.in_default.is) ∙ c.field_named.ensures)
    (sym (ap (λ found. need_of found) c.in-Lacks-2.is) ∙ c.in_ok-above.ensures)
    ∙ c.loop-left.invariant

pub loop-left-preserved : goal.loop-left-preserved
loop-left-preserved c =
    ap (λ met. need (seen_by c.args.sight) (field_from (c.loop-left.left - 1) met c.args.name.now c.in-Has-2.above.0))
    c.in_ok-add-in-Has-2.ensures.ok
    ∙ sought_above (seen_by c.args.sight) c.loop-left.left c.loop-left.met c.args.name.now c.loop-left.class.0
    c.in-Has.fields.now _ c.loop-left-test.true (sym c.is_further.ensures ∙ c.if-is_further.true)
    (sym (ap (need_with (λ fields. fields.now)) c.in-Has.is) ∙ c.in_ok-fields.ensures)
    (sym (ap option_copied c.in_default.is) ∙ c.field_named.ensures)
    (sym (ap (λ found. need_of found) c.in-Has-2.is) ∙ c.in_ok-above.ensures)
    ∙ c.loop-left.invariant

pub returns : goal.returns
returns c = elim c.loop-left-test.branch [
  | then-loop-left-test+else-is_further w ↦
      ends_up (seen_by c.args.sight) c.loop-left.left c.loop-left.met c.args.name.now c.loop-left.class.0
      (sym w.is_further.ensures ∙ w.if-is_further.false) ∙ c.loop-left.invariant
  | else-loop-left-test w ↦
      far_enough (seen_by c.args.sight) c.loop-left.met c.args.name.now c.loop-left.class.0 c.loop-left.left
      (omega (arith, w.loop-left-test.false)) ∙ c.loop-left.invariant
]
