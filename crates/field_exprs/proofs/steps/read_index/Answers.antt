use Rattle.std.proofs.Common.{inl, inr, sym}
use Rattle.field_exprs.specs.declared.expr.Hop.TheVariants.{Index}
use Rattle.field_exprs.proofs.HopBreaks.{index_breaks, no_length, index_before_close}
use Rattle.field_exprs.proofs.steps.read_index.Goals as goal

pub returns-then-is_empty-clause-err : goal.returns-then-is_empty-clause-err
returns-then-is_empty-clause-err c =
    let split = c.split_index-index.result in
    let before = c.split_index-index.ensures.parts in (
      split.0.now,
      before.parts,
      index_breaks c.args.text.now split.0.now split.2.now before
          (inl (no_length split.0.now (sym (c.if-is_empty.ensures {u = tt})))),
    )

pub returns-in_default-clause-err : goal.returns-in_default-clause-err
returns-in_default-clause-err c =
    let split = c.split_index-index.result in
    let before = c.split_index-index.ensures.parts in (
      split.0.now,
      before.parts,
      index_breaks c.args.text.now split.0.now split.2.now before
          (inr (c.in_default.ensures {u = tt})),
    )

pub returns-clause-ok : goal.returns-clause-ok
returns-clause-ok c =
    let split = c.split_index-index.result in (
      Index split.1,
      index_before_close c.args.text.now split.0.now split.2.now c.in-Some.rest.now split.1
          c.split_index-index.ensures.parts
          (sym (c.if-is_empty.ensures {u = tt})) (c.in-Some.ensures {u = tt}) c.split_index-index.ensures.value,
      c.in_ok-push.ensures.ok,
    )
