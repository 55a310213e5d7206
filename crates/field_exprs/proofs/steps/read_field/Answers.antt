use Rattle.std.proofs.Common.{List, [], ℕ, ◌++◌, refl, ap, sym, ◌∙◌}
use Rattle.std.specs.Cmp.Lexicographic.{bytes_decides}
use Rattle.std.specs.Prelude.{codes}
use Rattle.field_exprs.proofs.HopBreaks.{field_breaks, this_breaks}
use Rattle.field_exprs.proofs.steps.read_field.Goals as goal

pub returns-in_default-clause-err : goal.returns-in_default-clause-err
returns-in_default-clause-err c = ([], refl, field_breaks c.args.text.now (c.in_default.ensures {u = tt}))

pub returns-then-eq-clause-err : goal.returns-then-eq-clause-err
returns-then-eq-clause-err c =
    let before = c.in-Some.ensures {u = tt} in
    let this = (bytes_decides c.in-Some.word.now (codes "this")).0 (sym (c.if-eq.ensures {u = tt})) in (
      codes "this",
      before.parts ∙ ap (λ (l : List ℕ). l ++ c.in-Some.left.now) this,
      this_breaks c.in-Some.left.now before.stops,
    )
