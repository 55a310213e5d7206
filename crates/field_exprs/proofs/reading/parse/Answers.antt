use Rattle.std.proofs.Common.{ℕ, ◌-◌, List, Ok, Err, inl, inr, refl, ap, subst, length, arith, ◌∙◌}
use Rattle.field_exprs.specs.declared.expr.ExprFault.TheVariants.{At}
use Rattle.field_exprs.specs.Reading.{IsAccepted, BreaksBefore, told_place, IsRead}
use Rattle.field_exprs.specs.Grammar.{IsExpr}
use Rattle.field_exprs.specs.Sticking.{IsStuck}
use Rattle.field_exprs.proofs.Parsed.{read_is_parsed}
use Rattle.field_exprs.proofs.Wholes.{goes_wrong}
use Rattle.field_exprs.proofs.reading.parse.Goals as goal

pub returns-then-whole : goal.returns-then-whole
returns-then-whole c =
    let whole = c.as_str-whole.ensures in
    let read : IsRead c.args.text.now (Err (At 4096)) = (
      4096,
      refl,
      inr (record {
        accepted = (c.in-Ok.expr, subst (λ (l : List ℕ). IsExpr l c.in-Ok.expr) whole (c.in-Ok.ensures {u = tt}).ok);
        long = let size = ap (λ (l : List ℕ). length l) whole in omega arith;
        at = refl;
      }),
    ) in
    record { read = read; parsed = read_is_parsed c.args.text.now (Err (At 4096)) read }

pub returns-else-whole-clause-parsed : goal.returns-else-whole-clause-parsed
returns-else-whole-clause-parsed c =
    let whole = c.as_str-whole.ensures in
    read_is_parsed c.args.text.now (Ok c.in-Ok.expr) (
      subst (λ (l : List ℕ). IsExpr l c.in-Ok.expr) whole (c.in-Ok.ensures {u = tt}).ok,
      let size = ap (λ (l : List ℕ). length l) whole in omega arith,
    )

pub returns-in-Err-Before : goal.returns-in-Err-Before
returns-in-Err-Before c =
    let whole = c.as_str-whole.ensures in
    let left = c.in-Err-Before.left.now in
    let is : BreaksBefore IsAccepted c.as_str-whole.result.now left =
    subst (IsStuck IsAccepted c.as_str-whole.result.now) c.in-Err-Before.field-0-is
    (c.in-Err-Before.ensures {u = tt}).err in
    let read : IsRead c.args.text.now (Err (At c.told.result)) = (
      length c.args.text.now - length left,
      c.told.ensures ∙ ap (λ (l : List ℕ). told_place (length l - length left)) whole,
      inl (goes_wrong c.args.text.now left
          (subst (λ (l : List ℕ). BreaksBefore IsAccepted l left) whole is)),
    ) in
    record { read = read; parsed = read_is_parsed c.args.text.now (Err (At c.told.result)) read }
