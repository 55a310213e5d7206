use Rattle.std.proofs.Common.{◌≡◌, [], sym, subst, rules}
use Rattle.std.specs.Prelude.{IsErrAnd}
use Rattle.std.specs.Bool.{MatchBool}
use Rattle.field_exprs.specs.Grammar.{AreSteps}
use Rattle.field_exprs.specs.Reading.{IsTail, BreaksBefore}
use Rattle.field_exprs.specs.Sticking.{IsStuck}
use Rattle.field_exprs.proofs.ReadSoFar.{Reads, nothing_read, stuck_later, handed_on, hop_looked_for, steps_end}
use Rattle.field_exprs.proofs.steps.read_steps.Goals as goal

pub loop-found-init : goal.loop-found-init
loop-found-init c =
    let text = c.args.text.now in
    (c.utf8.text, ([], subst (Reads text [] text) (sym c.new-found.ensures) (nothing_read text)))

pub returns-in_err-left-clause-err : goal.returns-in_err-left-clause-err
returns-in_err-left-clause-err c =
    let so_far = c.loop-found.invariant.1 in
    let same : IsErrAnd c.from_residual.result (λ other. other ≡ c.in_err-left.field-0.0) =
    c.from_residual.ensures.1 in
    handed_on c.from_residual.result c.in_err-left.field-0.0 (IsStuck IsTail c.args.text.now) same
    (stuck_later c.args.text.now so_far.0 c.loop-found.rest.now c.loop-found.found c.in_err-left.field-0.0 so_far.1
    (c.in_err-left.ensures {u = tt}).err)

pub loop-found-preserved : goal.loop-found-preserved
loop-found-preserved c = (
  search rules,
  hop_looked_for c.args.text.now c.loop-found.rest.now c.loop-found.found
      c.read_hop.new.found c.in_ok-left.field-0 c.in-Some.left c.loop-found.invariant.1 c.in_ok-left.ensures.ok
      c.in-Some.is,
)

pub returns-then-is_empty-clause-ok : goal.returns-then-is_empty-clause-ok
returns-then-is_empty-clause-ok c =
    let ends = steps_end c.args.text.now c.loop-found.rest.now c.skip_blanks-left.result.now c.loop-found.found
    c.read_hop.new.found c.in_ok-left.field-0 c.loop-found.invariant.1 c.in_ok-left.ensures.ok c.in_default.is
    c.skip_blanks-left.ensures in
    subst (λ b. MatchBool b (AreSteps c.args.text.now c.read_hop.new.found)
    (BreaksBefore IsTail c.args.text.now c.skip_blanks-left.result.now)) (sym (c.if-is_empty.ensures {u = tt})) ends

pub returns-clause-err : goal.returns-clause-err
returns-clause-err c =
    let ends = steps_end c.args.text.now c.loop-found.rest.now c.skip_blanks-left.result.now c.loop-found.found
    c.read_hop.new.found c.in_ok-left.field-0 c.loop-found.invariant.1 c.in_ok-left.ensures.ok c.in_default.is
    c.skip_blanks-left.ensures in
    subst (λ b. MatchBool b (AreSteps c.args.text.now c.read_hop.new.found)
    (BreaksBefore IsTail c.args.text.now c.skip_blanks-left.result.now)) (sym (c.if-is_empty.ensures {u = tt})) ends
