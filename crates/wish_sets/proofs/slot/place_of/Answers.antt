-- The first that waits is the first from the place on.
use Rattle.std.proofs.Common.{◌≡◌, suc, ◌+◌, ◌∙◌, ap, sym, subst, Some, arith}
use Rattle.wish_sets.specs.Cursors.{NoneBefore}
use Rattle.wish_sets.specs.Slots.{awaits}
use Rattle.wish_sets.proofs.CursorLaws.{found_here, found_nowhere, none_more}
use Rattle.wish_sets.proofs.slot.place_of.Goals as goal

pub returns-then-awaits-clause-value : goal.returns-then-awaits-clause-value
returns-then-awaits-clause-value c =
    let same : 0 + c.loop-at.at ≡ c.loop-at.at = omega arith in
    sym (found_here (awaits c.args.outcome) 0 c.loop-at.at c.args.slots.now c.index-slots-at.result c.loop-at.invariant
    c.loop-at-test.true (sym (c.if-awaits.ensures ∙ ap (awaits c.args.outcome) c.index-slots-at.is)) ∙ ap Some same)

pub loop-at-preserved : goal.loop-at-preserved
loop-at-preserved c =
    let next : suc c.loop-at.at ≡ c.loop-at.at + 1 = omega arith in
    subst (λ k. NoneBefore (awaits c.args.outcome) k c.args.slots.now) next
    (none_more (awaits c.args.outcome) c.loop-at.at c.args.slots.now c.index-slots-at.result c.loop-at.invariant
    c.loop-at-test.true (sym (c.if-awaits.ensures ∙ ap (awaits c.args.outcome) c.index-slots-at.is)))

pub returns-clause-value : goal.returns-clause-value
returns-clause-value c =
    sym (found_nowhere (awaits c.args.outcome) 0 c.loop-at.at c.args.slots.now c.loop-at.invariant
    c.loop-at-test.false)
