use Rattle.std.proofs.Common.{◌∙◌, ◌+◌, ap, drop, sym, None, Some}
use Rattle.session_summaries.specs.Bodies.{bodies_within}
use Rattle.session_summaries.specs.Told.{told_in, with_told}
use Rattle.session_summaries.proofs.BodyLaws.{none_last, told_at_step, told_joined}
use Rattle.session_summaries.proofs.told.sum_told.Goals as goal

pub returns-in-None : goal.returns-in-None
returns-in-None c =
    sym (c.loop-step.invariant
    ∙ ap (λ more. with_told c.loop-step.told more) (told_at_step c.args.bytes.now c.loop-step._step-index
    c.loop-step.cutter c.next_told.new.cutter None c.loop-step-test.true
    (sym c.in-None.is ∙ c.in_ok-one.ensures.told) c.next_told.ensures.left)
    ∙ none_last c.loop-step.told)

pub loop-step-preserved : goal.loop-step-preserved
loop-step-preserved c =
    let more = told_in (bodies_within (drop (c.loop-step._step-index + 1) c.args.bytes.now) c.next_told.new.cutter.pending) in
    c.loop-step.invariant
    ∙ ap (λ rest. with_told c.loop-step.told rest) (told_at_step c.args.bytes.now c.loop-step._step-index
    c.loop-step.cutter c.next_told.new.cutter (Some c.in-Some.one) c.loop-step-test.true
    (sym c.in-Some.is ∙ c.in_ok-one.ensures.told) c.next_told.ensures.left)
    ∙ sym (told_joined c.loop-step.told c.in-Some.one more)
    ∙ ap (λ told. with_told told more) (sym c.in_ok-told-in-Some.ensures)
