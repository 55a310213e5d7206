use Rattle.std.proofs.Common.{◌∙◌, ◌+◌, ap, arith, sym}
use Rattle.session_summaries.specs.declared.requests.Said.TheVariants.{Request, Last, Passed, Nothing}
use Rattle.session_summaries.proofs.BodyLaws.{requests_at}
use Rattle.session_summaries.proofs.requests.count_requests.Goals as goal
use Rattle.session_summaries.proofs.requests.count_requests.Goals.{in-Request, in-Passed}

pub returns-in-Last : goal.returns-in-Last
returns-in-Last c =
    sym (c.loop-step.invariant.left
    ∙ ap (λ more. c.loop-step.count + more) (requests_at c.args.bytes.now c.loop-step._step-index c.loop-step.cutter
    c.next_said.new.cutter Last c.loop-step-test.true (sym c.in-Last.is ∙ c.in_ok-next_said.ensures.said)
    c.next_said.ensures.left))

pub returns-in-Nothing : goal.returns-in-Nothing
returns-in-Nothing c =
    let none = requests_at c.args.bytes.now c.loop-step._step-index c.loop-step.cutter
    c.next_said.new.cutter Nothing c.loop-step-test.true (sym c.in-Nothing.is ∙ c.in_ok-next_said.ensures.said)
    c.next_said.ensures.left in
    omega (arith, c.loop-step.invariant.left, none)

pub loop-step-preserved : goal.loop-step-preserved
loop-step-preserved c = elim c.match-branch-3.branch [
  | in-Request w ↦
      (let on = requests_at c.args.bytes.now c.loop-step._step-index c.loop-step.cutter
      c.next_said.new.cutter Request c.loop-step-test.true (sym w.in-Request.is ∙ c.in_ok-next_said.ensures.said)
      c.next_said.ensures.left in
      record {
        left = omega (arith, c.loop-step.invariant.left, on, w.count-is);
        few = omega (arith, c.loop-step.invariant.few, w.count-is);
      })
  | in-Passed w ↦
      (let on = requests_at c.args.bytes.now c.loop-step._step-index c.loop-step.cutter
      c.next_said.new.cutter Passed c.loop-step-test.true (sym w.in-Passed.is ∙ c.in_ok-next_said.ensures.said)
      c.next_said.ensures.left in
      record {
        left = omega (arith, c.loop-step.invariant.left, on, w.count-is);
        few = omega (arith, c.loop-step.invariant.few, w.count-is);
      })
]
