use Rattle.std.proofs.Common.{◌∙◌}
use Rattle.file_wires.proofs.CourseLaws.{gives_at, passed_over, run_here}
use Rattle.file_wires.proofs.replaying.give.Goals as goal

pub returns-in-Some-clause-comes : goal.returns-in-Some-clause-comes
returns-in-Some-clause-comes c =
    c.loop-run.invariant
    ∙ gives_at c.args.links c.give_run.new.buffer c.args.runs.now c.index-runs-run.result c.loop-run.run c.loop-run.done
    c.behind-place.result c.in-Some.happening
    (run_here c.args.runs.now c.index-runs-run.result c.loop-run.run c.loop-run-test.true c.index-runs-run.is)
    c.in-Some.ensures.gives c.behind-place.ensures

pub loop-run-preserved : goal.loop-run-preserved
loop-run-preserved c =
    c.loop-run.invariant
    ∙ passed_over c.args.links c.args.runs.now c.index-runs-run.result c.loop-run.run c.loop-run.done
    (run_here c.args.runs.now c.index-runs-run.result c.loop-run.run c.loop-run-test.true c.index-runs-run.is)
    c.in_default.ensures.passes
