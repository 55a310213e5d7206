use Rattle.std.proofs.Common.{arith}
use Rattle.file_wires.proofs.CourseLaws.{waits_come, waits_pass}
use Rattle.file_wires.proofs.replaying.give_run.Goals as goal

pub returns-then-done-n-clause-gives : goal.returns-then-done-n-clause-gives
returns-then-done-n-clause-gives c =
    rw c.in-Quiets.is (waits_come c.args.links c.args.buffer.now c.in-Quiets.n c.args.done
    (omega (arith, c.if-done-n.true)))

pub returns-else-done-n-clause-passes : goal.returns-else-done-n-clause-passes
returns-else-done-n-clause-passes c =
    rw c.in-Quiets.is (waits_pass c.args.links c.in-Quiets.n c.args.done (omega (arith, c.if-done-n.false)))
