use Rattle.std.proofs.Common.{sym, ◌∙◌, arith}
use Rattle.file_wires.proofs.CourseLaws.{end_comes, end_passes, failure_comes, failure_passes, one_wait_comes}
use Rattle.file_wires.proofs.CourseLaws.{one_wait_passes, out_passes}
use Rattle.file_wires.proofs.replaying.give_one.Goals as goal

pub returns-in-Out-clause-passes : goal.returns-in-Out-clause-passes
returns-in-Out-clause-passes c = rw c.in-Out.is (out_passes c.args.links c.in-Out.field-0 c.in-Out.field-1 c.args.done)

pub returns-then-is_open-clause-gives : goal.returns-then-is_open-clause-gives
returns-then-is_open-clause-gives c =
    rw c.in-Shut.is (end_comes c.args.links c.in-Shut.side c.args.buffer.now c.args.done
    (sym c.is_open.ensures ∙ c.if-is_open.true))

pub returns-else-is_open-clause-passes : goal.returns-else-is_open-clause-passes
returns-else-is_open-clause-passes c =
    rw c.in-Shut.is (end_passes c.args.links c.in-Shut.side c.args.done (sym c.is_open.ensures ∙ c.if-is_open.false))

pub returns-then-is_open-2-clause-gives : goal.returns-then-is_open-2-clause-gives
returns-then-is_open-2-clause-gives c =
    rw c.in-Failed.is (failure_comes c.args.links c.in-Failed.side c.args.buffer.now c.args.done
    (sym c.is_open-in-Failed.ensures ∙ c.if-is_open-2.true))

pub returns-else-is_open-2-clause-passes : goal.returns-else-is_open-2-clause-passes
returns-else-is_open-2-clause-passes c =
    rw c.in-Failed.is (failure_passes c.args.links c.in-Failed.side c.args.done
    (sym c.is_open-in-Failed.ensures ∙ c.if-is_open-2.false))

pub returns-then-done-lt1-clause-gives : goal.returns-then-done-lt1-clause-gives
returns-then-done-lt1-clause-gives c =
    rw c.in-Quiet.is (one_wait_comes c.args.links c.args.buffer.now c.args.done (omega (arith, c.if-done-lt1.true)))

pub returns-else-done-lt1-clause-passes : goal.returns-else-done-lt1-clause-passes
returns-else-done-lt1-clause-passes c =
    rw c.in-Quiet.is (one_wait_passes c.args.links c.args.done (omega (arith, c.if-done-lt1.false)))
