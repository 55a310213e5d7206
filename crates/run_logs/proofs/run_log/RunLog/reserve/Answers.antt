use Rattle.std.proofs.Common.{arith}
use Rattle.run_logs.proofs.run_log.RunLog.reserve.Goals as goal

pub returns-in_err-reserve-clause-succeeds : goal.returns-in_err-reserve-clause-succeeds
returns-in_err-reserve-clause-succeeds c = λ there.
    let left = rw (← c.self.view_is) at there in
    absurd (omega (arith, left, c.self.invariant.held, c.in_err-reserve.ensures.full))
