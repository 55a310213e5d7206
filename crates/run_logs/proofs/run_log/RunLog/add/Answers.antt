use Rattle.std.proofs.Common.{◌∙◌, arith}
use Rattle.run_logs.proofs.PutLaws.{can_take, taken, no_place}
use Rattle.run_logs.proofs.run_log.RunLog.add.Goals as goal

pub returns-in_err-quiets-clause-succeeds : goal.returns-in_err-quiets-clause-succeeds
returns-in_err-quiets-clause-succeeds c = λ can room.
    let fits = can_take _ _ c.self.invariant.are (rw (← c.self.view_is) at can) in
    absurd (omega (arith, fits, c.in_err-quiets.ensures, c.self.invariant.counted, c.self.invariant.are.few))

pub returns-in_err-quiets-clause-counted : goal.returns-in_err-quiets-clause-counted
returns-in_err-quiets-clause-counted c = λ follows can room.
    let fits = can_take _ _ c.self.invariant.are (rw (← c.self.view_is) at can) in
    absurd (omega (arith, fits, c.in_err-quiets.ensures, c.self.invariant.counted, c.self.invariant.are.few))

pub returns-in_err-reserve-clause-counted : goal.returns-in_err-reserve-clause-counted
returns-in_err-reserve-clause-counted c = λ follows can room.
    let none = no_place _ _ c.self.invariant.are (rw (← c.self.view_is) at follows) in
    let places = rw c.deref.ensures.value at c.places.ensures ∙ none in
    let left = rw (← c.self.view_is) at room in
    absurd (omega (arith, places, left, c.self.invariant.held, c.in_err-reserve.ensures.full))

pub returns-clause-limit : goal.returns-clause-limit
returns-clause-limit c =
    rw (← c.self.view_is)
    (taken _ _ c.self.invariant.are (omega (arith, c.self.invariant.counted, c.self.invariant.are.few)))

pub returns-clause-stays : goal.returns-clause-stays
returns-clause-stays c = λ follows.
    let none = no_place _ _ c.self.invariant.are (rw (← c.self.view_is) at follows) in
    let len = rw c.reserve.ensures.items at c.put.ensures.len in
    rw (← c.self.view_is)
    (omega (arith, none, len, c.put.ensures.capacity, c.reserve.ensures.len, c.reserve.ensures.capacity))
