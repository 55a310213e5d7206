use Rattle.std.proofs.Common.{◌≡◌, Err}
use Rattle.std.proofs.lemmas.Result.{err_from_is_err_and}
use Rattle.target_server.specs.Hearing.{Takes, TakesUpTo, next_of, passed}
use Rattle.target_server.proofs.Feeding.{said_on}
use Rattle.target_server.proofs.target.Target.take_all.Goals as goal

pub loop-init : goal.loop-init
loop-init c = Takes.none

pub returns-in_err-take_one-clause-err : goal.returns-in_err-take_one-clause-err
returns-in_err-take_one-clause-err c =
    let gives = err_from_is_err_and c.from_residual.result c.from_residual.ensures.1 in
    rw (gives.1, gives.2)
    (said_on (λ trouble. (next_of c.loop.self ≡ Err trouble) × (c.take_one.new.self ≡ passed c.loop.self))
    (λ trouble. TakesUpTo c.args.self.now trouble c.take_one.new.self)
    (λ trouble h. record { last = c.loop.self; takes = c.loop.invariant; refused = h.0; same = h.1 })
    c.in_err-take_one.field-0.0 c.in_err-take_one.ensures.refused)

pub loop-preserved : goal.loop-preserved
loop-preserved c =
    let more = c.if-branch.true in
    Takes.one_more c.loop.invariant (c.in_ok-take_one.ensures.took cc)
