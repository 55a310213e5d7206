use Rattle.std.proofs.Common.{subst}
use Rattle.target_server.specs.Hearing.{TargetState, Answers, TakesUpTo, HearsUpTo}
use Rattle.target_server.proofs.Feeding.{on_ok, err_on}
use Rattle.target_server.proofs.target.Target.hear.Goals as goal

pub returns-clause-ok : goal.returns-clause-ok
returns-clause-ok c =
    let answers = subst (λ (t : TargetState). Answers t c.answer.new.self) c.in_ok-add.ensures c.in_ok-answer.ensures in
    on_ok c.take_all.result (λ takes. record { greeted = c.answer.new.self; answers = answers; takes = takes })
    c.take_all.ensures.ok

pub returns-clause-err : goal.returns-clause-err
returns-clause-err c =
    let answers = subst (λ (t : TargetState). Answers t c.answer.new.self) c.in_ok-add.ensures c.in_ok-answer.ensures in
    err_on (λ trouble. TakesUpTo c.answer.new.self trouble c.take_all.new.self)
    (λ trouble. HearsUpTo c.args.self.now c.args.piece.now trouble c.take_all.new.self)
    (λ trouble takes. record { greeted = c.answer.new.self; answers = answers; takes = takes }) c.take_all.result
    c.take_all.ensures.err
