use Rattle.std.proofs.Common.{ap}
use Rattle.target_server.specs.Hearing.{TargetState, stopped}
use Rattle.target_server.proofs.Feeding.{stops_said}
use Rattle.target_server.proofs.target.Target.feed.Goals as goal

pub returns-in-Err-clause-err : goal.returns-in-Err-clause-err
returns-in-Err-clause-err c =
    stops_said c.args.self.now c.hear.new.self _ c.args.piece.now c.in-Err.trouble
    (ap (λ (t : TargetState). stopped c.in-Err.trouble t) c.self-2.view_is) c.in-Err.ensures.err
