use Rattle.std.proofs.Common.{subst}
use Rattle.target_server.specs.Hearing.{TargetState}
use Rattle.target_server.specs.Joints.{Advances}
use Rattle.target_server.proofs.target.Target.advance.Goals as goal

pub returns-clause-made : goal.returns-clause-made
returns-clause-made c = λ ok.
    subst (λ (t : TargetState). Advances t.joint c.advance.new.self) c.self.view_is (c.advance.ensures.made ok)
