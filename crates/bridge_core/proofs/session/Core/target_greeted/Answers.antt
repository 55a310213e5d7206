use Rattle.std.proofs.Common.{subst, sym}
use Rattle.bridge_core.specs.Cores.{CoreState, IsReady}
use Rattle.bridge_core.proofs.ClientLaws.{greeted_ready}
use Rattle.bridge_core.proofs.session.Core.target_greeted.Goals as goal

pub returns-clause-ready : goal.returns-clause-ready
returns-clause-ready c =
    let ready = subst (λ (core : CoreState). IsReady core) (sym c.self.view_is) c.requires in
    rw c.greet.ensures (greeted_ready _ ready)
