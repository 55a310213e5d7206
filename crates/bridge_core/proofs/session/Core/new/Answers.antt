use Rattle.bridge_core.proofs.GoLaws.{fresh_ready}
use Rattle.bridge_core.proofs.session.Core.new.Goals as goal

pub returns-clause-ready : goal.returns-clause-ready
returns-clause-ready c = rw (c.in_ok-new.ensures, c.new-2.ensures) (fresh_ready c.args.limits.now.waiting)
