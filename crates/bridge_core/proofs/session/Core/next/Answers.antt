use Rattle.bridge_core.proofs.GoLaws.{sized_so}
use Rattle.bridge_core.proofs.session.Core.next.Goals as goal

pub step-requires-clause-sized : goal.step-requires-clause-sized
step-requires-clause-sized c = λ hand held. let ready = rw (← c.self.view_is) at c.requires in sized_so _ ready hand held
