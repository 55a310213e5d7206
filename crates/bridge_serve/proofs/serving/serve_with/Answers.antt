use Rattle.bridge_serve.proofs.Whole.{may_say, served}
use Rattle.bridge_serve.proofs.serving.serve_with.Goals as goal

pub say-ending-requires : goal.say-ending-requires
say-ending-requires g c = may_say c.run-ending.ensures.ran

pub returns-clause-served : goal.returns-clause-served
returns-clause-served g c = served _ _ _ _ _ _ _ c.run-ending.ensures.ran c.say-ending.ensures.says

pub returns-clause-stays : goal.returns-clause-stays
returns-clause-stays g c = g.met.W.Wires.stays_on _ _ _ c.run-ending.ensures.stays c.say-ending.ensures.stays
