use Rattle.target_bodies.specs.Hearing.{IsBadBody}
use Rattle.target_bodies.proofs.hearing.composite_refused.Goals as goal

pub returns-in-None : goal.returns-in-None
returns-in-None c = λ used body is. IsBadBody.no_memory
