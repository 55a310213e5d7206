use Rattle.message_bodies.specs.Hearing.{MayBeKept}
use Rattle.message_bodies.proofs.hearing.read_at.Goals as goal

pub returns-in_default-clause-err : goal.returns-in_default-clause-err
returns-in_default-clause-err c = MayBeKept.no_memory
