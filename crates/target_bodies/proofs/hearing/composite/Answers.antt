use Rattle.target_bodies.specs.Hearing.{IsBadBody}
use Rattle.target_bodies.proofs.hearing.composite.Goals as goal

pub returns-then-body-ge-TOO_LONG-clause-err : goal.returns-then-body-ge-TOO_LONG-clause-err
returns-then-body-ge-TOO_LONG-clause-err c = IsBadBody.no_memory
