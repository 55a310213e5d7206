use Rattle.target_bodies.specs.Hearing.{IsBadAnswer, ReadsAnswer}
use Rattle.target_bodies.proofs.hearing.answer.Goals as goal

pub returns-then-body-ge-TOO_LONG-clause-err : goal.returns-then-body-ge-TOO_LONG-clause-err
returns-then-body-ge-TOO_LONG-clause-err c = IsBadAnswer.no_memory
