use Rattle.target_bodies.specs.Hearing.{IsBadAnswer}
use Rattle.target_bodies.proofs.hearing.answer_refused.Goals as goal

pub returns-in-None : goal.returns-in-None
returns-in-None c = λ used asked body is. IsBadAnswer.no_memory
