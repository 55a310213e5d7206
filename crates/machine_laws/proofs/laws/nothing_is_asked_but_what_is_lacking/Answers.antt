-- What stands in the queue was lacking when it was put there.
use Rattle.machine_laws.proofs.QuestionLaws.{are_lacked}
use Rattle.machine_laws.proofs.laws.nothing_is_asked_but_what_is_lacking.Goals as goal

pub returns : goal.returns
returns c = are_lacked
