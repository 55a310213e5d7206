use Rattle.session_laws.proofs.TerminatedLaws.{is_told_once}
use Rattle.session_laws.proofs.laws.terminated_is_told_once.Goals as goal

pub returns : goal.returns
returns c = λ limits log messages turns e ended. is_told_once ended
