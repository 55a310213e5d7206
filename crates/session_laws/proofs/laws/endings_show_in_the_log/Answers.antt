use Rattle.session_laws.proofs.EndLaws.{shows}
use Rattle.session_laws.proofs.laws.endings_show_in_the_log.Goals as goal

pub returns : goal.returns
returns c = λ limits log messages turns e ended. shows ended
