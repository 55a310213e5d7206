use Rattle.session_causes.proofs.Deciding.{first_decides}
use Rattle.session_causes.proofs.laws.a_session_passes_no_cause.Goals as goal
use Rattle.session_laws.proofs.AlikeLaws.{read_alike}

pub returns : goal.returns
returns c = λ limits log messages turns s g. first_decides (λ limits log messages turns s g. read_alike g) g
