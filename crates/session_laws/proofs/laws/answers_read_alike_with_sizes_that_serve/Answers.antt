use Rattle.session_laws.proofs.AlikeLaws.{read_alike}
use Rattle.session_laws.proofs.laws.answers_read_alike_with_sizes_that_serve.Goals as goal

pub returns : goal.returns
returns c = λ limits log messages turns s going. read_alike going
