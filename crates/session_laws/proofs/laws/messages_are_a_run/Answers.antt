use Rattle.session_laws.proofs.RunLaws.{is_run}
use Rattle.session_laws.proofs.laws.messages_are_a_run.Goals as goal

pub returns : goal.returns
returns c = λ limits log messages turns s going. is_run going
