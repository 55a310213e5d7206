use Rattle.session_laws.proofs.WaitLaws.{is_answered}
use Rattle.session_laws.proofs.laws.requests_are_answered_where_a_session_waits.Goals as goal

pub returns : goal.returns
returns c = λ limits log messages turns s going waits silent shaken. is_answered going waits silent shaken
