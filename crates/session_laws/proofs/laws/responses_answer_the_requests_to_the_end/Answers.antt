use Rattle.session_laws.proofs.ServeLaws.{are_served_in_all}
use Rattle.session_laws.proofs.laws.responses_answer_the_requests_to_the_end.Goals as goal

pub returns : goal.returns
returns c = λ limits log messages turns e ended. are_served_in_all ended
