use Rattle.dump_requests.proofs.HearLaws.{left_bad}
use Rattle.dump_requests.proofs.laws.no_request_of_a_dump_ends_a_session.Goals as goal

pub returns : goal.returns
returns c = λ limits log messages turns ending talk fault offset are left talks. left_bad are left talk talks fault offset
