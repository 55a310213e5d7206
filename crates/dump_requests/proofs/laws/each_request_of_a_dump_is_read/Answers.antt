use Rattle.dump_requests.proofs.AskLaws.{each_read}
use Rattle.dump_requests.proofs.laws.each_request_of_a_dump_is_read.Goals as goal

pub returns : goal.returns
returns c = each_read
