use Rattle.request_laws.proofs.ReadLaws.{heard_as}
use Rattle.request_laws.proofs.laws.a_request_is_read_of_its_frame.Goals as goal

pub returns : goal.returns
returns c = heard_as
