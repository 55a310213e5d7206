use Rattle.session_recorder.proofs.KeptLaws.{links_same}
use Rattle.session_recorder.proofs.laws.a_recorder_tells_its_links.Goals as goal

pub returns : goal.returns
returns c = links_same
