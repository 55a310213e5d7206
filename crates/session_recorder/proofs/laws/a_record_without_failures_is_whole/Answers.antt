use Rattle.session_recorder.proofs.KeptLaws.{whole_kept}
use Rattle.session_recorder.proofs.laws.a_record_without_failures_is_whole.Goals as goal

pub returns : goal.returns
returns c = whole_kept
