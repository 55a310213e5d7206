use Rattle.session_recorder.proofs.KeptLaws.{came_kept}
use Rattle.session_recorder.proofs.laws.a_record_has_what_came.Goals as goal

pub returns : goal.returns
returns c = came_kept
