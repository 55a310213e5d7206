use Rattle.session_laws.proofs.LeavingLaws.{is_left_to_run_on}
use Rattle.session_laws.proofs.laws.a_target_is_left_to_run_on.Goals as goal

pub returns : goal.returns
returns c = λ limits log messages turns e ended. is_left_to_run_on ended
