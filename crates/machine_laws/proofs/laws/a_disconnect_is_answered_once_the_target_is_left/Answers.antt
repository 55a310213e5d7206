-- Behind that part stands the response.
use Rattle.machine_laws.proofs.LeavingLaws.{disconnects}
use Rattle.machine_laws.proofs.laws.a_disconnect_is_answered_once_the_target_is_left.Goals as goal

pub returns : goal.returns
returns c = disconnects
