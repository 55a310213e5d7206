-- An effect that leaves the target is a part of a `disconnect`.
use Rattle.machine_laws.proofs.LeavingLaws.{farewells}
use Rattle.machine_laws.proofs.laws.the_target_is_left_once_for_a_disconnect.Goals as goal

pub returns : goal.returns
returns c = farewells
