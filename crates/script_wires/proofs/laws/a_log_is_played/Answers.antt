use Rattle.script_wires.proofs.PlayedLaws.{over_has}
use Rattle.script_wires.proofs.laws.a_log_is_played.Goals as goal

pub returns : goal.returns
returns c = over_has
