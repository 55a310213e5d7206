use Rattle.script_wires.proofs.CourseLaws.{played_goes}
use Rattle.script_wires.proofs.laws.a_played_target_moves.Goals as goal

pub returns : goal.returns
returns c = played_goes
