use Rattle.script_wires.specs.ScriptWires.{IsOver}
use Rattle.file_wires.proofs.played_wires.PlayedWires.new.Goals as goal

pub returns-clause-plays : goal.returns-clause-plays
returns-clause-plays c = IsOver.made c.in_ok-wires.ensures
