-- The lines of a schedule that are left, as they are kept.
use Rattle.std.specs.Prelude.{List, drop}
use Rattle.script_rows.specs.declared.script.Turn.{Turn}
use Rattle.script_wires.specs.declared.schedule.Schedule.{Schedule}

abbrev pub lines_left : Schedule → List Turn
lines_left s = drop s.done s.lines
