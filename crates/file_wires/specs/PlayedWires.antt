-- Wires that play a script.
use Rattle.std.specs.Prelude.{◌≡◌, Bool, false, List}
use Rattle.script_rows.specs.declared.script.Script.{Script}
use Rattle.script_wires.specs.ScriptWires.{IsOver, StaysOver, is_alone, outside_of}
use Rattle.script_wires.specs.Played.{Played}
use Rattle.script_wires.specs.Playing.{Playing}
use Rattle.wire_core.specs.Outside.{Outside}
use Rattle.wire_core.specs.declared.outside.Entry.{Entry}
use Rattle.file_wires.specs.declared.played_wires.PlayedWires.{PlayedWires}

-- what the wires tell of themselves
abbrev pub told_by : PlayedWires → Outside
told_by w = outside_of w.wires

-- whether the target alone was asked for
abbrev pub is_reached : PlayedWires → Bool
is_reached w = is_alone (told_by w).asked

-- the wires were made over this script, whatever was asked of them
abbrev pub IsPlayOf : Script → PlayedWires → Type 0
IsPlayOf script w = IsOver script w.wires

-- what they were made over they are over still
abbrev pub StaysPlay : PlayedWires → PlayedWires → Type 0
StaysPlay old new = StaysOver old.wires new.wires

-- a log is one of a script, whatever the bridge sent in it
pub record IsLogOf (script : Script) (log : List Entry) : Type 0 where
  pub now : Playing
  pub played : Played script false log now
