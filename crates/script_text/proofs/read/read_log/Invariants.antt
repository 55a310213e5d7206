use Rattle.std.proofs.Common.{◌≡◌, ◌≤◌, ◌-◌, take, drop}
use Rattle.script_text.specs.Reading.{reading_of}
use Rattle.script_text.proofs.CutLaws.{read_on}
use Rattle.script_text.proofs.read.read_log.Given as goal

-- a line begins at `begin`, and what was read so far goes on from there
abbrev pub invariant-loop-end : goal.invariant-loop-end
invariant-loop-end l = record {
  in_range : l.begin ≤ l.end;
  goes_on : reading_of l.bytes ≡ read_on l.reading (take (l.end - l.begin) (drop l.begin l.bytes)) (drop l.end l.bytes);
}
