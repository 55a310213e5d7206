use Rattle.std.proofs.Common.{◌≡◌, ◌≤◌, ◌-◌, [], take, drop}
use Rattle.ask_texts.specs.Reading.{read_on}
use Rattle.ask_texts.proofs.read.read_all.Given as goal

-- a line begins at `begin`, and what was read so far goes on from there
abbrev pub invariant-loop-end : goal.invariant-loop-end
invariant-loop-end l = record {
  in_range : l.begin ≤ l.end;
  goes_on : read_on l.fn.start [] l.bytes
      ≡ read_on l.reading (take (l.end - l.begin) (drop l.begin l.bytes)) (drop l.end l.bytes);
}
