use Rattle.std.proofs.Common.{◌≡◌, drop}
use Rattle.class_tables.specs.Lines.{line_start, lesser}
use Rattle.class_tables.proofs.lines.line_start.Given as goal

-- the start in all entries is the lesser of the one found so far and that in the entries that are left
abbrev pub invariant-loop-entry : goal.invariant-loop-entry
invariant-loop-entry l = lesser l.start (line_start l.line (drop l.entry-index l.entries)) ≡ line_start l.line l.entries
