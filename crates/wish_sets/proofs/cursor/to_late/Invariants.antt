-- no slot so far has to be changed
use Rattle.std.proofs.Common.{length, ◌-◌}
use Rattle.wish_sets.specs.Cursors.{IsPast}
use Rattle.wish_sets.proofs.cursor.to_late.Given as goal

abbrev pub decreases-loop-next : goal.decreases-loop-next
decreases-loop-next l = length l.slots - l.cursor.late

abbrev pub invariant-loop-next : goal.invariant-loop-next
invariant-loop-next l = IsPast l.cursor l.slots
