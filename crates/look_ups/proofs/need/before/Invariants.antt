use Rattle.std.proofs.Common.{◌≡◌, ◌++◌, length}
use Rattle.look_ups.proofs.need.before.Given as goal

-- those that are left, before those that were put
abbrev pub invariant-loop-want : goal.invariant-loop-want
invariant-loop-want l = l.wants.items ++ l.others.items ≡ l.fn.wants.items ++ l.fn.others.items

abbrev pub decreases-loop-want : goal.decreases-loop-want
decreases-loop-want l = length l.wants.items
