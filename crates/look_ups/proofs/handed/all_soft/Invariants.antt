use Rattle.std.proofs.Common.{◌≡◌, ◌++◌, length, map}
use Rattle.machine_model.specs.Caught.{soft}
use Rattle.look_ups.proofs.handed.all_soft.Given as goal

-- those that were put, before those that are left
abbrev pub invariant-loop-want : goal.invariant-loop-want
invariant-loop-want l = l.all.items ++ map soft l.wants.items ≡ map soft l.fn.wants.items

abbrev pub decreases-loop-want : goal.decreases-loop-want
decreases-loop-want l = length l.wants.items
