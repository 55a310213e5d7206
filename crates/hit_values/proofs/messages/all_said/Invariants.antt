use Rattle.std.proofs.Common.{◌≡◌, ◌++◌, length, map}
use Rattle.machine_model.specs.Judging.{said_as}
use Rattle.hit_values.proofs.messages.all_said.Given as goal

-- those so far, before those that are left
abbrev pub invariant-loop-text : goal.invariant-loop-text
invariant-loop-text l = l.said ++ map said_as l.taken.items ≡ map said_as l.fn.taken.items

abbrev pub decreases-loop-text : goal.decreases-loop-text
decreases-loop-text l = length l.taken.items
