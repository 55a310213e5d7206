use Rattle.std.proofs.Common.{◌≡◌, ◌++◌, drop}
use Rattle.child_pages.proofs.paired.add_values.Given as goal

abbrev pub invariant-loop-value : goal.invariant-loop-value
invariant-loop-value l = l.values ++ drop l.value-index l.found ≡ l.initial.values ++ l.found
