use Rattle.std.proofs.Common.{◌≡◌, ◌++◌, drop}
use Rattle.machine_model.specs.Variables.{values_known}
use Rattle.child_pages.proofs.paired.values_known.Given as goal

abbrev pub invariant-loop-child : goal.invariant-loop-child
invariant-loop-child l = l.values ++ values_known (drop l.child-index l.children) ≡ values_known l.children
