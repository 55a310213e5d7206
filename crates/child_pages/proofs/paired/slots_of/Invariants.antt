use Rattle.std.proofs.Common.{◌≡◌, ◌++◌, drop}
use Rattle.machine_model.specs.Variables.{slots_of}
use Rattle.child_pages.proofs.paired.slots_of.Given as goal

abbrev pub invariant-loop-child : goal.invariant-loop-child
invariant-loop-child l = l.slots ++ slots_of (drop l.child-index l.children) ≡ slots_of l.children
