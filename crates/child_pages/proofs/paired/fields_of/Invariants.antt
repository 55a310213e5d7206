use Rattle.std.proofs.Common.{◌≡◌, ◌++◌, drop}
use Rattle.machine_model.specs.Variables.{fields_of}
use Rattle.child_pages.proofs.paired.fields_of.Given as goal

abbrev pub invariant-loop-child : goal.invariant-loop-child
invariant-loop-child l = l.fields ++ fields_of (drop l.child-index l.children) ≡ fields_of l.children
