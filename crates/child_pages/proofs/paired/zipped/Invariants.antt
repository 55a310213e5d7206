use Rattle.std.proofs.Common.{◌≡◌, ◌≤◌, ◌++◌, drop, length, zip}
use Rattle.child_pages.proofs.paired.zipped.Given as goal

-- what was paired, and what is paired behind it
abbrev pub invariant-loop-child : goal.invariant-loop-child
invariant-loop-child l = record {
  within : l.place ≤ length l.values;
  paired : l.pairs ++ zip l.children.items (drop l.place l.values) ≡ zip l.initial.children.items l.values;
}

abbrev pub decreases-loop-child : goal.decreases-loop-child
decreases-loop-child l = length l.children.items
