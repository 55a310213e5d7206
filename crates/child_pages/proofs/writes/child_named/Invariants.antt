use Rattle.std.proofs.Common.{◌≡◌, bytes_eq, drop, find}
use Rattle.machine_model.specs.Writing.{child_named}
use Rattle.child_pages.proofs.writes.child_named.Given as goal

-- the first of those that are left is the first of all
abbrev pub invariant-loop-child : goal.invariant-loop-child
invariant-loop-child l =
    find (λ child. bytes_eq child.name l.name) (drop l.child-index l.children)
    ≡ child_named l.name l.children
