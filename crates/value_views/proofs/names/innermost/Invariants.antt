use Rattle.std.proofs.Common.{◌≡◌, ◌+◌, ◌≤◌, ◌++◌, length}
use Rattle.value_views.specs.Names.{brackets, class_name}
use Rattle.value_views.proofs.names.innermost.Given as goal

-- what was seen of the name so far is a pair for each dimension
abbrev pub invariant-loop-rest : goal.invariant-loop-rest
invariant-loop-rest l = (class_name l.signature ≡ class_name l.element ++ brackets l.dimensions)
    × (l.dimensions + length l.element ≤ length l.signature)

abbrev pub decreases-loop-rest : goal.decreases-loop-rest
decreases-loop-rest l = length l.element
