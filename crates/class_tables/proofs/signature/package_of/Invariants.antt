use Rattle.std.proofs.Common.{◌≡◌, ℕ, ◌<◌, ◌≤◌, false, length, slice_index_or}
use Rattle.std.specs.Prelude.{◌==◌}
use Rattle.class_tables.proofs.signature.package_of.Given as goal

-- no byte from here on is a slash
abbrev pub invariant-loop-end : goal.invariant-loop-end
invariant-loop-end l = (l.end ≤ length l.path)
    × ((k : ℕ) → l.end ≤ k → k < length l.path → (slice_index_or l.path k 0 == 47) ≡ false)

abbrev pub decreases-loop-end : goal.decreases-loop-end
decreases-loop-end l = l.end
