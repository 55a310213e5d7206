use Rattle.std.proofs.Common.{◌≡◌, ℕ, ◌<◌, ◌≤◌, true, length, get_or}
use Rattle.std.specs.Prelude.{◌==◌, not}
use Rattle.wish_sets.proofs.names.end_of_last.Given as goal

-- each byte from here on is another one
abbrev pub invariant-loop-end : goal.invariant-loop-end
invariant-loop-end l = (l.end ≤ length l.bytes)
    × ((k : ℕ) → l.end ≤ k → k < length l.bytes → not (get_or l.bytes k 0 == l.last) ≡ true)

abbrev pub decreases-loop-end : goal.decreases-loop-end
decreases-loop-end l = l.end
