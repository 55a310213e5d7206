use Rattle.std.proofs.Common.{◌≡◌, ◌++◌, drop}
use Rattle.world_model.specs.Moving.{threads_left}
use Rattle.world_model.proofs.moving.threads_left.Given as goal

-- the threads that are left of all are those found so far, and those of the rest
abbrev pub invariant-loop-row : goal.invariant-loop-row
invariant-loop-row l =
    l.list ++ threads_left l.thread (drop l.row-index l.threads) ≡ threads_left l.thread l.threads
