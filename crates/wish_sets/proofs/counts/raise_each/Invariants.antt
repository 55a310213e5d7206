-- what is left has room, and comes to the same
use Rattle.std.proofs.Common.{◌≡◌, ◌+◌, drop, length}
use Rattle.wish_sets.specs.Counts.{most_for, raised_all, HaveRoom}
use Rattle.wish_sets.specs.Standing.{AreSorted}
use Rattle.wish_sets.proofs.counts.raise_each.Given as goal

abbrev pub invariant-loop-wish : goal.invariant-loop-wish
invariant-loop-wish l = record {
  sorted : AreSorted l.slots;
  room : HaveRoom (most_for (length l.those) + l.wish-index) l.slots (drop l.wish-index l.those);
  done : raised_all (drop l.wish-index l.those) l.slots ≡ raised_all l.those l.fn.slots;
}
