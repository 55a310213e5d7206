-- what is left comes to the same
use Rattle.std.proofs.Common.{◌≡◌, drop}
use Rattle.wish_sets.specs.Counts.{lowered_all}
use Rattle.wish_sets.specs.Standing.{AreSorted}
use Rattle.wish_sets.proofs.counts.lower_each.Given as goal

abbrev pub invariant-loop-wish : goal.invariant-loop-wish
invariant-loop-wish l = record {
  sorted : AreSorted l.slots;
  done : lowered_all (drop l.wish-index l.those) l.slots ≡ lowered_all l.those l.fn.slots;
}
