-- what is left is put back to the same
use Rattle.std.proofs.Common.{◌≡◌}
use Rattle.std.specs.Prelude.{vec_len}
use Rattle.wish_sets.specs.Tables.{undone}
use Rattle.wish_sets.proofs.known.put_back.Given as goal

abbrev pub decreases-loop-one : goal.decreases-loop-one
decreases-loop-one l = vec_len l.replaced

abbrev pub invariant-loop-one : goal.invariant-loop-one
invariant-loop-one l = undone l.replaced.items l.known.entries ≡ undone l.fn.replaced.items l.fn.known.entries
