use Rattle.std.proofs.Common.{length, ◌-◌, ◌≡◌, ◌+◌, ◌≤◌}
use Rattle.bridge_bench.proofs.streams.feed_block.Given as goal

-- what stands before `from` was fed
abbrev pub invariant-loop-from : goal.invariant-loop-from
invariant-loop-from g l =
    let total = g.C.Cuts.total in
    record {
      within : l.from ≤ length l.block;
      fed : total l.cutter ≡ total l.fn.cutter + l.from;
    }

abbrev pub decreases-loop-from : goal.decreases-loop-from
decreases-loop-from g l = length l.block - l.from
