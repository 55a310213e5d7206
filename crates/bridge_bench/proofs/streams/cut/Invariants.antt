use Rattle.std.proofs.Common.{length, ◌+◌, ◌*◌, ◌≤◌}
use Rattle.bridge_bench.proofs.streams.cut.Given as goal

-- each round feeds a block
abbrev pub invariant-loop : goal.invariant-loop
invariant-loop g l =
    record {
      few : length l.block ≤ 1638400;
      fed : g.C.Cuts.total l.cutter ≤ 4294967296 + l.counter * 1638400;
    }
