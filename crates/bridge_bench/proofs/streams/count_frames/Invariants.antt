use Rattle.std.proofs.Common.{◌≡◌, ◌+◌, length}
use Rattle.bridge_bench.proofs.streams.count_frames.Given as goal

-- as many bytes were fed as before
abbrev pub invariant-loop : goal.invariant-loop
invariant-loop l = l.cutter.at + length l.cutter.pending ≡ l.fn.cutter.at + length l.fn.cutter.pending
