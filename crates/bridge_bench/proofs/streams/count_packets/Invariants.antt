use Rattle.std.proofs.Common.{◌≡◌, ◌+◌, length}
use Rattle.bridge_bench.proofs.streams.count_packets.Given as goal

-- as many bytes were fed as before
abbrev pub invariant-loop : goal.invariant-loop
invariant-loop l =
    l.cutter.stream.at + length l.cutter.stream.pending ≡ l.fn.cutter.stream.at + length l.fn.cutter.stream.pending
