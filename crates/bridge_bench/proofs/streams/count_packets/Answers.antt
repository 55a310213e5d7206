use Rattle.std.proofs.Common.{ap, ◌+◌, ◌∙◌, length}
use Rattle.jdwp_packets.specs.Receiving.{Received}
use Rattle.jdwp_packets.proofs.ReceivedLaws.{left_behind_size}
use Rattle.bridge_bench.proofs.streams.count_packets.Goals as goal

pub loop-preserved : goal.loop-preserved
loop-preserved c =
    ap (λ (r : Received). r.stream.at + length r.stream.pending) c.take.follows.holds-at-none ∙ left_behind_size
    c.loop.cutter ∙ c.loop.invariant
