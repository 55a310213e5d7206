use Rattle.std.proofs.Common.{ap, ◌+◌, ◌∙◌, length}
use Rattle.jdwp_packets.specs.Receiving.{Received}
use Rattle.jdwp_packets.proofs.ReceivedLaws.{received_size}
use Rattle.bridge_bench.proofs.streams.feed_packets.Goals as goal

pub returns-in-Ok : goal.returns-in-Ok
returns-in-Ok c =
    ap (λ (r : Received). r.stream.at + length r.stream.pending) c.in-Ok.ensures.ok ∙ received_size c.args.cutter.now
    c.args.piece.now
