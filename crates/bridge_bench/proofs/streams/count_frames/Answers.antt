use Rattle.std.proofs.Common.{ap, ◌+◌, ◌∙◌, length}
use Rattle.wire_core.specs.Streams.{Uncut}
use Rattle.wire_core.proofs.StreamLaws.{left_size}
use Rattle.dap_frames.specs.Frames.{frame_front}
use Rattle.dap_frames.proofs.FrameLaws.{front-steady}
use Rattle.bridge_bench.proofs.streams.count_frames.Goals as goal

pub loop-preserved : goal.loop-preserved
loop-preserved c =
    ap (λ (u : Uncut). u.at + length u.pending) c.take.follows.holds-at-none ∙ left_size frame_front front-steady
    c.loop.cutter ∙ c.loop.invariant
