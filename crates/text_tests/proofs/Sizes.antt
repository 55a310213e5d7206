-- A cutter counts as many bytes as it was fed, also where it hands some out.
use Rattle.std.proofs.Common.{◌≡◌, ◌+◌, ℕ, List, length}
use Rattle.wire_core.specs.Streams.{Uncut, left}
use Rattle.wire_core.proofs.StreamLaws.{left_size}
use Rattle.dap_frames.specs.Frames.{frame_front}
use Rattle.dap_frames.proofs.FrameLaws.{front-steady}
use Rattle.jdwp_packets.specs.Receiving.{Received, received, left_behind}
use Rattle.jdwp_packets.proofs.ReceivedLaws.{left_behind_size, received_size}

pub taken_frame_size : (u : Uncut)
    → (left (frame_front u.pending) u).at + length (left (frame_front u.pending) u).pending ≡ u.at + length u.pending
taken_frame_size = left_size frame_front front-steady

pub fed_packet_size : (r : Received) (piece : List ℕ)
    → (received r piece).stream.at + length (received r piece).stream.pending ≡ r.stream.at + length r.stream.pending +
    length piece
fed_packet_size = received_size

pub taken_packet_size : (r : Received)
    → (left_behind r).stream.at + length (left_behind r).stream.pending ≡ r.stream.at + length r.stream.pending
taken_packet_size = left_behind_size
