use Rattle.wire_core.specs.Streams.{uncut}
use Rattle.wire_core.proofs.StreamLaws.{Hands-pieces, Cuts-one}
use Rattle.dap_frames.specs.Frames.{frame_front}
use Rattle.dap_frames.proofs.FrameLaws.{front-steady}
use Rattle.dap_frames.proofs.laws.any_pieces.Goals as goal

pub returns : goal.returns
returns c = record {
  handed = λ pieces frames left reads rest.
      record { hands = Hands-pieces frame_front front-steady uncut pieces frames left reads; rest = rest };
  only = λ stream frames others left rest a b. Cuts-one frame_front stream frames left others rest a b;
}
