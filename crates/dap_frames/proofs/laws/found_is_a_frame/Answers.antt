use Rattle.dap_frames.proofs.FrameLaws.{frame-found, frame-is}
use Rattle.dap_frames.proofs.laws.found_is_a_frame.Goals as goal

pub returns : goal.returns
returns c = λ bytes frame n. (frame-is bytes frame n, frame-found bytes frame n)
