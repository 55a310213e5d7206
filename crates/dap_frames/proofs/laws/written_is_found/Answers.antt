use Rattle.dap_frames.proofs.FrameLaws.{frame-again}
use Rattle.dap_frames.proofs.laws.written_is_found.Goals as goal

pub returns : goal.returns
returns c = frame-again
