use Rattle.dap_frames.proofs.Unfinished.{waits-is, waits-from}
use Rattle.dap_frames.proofs.laws.waits_for_a_frame.Goals as goal

pub returns : goal.returns
returns c = λ bytes. (waits-is bytes, waits-from bytes)
