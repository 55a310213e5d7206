use Rattle.dap_frames.proofs.Unfinished.{no-prefix}
use Rattle.dap_frames.proofs.laws.no_frame_begins_another.Goals as goal

pub returns : goal.returns
returns c = no-prefix
